-- StdSource::read: while a call is repeated, no failure is counted, and known bytes stay the same.
use Rattle.std.proofs.Common.{◌≡◌}
use Rattle.std.specs.Io.KnownBytes.{Keeps}
use Rattle.flute_parts.proofs.std_source.StdSourceSource.read.Given as goal

abbrev pub invariant-loop : goal.invariant-loop
invariant-loop g l = (l.self.failures.count ≡ l.fn.self.failures.count) × Keeps
    (g.R.Read.remaining l.fn.self.reader) (g.R.Read.remaining l.self.reader)
