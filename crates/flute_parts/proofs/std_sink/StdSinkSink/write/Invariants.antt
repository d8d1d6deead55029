-- StdSink::write: while a call is repeated, no failure is counted and known bytes stay as they are.
use Rattle.std.proofs.Common.{◌≡◌}
use Rattle.std.specs.Io.KnownBytes.{Keeps}
use Rattle.flute_parts.proofs.std_sink.StdSinkSink.write.Given as goal

abbrev pub invariant-loop : goal.invariant-loop
invariant-loop g l = (l.self.failures.count ≡ l.fn.self.failures.count) × Keeps
    (g.W.Write.contents l.fn.self.writer) (g.W.Write.contents l.self.writer)
