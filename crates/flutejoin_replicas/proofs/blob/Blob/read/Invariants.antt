-- What is kept so far is what was read so far.
use Rattle.std.proofs.Common.{◌≡◌, ◌≤◌, ◌-◌, length}
use Rattle.std.specs.Io.KnownBytes.{Consumes}
use Rattle.flutejoin_replicas.proofs.blob.Blob.read.Given as goal

abbrev pub invariant-loop-bytes : goal.invariant-loop-bytes
invariant-loop-bytes g l = (l.piece.len ≡ 65536) × (length l.bytes.items ≤ 4294967295)
    × Consumes (g.R.Source.unread l.fn.source) (g.R.Source.unread l.source) l.bytes.items
    × (g.R.Source.failures l.source ≡ g.R.Source.failures l.fn.source)

abbrev pub decreases-loop-bytes : goal.decreases-loop-bytes
decreases-loop-bytes g l = 4294967295 - length l.bytes.items
