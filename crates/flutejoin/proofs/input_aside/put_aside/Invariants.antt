-- put_aside: what was put into the sink is what was read so far.
use Rattle.std.proofs.Common.{◌≡◌, ◌≤◌, ◌-◌, List, ℕ, length}
use Rattle.std.specs.Io.KnownBytes.{Appends, Consumes}
use Rattle.flutejoin.proofs.input_aside.put_aside.Given as goal

abbrev pub invariant-loop-count : goal.invariant-loop-count
invariant-loop-count g l = (l.size ≤ 4294967295) × ((bytes : List ℕ) × Consumes
    (g.R.Source.unread l.fn.source) (g.R.Source.unread l.source) bytes × Appends
    (g.W.Sink.written l.fn.sink) (g.W.Sink.written l.sink) bytes × (l.size ≡ length bytes)) ×
    (g.W.Sink.failures l.sink ≡ g.W.Sink.failures l.fn.sink)

abbrev pub decreases-loop-count : goal.decreases-loop-count
decreases-loop-count g l = 4294967295 - l.size
