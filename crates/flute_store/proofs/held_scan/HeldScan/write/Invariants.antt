-- HeldScan::write: what holds in its loop.
use Rattle.std.proofs.Common.{◌≡◌, [], ◌-◌, take}
use Rattle.flute_store.proofs.Common.{all_left, walk_in, bound, IsHeldScan, bytes_left}
use Rattle.flute_store.proofs.BytesSteps.{IsWriting}
use Rattle.flute_store.proofs.held_scan.HeldScan.write.Given as goal

abbrev pub invariant-loop-bytes : goal.invariant-loop-bytes
invariant-loop-bytes g l = IsHeldScan l.self × (all_left (walk_in l.self) ≡ [])
    × IsWriting (g.W.Sink.written l.initial.sink) (g.W.Sink.written l.sink)
    (take l.len (bytes_left (walk_in l.initial.self))) (take l.rest (bytes_left (walk_in l.self)))
    × (g.W.Sink.failures l.sink ≡ g.W.Sink.failures l.initial.sink)

abbrev pub decreases-loop-bytes : goal.decreases-loop-bytes
decreases-loop-bytes g l = bound l.self - l.self.ticks
