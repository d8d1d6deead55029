use Rattle.std.proofs.Common.{◌≡◌, option_map}
use Rattle.flute_asides.proofs.Copies.{Copied, known_of}
use Rattle.flute_asides.proofs.pouring.copy_on.Given as goal

pub record IsGoingOn (same is_copied : Type 0) : Type 0 where
  pub failures : same
  pub copied : is_copied

abbrev pub invariant-loop-left : goal.invariant-loop-left
invariant-loop-left g l = IsGoingOn
    (g.W.Sink.failures l.sink ≡ g.W.Sink.failures l.initial.sink)
    (Copied (known_of g.C.AsideCalls.told (option_map g.C.AsideCalls.opened l.initial.file.file)
    (g.C.AsideCalls.run l.initial.file.calls).now)
    (known_of g.C.AsideCalls.told (option_map g.C.AsideCalls.opened l.file.file)
    (g.C.AsideCalls.run l.file.calls).now)
    (g.W.Sink.written l.initial.sink) (g.W.Sink.written l.sink) l.fn.count l.left)

abbrev pub decreases-loop-left : goal.decreases-loop-left
decreases-loop-left g l = l.left
