use Rattle.std.proofs.Common.{◌-◌, ◌≡◌, ◌≤◌, true}
use Rattle.flute_asides.specs.Asides.{OnlyFrees}
use Rattle.flute_asides.proofs.making.unnamed.Given as goal

pub record IsGoingOn (only_frees more : Type 0) : Type 0 where
  pub frees : only_frees
  pub stuck : more

abbrev pub invariant-loop-number : goal.invariant-loop-number
invariant-loop-number g l = IsGoingOn
    (g.C.AsideCalls.told ≡ true → OnlyFrees l.fn.prefix (g.C.AsideCalls.run l.initial.calls).now
    (g.C.AsideCalls.run l.calls).now)
    (g.C.AsideCalls.stuck l.initial.calls ≤ g.C.AsideCalls.stuck l.calls)

abbrev pub decreases-loop-number : goal.decreases-loop-number
decreases-loop-number g l = 1000 - l.number
