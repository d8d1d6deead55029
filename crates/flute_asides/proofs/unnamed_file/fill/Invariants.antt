use Rattle.std.proofs.Common.{length, ◌-◌, ◌≡◌, ◌≤◌, true}
use Rattle.flute_asides.specs.Asides.{IsAtEnd}
use Rattle.flute_asides.proofs.Fills.{IsFilled}
use Rattle.flute_asides.proofs.unnamed_file.fill.Given as goal

pub record IsGoingOn (is_within same_file same_stuck is_filled : Type 0) : Type 0 where
  pub within : is_within
  pub file : same_file
  pub stuck : same_stuck
  pub so_far : is_filled

abbrev pub invariant-loop-written : goal.invariant-loop-written
invariant-loop-written g l = IsGoingOn
    (l.written ≤ length l.bytes)
    ((g.C.AsideCalls.opened l.file).number ≡ (g.C.AsideCalls.opened l.initial.file).number)
    (g.C.AsideCalls.stuck l.calls ≡ g.C.AsideCalls.stuck l.initial.calls)
    (g.C.AsideCalls.told ≡ true
    → IsAtEnd (g.C.AsideCalls.opened l.initial.file) (g.C.AsideCalls.run l.initial.calls).now
    → IsFilled (g.C.AsideCalls.opened l.initial.file) (g.C.AsideCalls.opened l.file) l.bytes l.written
    (g.C.AsideCalls.run l.initial.calls).now (g.C.AsideCalls.run l.calls).now)

abbrev pub decreases-loop-written : goal.decreases-loop-written
decreases-loop-written g l = length l.bytes - l.written
