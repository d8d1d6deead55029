use Rattle.std.proofs.Common.{length, ◌-◌, ◌≡◌}
use Rattle.flute_output.proofs.Runs.{IsFilled}
use Rattle.flute_output.proofs.beside.fill.Given as goal

pub record IsGoingOn (same_file filled : Type 0) : Type 0 where
  pub file : same_file
  pub so_far : filled

abbrev pub invariant-loop-written : goal.invariant-loop-written
invariant-loop-written g l = IsGoingOn
    (g.C.Calls.number l.file ≡ g.C.Calls.number l.initial.file)
    (IsFilled g.C.Calls.told (g.C.Calls.number l.initial.file) l.bytes l.written
    (g.C.Calls.run l.initial.calls) (g.C.Calls.run l.calls))

abbrev pub decreases-loop-written : goal.decreases-loop-written
decreases-loop-written g l = length l.bytes - l.written
