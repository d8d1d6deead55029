use Rattle.std.proofs.Common.{◌≡◌, ◌≤◌, length, take}
use Rattle.flute_memory.specs.MemoryDisk.{run_of, leads}
use Rattle.flute_memory.proofs.changes.target.Given as goal

pub record IsSought (bound same : Type 0) : Type 0 where
  pub within : bound
  pub follows : same

abbrev pub invariant-loop-left : goal.invariant-loop-left
invariant-loop-left l = IsSought (l.left ≤ length l.fn.changes)
    (leads (run_of l.fn.changes) l.fn.name
    ≡ leads (run_of (take l.left l.fn.changes)) l.wanted)

abbrev pub decreases-loop-left : goal.decreases-loop-left
decreases-loop-left l = l.left
