use Rattle.std.proofs.Common.{◌≡◌, ◌≤◌, length, take}
use Rattle.flute_memory.specs.MemoryFolders.{within}
use Rattle.flute_memory.proofs.changes.target_within.Given as goal

pub record IsSought (bound same : Type 0) : Type 0 where
  pub inside : bound
  pub follows : same

abbrev pub invariant-loop-left : goal.invariant-loop-left
invariant-loop-left l = IsSought (l.left ≤ length l.fn.changes)
    (within l.fn.folder l.fn.name l.fn.changes
    ≡ within l.fn.folder l.fn.name (take l.left l.fn.changes))

abbrev pub decreases-loop-left : goal.decreases-loop-left
decreases-loop-left l = l.left
