use Rattle.std.proofs.Common.{◌≡◌, ◌≤◌, ◌-◌, length, take}
use Rattle.flute_memory.specs.MemoryDisk.{run_of}
use Rattle.flute_memory.proofs.changes.bytes_of.Given as goal

pub record IsSoFar (bound same : Type 0) : Type 0 where
  pub inside : bound
  pub has : same

abbrev pub invariant-loop-count : goal.invariant-loop-count
invariant-loop-count l = IsSoFar (l.count ≤ length l.fn.changes)
    (((run_of (take l.count l.fn.changes)).now.files l.fn.file).bytes ≡ l.bytes.items)

abbrev pub decreases-loop-count : goal.decreases-loop-count
decreases-loop-count l = length l.fn.changes - l.count
