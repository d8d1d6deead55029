-- The ranks of those that were passed are above.
use Rattle.flute_streams.proofs.Common.{ℕ, ◌-◌, ◌<◌, ◌≤◌}
use Rattle.std.proofs.Common.{slice_index}
use Rattle.flute_streams.proofs.merge.ranks.Ranks.next_at.Given as goal

abbrev pub invariant-loop-number : goal.invariant-loop-number
invariant-loop-number l = record {
  from : l.from ≤ l.number;
  above : (k : ℕ) → l.from ≤ k → k < l.number → k < l.all → l.rank < slice_index l.self.ranks k;
}

abbrev pub decreases-loop-number : goal.decreases-loop-number
decreases-loop-number l = l.all - l.number
