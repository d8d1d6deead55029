-- It is the lowest of the first ones.
use Rattle.flute_streams.proofs.Common.{ℕ, ◌<◌, ◌≤◌}
use Rattle.std.proofs.Common.{slice_index}
use Rattle.flute_streams.proofs.merge.ranks.lowest_in.Given as goal

abbrev pub invariant-loop-place : goal.invariant-loop-place
invariant-loop-place l = (k : ℕ) → l.fn.from ≤ k → k < l.place → l.lowest ≤ slice_index l.ranks k
