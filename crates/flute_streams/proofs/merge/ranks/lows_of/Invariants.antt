-- The first blocks have their lowest ranks.
use Rattle.flute_streams.proofs.Common.{ℕ, ◌/◌, ◌<◌, ◌≤◌}
use Rattle.std.proofs.Common.{slice_index}
use Rattle.flute_streams.proofs.merge.ranks.lows_of.Given as goal

abbrev pub invariant-loop-block : goal.invariant-loop-block
invariant-loop-block l =
    (k : ℕ) → k / 8 < l.block → slice_index l.lows (k / 8) ≤ slice_index l.ranks k
