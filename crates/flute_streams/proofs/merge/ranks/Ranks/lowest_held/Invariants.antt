-- Ranks::lowest_held: the value at that rank of what the first streams hold.
use Rattle.flute_streams.proofs.Common.{Key, Some, heads, take, ◌-◌, ◌≡◌, ◌≤◌}
use Rattle.flute_streams.specs.Lowest.{ComesTo, StandsOn, value_at}
use Rattle.flute_streams.specs.Ranks.{place_at_rank}
use Rattle.flute_streams.proofs.merge.ranks.Ranks.lowest_held.Given as goal

abbrev pub invariant-loop-number : goal.invariant-loop-number
invariant-loop-number g l = record {
  comes : (key : Key) → l.fn.self.key ≡ Some key → ComesTo (place_at_rank key l.rank)
      (heads g.G.Streams.behaviour (take l.next (g.G.Streams.streams l.fn.streams)))
      (value_at g.G.Streams.behaviour (g.G.Streams.streams l.fn.streams) l.lowest);
  stands : (key : Key) → l.fn.self.key ≡ Some key → StandsOn g.G.Streams.behaviour
      (place_at_rank key l.rank) (g.G.Streams.streams l.fn.streams) l.lowest;
  number : l.lowest.number ≡ l.first;
  next : l.next ≤ l.all;
}

abbrev pub decreases-loop-number : goal.decreases-loop-number
decreases-loop-number g l = l.all - l.next
