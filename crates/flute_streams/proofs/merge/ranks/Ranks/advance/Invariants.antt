-- Ranks::advance: the first streams were advanced, and those that have ranks are not before them.
use Rattle.flute_streams.proofs.Common.{◌≡◌, ◌-◌, ◌<◌, ◌≤◌, Some, length}
use Rattle.flute_streams.proofs.merge_lemmas.GoingOn.{WentSoFar}
use Rattle.flute_streams.proofs.merge_lemmas.RankedStreams.{AreRankedFrom}
use Rattle.flute_streams.specs.Ranks.{AreLowBut}
use Rattle.flute_streams.proofs.merge.ranks.Ranks.advance.Given as goal

abbrev pub invariant-loop-number : goal.invariant-loop-number
invariant-loop-number g l = record {
  went : WentSoFar g.G.Streams.behaviour (Some l.fn.place) l.next
      (g.G.Streams.streams l.fn.streams) (g.G.Streams.streams l.streams);
  all : length (g.G.Streams.streams l.streams) ≡ l.all;
  names : g.G.Streams.names l.streams ≡ g.G.Streams.names l.fn.streams;
  ranked : AreRankedFrom g.G.Streams.behaviour l.fn.place.key l.next l.known
      (g.G.Streams.streams l.streams) l.self.ranks;
  low : AreLowBut l.block l.next l.self.lows l.self.ranks;
  block : l.block < 16;
  next : l.next ≤ l.all;
  key : l.self.key ≡ Some l.fn.place.key;
  count : l.moved.count ≤ l.next;
  last : 0 < l.moved.count → l.moved.last < l.next;
}

abbrev pub decreases-loop-number : goal.decreases-loop-number
decreases-loop-number g l = l.all - l.next
