-- advance_at: the first streams were advanced, and the others are unchanged.
use Rattle.flute_streams.proofs.Common.{◌≡◌, ◌<◌, ◌≤◌, length, option_copied}
use Rattle.flute_streams.proofs.merge_lemmas.GoingOn.{WentSoFar}
use Rattle.flute_streams.proofs.merge.advance.advance_at.Given as goal

abbrev pub invariant-loop-number : goal.invariant-loop-number
invariant-loop-number g l = record {
  went : WentSoFar g.G.Streams.behaviour (option_copied l.place) l.number
      (g.G.Streams.streams l.fn.streams) (g.G.Streams.streams l.streams);
  all : length (g.G.Streams.streams l.streams) ≡ l.number-end;
  names : g.G.Streams.names l.streams ≡ g.G.Streams.names l.fn.streams;
  count : l.moved.count ≤ l.number;
  last : 0 < l.moved.count → l.moved.last < l.number;
}
