-- Ranks::rank: the first streams are ranked.
use Rattle.flute_streams.proofs.Common.{◌≡◌, None, length}
use Rattle.flute_streams.proofs.merge_lemmas.RankedStreams.{AreRankedTo}
use Rattle.flute_streams.proofs.merge.ranks.Ranks.rank.Given as goal

abbrev pub invariant-loop-number : goal.invariant-loop-number
invariant-loop-number g l = record {
  ranked : AreRankedTo g.G.Streams.behaviour l.key l.number
      (g.G.Streams.streams l.fn.streams) l.self.ranks;
  all : length (g.G.Streams.streams l.fn.streams) ≡ l.number-end;
  unknown : l.self.key ≡ None;
}
