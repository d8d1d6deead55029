-- Ranks::rank: one stream more is ranked, or none is.
use Rattle.flute_streams.proofs.Common.{◌≤◌, length, arith, option_copied, set, subst, sym}
use Rattle.flute_streams.proofs.merge_lemmas.RankedStreams.{ranked_more, ranked_all}
use Rattle.flute_streams.specs.Ranks.{StandsFrom}
use Rattle.std.proofs.lemmas.List.{get_or-set_other, get_or-set_same}
use Rattle.flute_streams.proofs.merge.ranks.Ranks.rank.Goals as goal

pub loop-number-preserved : goal.loop-number-preserved
loop-number-preserved g c =
    let ranks = c.loop-number.self.ranks in
    let k = c.loop-number.number in
    let rank = c.in-Some.rank in
    record {
      ranked = ranked_more g.G.Streams.behaviour c.args.key k (set ranks k rank)
          (option_copied c.address.result) c.address.ensures (subst
          (λ r. StandsFrom c.args.key r (option_copied c.address.result))
          (sym (get_or-set_same ranks k rank 0 (grind arith))) c.in-Some.ensures)
          (λ j n. get_or-set_other ranks k j rank 0 n) c.loop-number.invariant.ranked;
      all = c.loop-number.invariant.all;
      unknown = c.loop-number.invariant.unknown;
    }

pub returns : goal.returns
returns g c =
    let streams = g.G.Streams.streams c.args.streams.now in
    let i = c.loop-number.invariant in
    let all : length streams ≤ c.loop-number.number = omega (arith, i.all, c.loop-number-test.false)
    in
    let lows = c.lows_of-self.result in
    ranked_all g.G.Streams.behaviour c.args.key c.loop-number.number streams {lows = lows} all
    c.requires c.lows_of-self.ensures i.ranked
