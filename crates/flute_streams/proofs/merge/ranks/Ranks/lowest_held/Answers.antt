-- One stream more: those before it are passed over, and what it holds is joined.
use Rattle.flute_streams.proofs.Common.{Key, Lowest, Some, arith, heads, length}
use Rattle.flute_streams.proofs.Common.{refl, sym, take, take_all, ◌<◌, ◌∙◌, ◌≡◌, ◌≤◌, ◌/◌}
use Rattle.flute_streams.proofs.merge_lemmas.Places.{comes-alone, comes-joined, has_value}
use Rattle.flute_streams.proofs.merge_lemmas.Places.{place-joined, some-of}
use Rattle.flute_streams.proofs.merge_lemmas.RankFacts.{comes-lowest, comes-none}
use Rattle.flute_streams.proofs.merge_lemmas.RankedStreams.{comes-more, comes-up-to, ranked_of}
use Rattle.flute_streams.proofs.merge_lemmas.RankedStreams.{stands-ranked}
use Rattle.flute_streams.specs.Lowest.{StandsOn, first_at, value_at}
use Rattle.flute_streams.specs.Ranks.{place_at_rank}
use Rattle.flute_streams.proofs.merge.ranks.Ranks.lowest_held.Goals as goal

pub loop-number-init : goal.loop-number-init
loop-number-init g c =
    let b = g.G.Streams.behaviour in
    let streams = g.G.Streams.streams c.args.streams.now in
    let k = c.in_ok-first.first in
    let found = c.in_ok-first.ensures.next in
    let rank = c.lowest_in-rank.result in
    let within : k < length streams = omega (arith, found.1, c.count-all.ensures) in
    let on : (key : Key) → c.args.self.now.key ≡ Some key → StandsOn b (place_at_rank key rank)
    streams (first_at k) = λ key is. stands-ranked b key k within
    (ranked_of b streams c.args.self.now key is c.requires.ranking) found.2
    (c.lowest_in-rank.ensures (k / 8) (omega arith) (omega (arith, found.1))) (omega arith) in
    record {
      comes = λ key is. let place = place_at_rank key rank in
          let ranked = ranked_of b streams c.args.self.now key is c.requires.ranking in
          comes-more b streams k place _ within (comes-alone b streams _ k
          place (on key is) (comes-up-to b streams _ 0 k found.0 (omega (arith, within)) refl
          found.3 ranked (comes-none place)));
      stands = on;
      number = refl;
      next = omega (arith, found.1);
    }

-- The stream that was found stands at the lowest rank.

pub joined-lowest-requires-clause-here : goal.joined-lowest-requires-clause-here
joined-lowest-requires-clause-here g c =
    let b = g.G.Streams.behaviour in
    let streams = g.G.Streams.streams c.args.streams.now in
    let k = c.in-Some.number in
    let found = c.in-Some.ensures.next in
    let key = c.in_ok-self.field-0 in
    let ranked = ranked_of b streams c.args.self.now key c.in_ok-self.was c.requires.ranking in
    stands-ranked b key k (omega (arith, found.1, c.count-all.ensures)) ranked found.2
    (c.lowest_in-rank.ensures (k / 8) (omega arith) (omega (arith, found.1))) (omega arith)
    ∙ sym (c.loop-number.invariant.stands key c.in_ok-self.was)

pub loop-number-preserved : goal.loop-number-preserved
loop-number-preserved g c =
    let b = g.G.Streams.behaviour in
    let streams = g.G.Streams.streams c.args.streams.now in
    let i = c.loop-number.invariant in
    let l = c.loop-number.lowest in
    let k = c.in-Some.number in
    let found = c.in-Some.ensures.next in
    let rank = c.lowest_in-rank.result in
    let within : k < length streams = omega (arith, found.1, c.count-all.ensures) in
    let on : (key : Key) → c.args.self.now.key ≡ Some key → StandsOn b (place_at_rank key rank)
    streams (first_at k) = λ key is. stands-ranked b key k within
    (ranked_of b streams c.args.self.now key is c.requires.ranking) found.2
    (c.lowest_in-rank.ensures (k / 8) (omega arith) (omega (arith, found.1))) (omega arith) in
    record {
      comes = λ key is. let place = place_at_rank key rank in
          let ranked = ranked_of b streams c.args.self.now key is c.requires.ranking in
          comes-more b streams k place _ within (comes-joined b streams _ k place (on key is) l _
          (i.stands key is) c.joined-lowest.ensures (comes-up-to b streams _ c.loop-number.next k
          found.0 (omega (arith, within)) refl found.3 ranked (i.comes key is)));
      stands = λ key is. place-joined b streams l k _ c.joined-lowest.ensures ∙ i.stands key is;
      number = c.joined-lowest.ensures.number ∙ i.number;
      next = omega (arith, found.1);
    }

pub returns-clause-lowest : goal.returns-clause-lowest
returns-clause-lowest g c =
    let b = g.G.Streams.behaviour in
    let streams = g.G.Streams.streams c.args.streams.now in
    let i = c.loop-number.invariant in
    let l = c.loop-number.lowest in
    let key = c.in_ok-self.field-0 in
    let place = place_at_rank key c.lowest_in-rank.result in
    let ranked = ranked_of b streams c.args.self.now key c.in_ok-self.was c.requires.ranking in
    let all = c.count-all.result in
    let within : all ≤ length streams = omega (arith, c.count-all.ensures) in
    let whole = take_all all streams (omega (arith, c.count-all.ensures)) in
    let v = has_value b streams l (place, i.stands key c.in_ok-self.was) in
    rw v.is (some-of (Lowest (heads b streams)) v.is (rw whole at (comes-lowest place
    (heads b (take all streams)) (value_at b streams l) (comes-up-to b streams place
    c.loop-number.next all i.next within refl (c.in_default.ensures.none refl) ranked
    (i.comes key c.in_ok-self.was)))))
