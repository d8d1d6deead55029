-- One stream more, by whether it stands there: those before it stand elsewhere.
use Rattle.std.proofs.Common.{rules}
use Rattle.flute_streams.proofs.Common.{◌≡◌, ◌+◌, ◌-◌, ◌∙◌}
use Rattle.flute_streams.proofs.Common.{Some, ap, inl, sym, refl, arith, ◌<◌}
use Rattle.std.proofs.Common.{slice_index}
use Rattle.flute_streams.proofs.merge_lemmas.GoingOn.{item_at, more_stay, one_goes}
use Rattle.flute_streams.proofs.merge_lemmas.GoingOn.{one_stays, one_stops, same_length}
use Rattle.flute_streams.proofs.merge_lemmas.RankFacts.{lower-elsewhere, same_place}
use Rattle.flute_streams.proofs.merge_lemmas.RankedStreams.{Reranked}
use Rattle.flute_streams.proofs.merge_lemmas.RankedStreams.{passed_elsewhere, rest_from, rest_moved}
use Rattle.flute_streams.proofs.merge_lemmas.RankedStreams.{ranked_of, went_all}
use Rattle.flute_streams.specs.Ranks.{place_at_rank}
use Rattle.flute_streams.proofs.merge.ranks.Ranks.advance.Goals.{then-self-number+in_default-advance}
use Rattle.flute_streams.proofs.merge.ranks.Ranks.advance.Goals.{else-self-number}
use Rattle.flute_parts.specs.Equality.{both}
use Rattle.flute_streams.proofs.merge.ranks.Ranks.advance.Goals as goal

pub returns-in-Err-clause-stops : goal.returns-in-Err-clause-stops
returns-in-Err-clause-stops g c =
    let b = g.G.Streams.behaviour in
    let i = c.loop-number.invariant in
    let found = c.in-Some.ensures.next in
    let rank = c.number_of-rank.result in
    let k = c.in-Some.number in
    let at : c.args.place.now ≡ place_at_rank c.args.place.now.key rank = search rules in
    let apart = passed_elsewhere b c.args.place.now.key rank c.loop-number.next k at found.3
    i.ranked in
    let went = more_stay b (Some c.args.place.now) (k - c.loop-number.next) (omega (arith, found.0))
    (omega (arith, found.1, i.all)) apart i.went in
    let a = c.in-Err.ensures.advances in
    let there = (i.ranked.from k a.before (inl found.0) a.was).exact
    (omega (arith, c.if-self-number.true, c.number_of-rank.ensures.few)) ∙ ap
    (λ r. Some (place_at_rank c.args.place.now.key r)) c.if-self-number.true ∙ ap Some (sym at) in
    one_stops b (Some c.args.place.now) went a there

pub loop-number-preserved : goal.loop-number-preserved
loop-number-preserved g c =
    let b = g.G.Streams.behaviour in
    let i = c.loop-number.invariant in
    let found = c.in-Some.ensures.next in
    let rank = c.number_of-rank.result in
    let k = c.in-Some.number in
    let key = c.args.place.now.key in
    let at = same_place c.args.place.now key rank refl c.number_of-rank.ensures.part in
    let went = more_stay b (Some c.args.place.now) (k - c.loop-number.next) (omega (arith, found.0))
    (omega (arith, found.1, i.all))
    (passed_elsewhere b key rank c.loop-number.next k at found.3 i.ranked) i.went in
    let ranked = rest_from b key c.loop-number.next k found.0 i.ranked in
    let few = (ranked_of b _ c.args.self.now key c.requires.object c.requires.ranking).few in
    let within : k < 128 = omega (arith, found.1, few, c.count-all.ensures) in
    elim c.if-self-number.branch [
      | then-self-number+in_default-advance w ↦ let a = w.in_default-advance.ensures.advances in
          let there = (i.ranked.from k a.before (inl found.0) a.was).exact
          (omega (arith, w.if-self-number.true, c.number_of-rank.ensures.few)) ∙ ap
          (λ r. Some (place_at_rank key r)) w.if-self-number.true ∙ ap Some (sym at) in
          let set = w.rank_one-known in
          let m : Reranked b key k set.result (g.G.Streams.streams c.loop-number.streams)
          (g.G.Streams.streams w.advance.new.self) c.loop-number.self.ranks set.new.self.ranks =
          record {
            advanced = a;
            ranked = λ e s at. rw (← w.address.ensures s at) (set.ensures.set e);
            stay = set.ensures.others;
          } in rw (w.streams-is, w.self-is, w.block-is, w.moved-is) (record {
            went = one_goes b (Some c.args.place.now) went a there;
            all = same_length b k _ _ a ∙ i.all;
            names = w.advance.ensures.names ∙ i.names;
            ranked = rest_moved b key k c.if-self-number.known m
                (λ e. both c.loop-number.known set.result (sym w.known-is ∙ e)) ranked;
            low = set.ensures.low c.loop-number.next found.0 i.low;
            block = omega (arith, within);
            next = omega (arith, found.1);
            key = set.ensures.key ∙ i.key;
            count = omega (arith, i.count, found.0);
            last = λ h. omega arith;
          })
      | else-self-number w ↦ let x = item_at _ k (omega (arith, found.1, i.all)) in
          let lower : slice_index c.loop-number.self.ranks k < rank = omega
          (arith, found.2, w.if-self-number.false) in
          let stays = lower-elsewhere c.args.place.now key rank _ at lower
          c.number_of-rank.ensures.few (i.ranked.from k x.0 (inl found.0) x.1) in rw
          (w.streams-is, w.self-is, w.block-is, w.moved-is, w.known-is) (record {
            went = one_stays b (Some c.args.place.now) went x.1 stays;
            all = i.all;
            names = i.names;
            ranked = rest_from b key k (k + 1) (omega arith) ranked;
            low = λ j few at. i.low j few (λ e. omega (arith, found.0, at e));
            block = i.block;
            next = omega (arith, found.1);
            key = i.key;
            count = omega (arith, i.count, found.0);
            last = λ h. omega (arith, h, i.last, found.0);
          })
    ]

pub returns-then-not-known-clause-go_on : goal.returns-then-not-known-clause-go_on
returns-then-not-known-clause-go_on g c =
    let i = c.loop-number.invariant in
    let at = same_place c.args.place.now c.args.place.now.key c.number_of-rank.result refl
    c.number_of-rank.ensures.part in
    went_all g.G.Streams.behaviour _ _ at (c.in_default.ensures.none refl) i.ranked i.next i.all i.went

pub returns-else-not-known-clause-go_on : goal.returns-else-not-known-clause-go_on
returns-else-not-known-clause-go_on g c = search (rules, same_place, went_all)
