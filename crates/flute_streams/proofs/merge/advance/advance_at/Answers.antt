-- advance_at: one stream more, by whether it holds that address.
use Rattle.std.proofs.Common.{rules}
use Rattle.flute_streams.proofs.Common.{sym, ap, ◌∙◌}
use Rattle.flute_streams.proofs.Common.{arith, option_copied, address_of}
use Rattle.flute_streams.proofs.merge_lemmas.GoingOn.{item_at, one_stays, one_goes}
use Rattle.flute_streams.proofs.merge_lemmas.GoingOn.{not_reached, same_length}
use Rattle.flute_streams.specs.Lowest.{held_in}
use Rattle.flute_streams.proofs.merge.advance.advance_at.Goals.{then-stands_at+in_default}
use Rattle.flute_streams.proofs.merge.advance.advance_at.Goals.{else-stands_at}
use Rattle.flute_streams.proofs.merge.advance.advance_at.Goals as goal

pub stands_at-requires-clause-first : goal.stands_at-requires-clause-first
stands_at-requires-clause-first g c = search (rules, held_in, not_reached)

pub loop-number-preserved : goal.loop-number-preserved
loop-number-preserved g c =
    let b = g.G.Streams.behaviour in
    let place = option_copied c.args.place in
    let now = g.G.Streams.streams c.loop-number.streams in
    let i = c.loop-number.invariant in
    let k = c.loop-number.number in
    let x = item_at now k (omega (arith, i.all, c.loop-number-test.true)) in
    elim c.if-stands_at.branch [
      | then-stands_at+in_default w ↦ let a = w.in_default.ensures.advances in rw
          (w.streams-is, w.moved-is) (record {
            went = one_goes b place i.went a (ap (λ s. address_of (held_in b s)) (sym a.was) ∙
                c.stands_at.ensures.at w.if-stands_at.true);
            all = same_length b k now _ a ∙ i.all;
            names = w.advance.ensures.names ∙ i.names;
            count = omega (arith, i.count);
            last = λ h. omega arith;
          })
      | else-stands_at w ↦ rw (w.streams-is, w.moved-is) (record {
        went = one_stays b place i.went x.1 (λ e. c.stands_at.ensures.elsewhere
            w.if-stands_at.false (ap (λ s. address_of (held_in b s)) x.1 ∙ e));
        all = i.all;
        names = i.names;
        count = omega (arith, i.count);
        last = λ h. omega (arith, h, i.last);
      })
    ]
