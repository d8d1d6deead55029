-- lowest_held: one stream more.
use Rattle.std.proofs.Common.{rules}
use Rattle.flute_streams.proofs.Common.{append-nil, arith, heads}
use Rattle.flute_streams.proofs.Common.{length, address_of, sym, take}
use Rattle.flute_streams.proofs.Common.{◌<◌}
use Rattle.flute_streams.proofs.Common.{ap, option_copied, ◌∙◌}
use Rattle.flute_streams.proofs.merge_lemmas.LowestFacts.{heads-more}
use Rattle.flute_streams.proofs.merge_lemmas.Places.{place-none, read-at}
use Rattle.flute_streams.proofs.merge.lowest.lowest_held.Goals.{in-Some, in_default}
use Rattle.flute_streams.proofs.merge.lowest.lowest_held.Goals as goal

pub with_more-requires-clause-stands : goal.with_more-requires-clause-stands
with_more-requires-clause-stands = search rules

pub with_more-requires-clause-here : goal.with_more-requires-clause-here
with_more-requires-clause-here g c =
    let xs = g.G.Streams.streams c.args.streams.now in
    let within : c.loop-number.number < length xs = omega
    (arith, c.loop-number-test.true, c.count-number-end.ensures) in (
      c.in-Some.field-0.now,
      sym
          (read-at g.G.Streams.behaviour xs c.loop-number.number address_of within c.address.ensures) ∙ ap
          option_copied c.in-Some.is,
    )

pub loop-number-preserved : goal.loop-number-preserved
loop-number-preserved g c =
    let b = g.G.Streams.behaviour in
    let xs = g.G.Streams.streams c.args.streams.now in
    let k = c.loop-number.number in
    let before = heads b (take k xs) in
    let within : k < length xs = omega (arith, c.loop-number-test.true, c.count-number-end.ensures)
    in elim c.match-address.branch [
      | in-Some w ↦ rw (w.lowest-is, heads-more b xs k within) (record {
        lowest = w.with_more.ensures.lowest before c.loop-number.invariant.lowest;
        stands = w.with_more.ensures.stands;
      })
      | in_default w ↦ let none = place-none _ (sym
          (read-at b xs k address_of within c.address.ensures) ∙ ap option_copied w.in_default.is)
          in rw (w.lowest-is, heads-more b xs k within, none, append-nil before) (record {
            lowest = c.loop-number.invariant.lowest;
            stands = c.loop-number.invariant.stands;
          })
    ]
