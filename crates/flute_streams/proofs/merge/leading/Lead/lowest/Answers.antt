use Rattle.flute_streams.proofs.Common.{ap, option_copied, address_of, slice_get_within, sym, ◌∙◌}
use Rattle.flute_streams.proofs.merge_lemmas.LeadFacts.{lead-lowest}
use Rattle.flute_streams.proofs.merge_lemmas.Places.{read-at}
use Rattle.flute_streams.specs.Lowest.{held_at, held_in}
use Rattle.flute_streams.proofs.merge.leading.Lead.lowest.Goals as goal

pub returns-in-Some-clause-lowest : goal.returns-in-Some-clause-lowest
returns-in-Some-clause-lowest g c =
    let b = g.G.Streams.behaviour in
    let xs = g.G.Streams.streams c.args.streams.now in
    let l = c.requires.led.leads c.if-self.true in
    lead-lowest b xs c.args.self.now.number c.args.self.now.next
    (held_at b xs c.args.self.now.number) l (ap (held_in b) l.is)

pub returns-in-Some-clause-stands : goal.returns-in-Some-clause-stands
returns-in-Some-clause-stands g c =
    let b = g.G.Streams.behaviour in
    let xs = g.G.Streams.streams c.args.streams.now in
    let l = c.requires.led.leads c.if-self.true in
    let k = c.args.self.now.number in (
      c.in-Some.field-0.now,
      sym
          (read-at b xs k address_of (slice_get_within xs k l.stream l.is) c.address.ensures) ∙ ap
          option_copied c.in-Some.is,
    )
