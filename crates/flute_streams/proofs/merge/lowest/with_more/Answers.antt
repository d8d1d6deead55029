use Rattle.std.proofs.Common.{rules}
use Rattle.flute_streams.proofs.Common.{Some, address_same, ap, is_eq}
use Rattle.flute_streams.proofs.Common.{address_of, sym, ◌∙◌}
use Rattle.flute_streams.proofs.merge_lemmas.Places.{compared, lowest-above, lowest-below}
use Rattle.flute_streams.proofs.merge_lemmas.Places.{lowest-first, lowest-joined}
use Rattle.flute_streams.proofs.merge_lemmas.Places.{place-some}
use Rattle.flute_streams.specs.Lowest.{held_at}
use Rattle.flute_streams.proofs.merge_lemmas.Places.{Compared}
use Rattle.flute_streams.proofs.merge.lowest.with_more.Given.{Over}
use Rattle.flute_streams.proofs.merge.lowest.with_more.Goals.{After-order_of}
use Rattle.flute_streams.proofs.merge.lowest.with_more.Goals as goal

pub returns-in_default-clause-lowest : goal.returns-in_default-clause-lowest
returns-in_default-clause-lowest g c = search (rules, place-some, held_at, lowest-first) steps
    400000

-- the place of the stream, compared with that of the value
with_value : (g : Over) (c : goal.After-order_of g) → Compared g.G.Streams.behaviour
    (g.G.Streams.streams c.args.streams.now) c.args.number c.in-Some.lowest c.order_of.result
with_value g c = compared _ _ c.in-Some.lowest (rw c.in-Some.is at c.requires.stands)
    c.requires.here c.address.ensures c.address-2.ensures c.order_of.ensures

pub joined-requires-clause-here : goal.joined-requires-clause-here
joined-requires-clause-here g c =
    let v = with_value g (goal.at.joined-requires-clause-here g c).After-order_of in
    ap address_of v.here
    ∙ ap Some (address_same _ _ (ap is_eq (v.is ∙ c.in-Equal.is))) ∙ sym v.value.at

pub returns-in-Less-clause-lowest : goal.returns-in-Less-clause-lowest
returns-in-Less-clause-lowest g c = λ facts h.
    let v = with_value g (goal.at.returns-in-Less-clause-lowest g c).After-order_of in
    lowest-below g.G.Streams.behaviour _ facts c.args.number v.here c.in-Some.lowest v.value.is (rw c.in-Some.is at h)
    (v.is ∙ c.in-Less.is)

pub returns-in-Greater-clause-lowest : goal.returns-in-Greater-clause-lowest
returns-in-Greater-clause-lowest g c = λ facts h.
    let v = with_value g (goal.at.returns-in-Greater-clause-lowest g c).After-order_of in
    lowest-above g.G.Streams.behaviour _ facts c.args.number v.here c.in-Some.lowest v.value.is (rw c.in-Some.is at h)
    (v.is ∙ c.in-Greater.is)

pub returns-in-Equal-clause-lowest : goal.returns-in-Equal-clause-lowest
returns-in-Equal-clause-lowest g c = λ facts h.
    let v = with_value g (goal.at.returns-in-Equal-clause-lowest g c).After-order_of in
    lowest-joined g.G.Streams.behaviour _ facts c.args.number v.here c.in-Some.lowest v.value.is (rw c.in-Some.is at h)
    (v.is ∙ c.in-Equal.is) c.joined.result c.joined.ensures

pub returns-in-Equal-clause-stands : goal.returns-in-Equal-clause-stands
returns-in-Equal-clause-stands = search rules
