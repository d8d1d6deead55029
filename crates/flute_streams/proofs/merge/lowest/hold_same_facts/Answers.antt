use Rattle.std.proofs.Common.{rules}
use Rattle.flute_streams.proofs.Common.{Fact, FactRef, Option, Some, ap, fact_in, fact_of}
use Rattle.flute_streams.proofs.Common.{same_fact, ◌∙◌, ◌≡◌}
use Rattle.flute_streams.proofs.merge_lemmas.Places.{read-at}
use Rattle.flute_streams.proofs.merge.lowest.hold_same_facts.Goals as goal

-- what a stream holds is the fact that it lends
lent : {head : Option FactRef} {fact : FactRef} {held : Option Fact} {f : Fact}
    → head ≡ Some fact → fact_in head ≡ held → held ≡ Some f → fact_of fact ≡ f
lent is h e = search rules

pub returns-in-Some-Some : goal.returns-in-Some-Some
returns-in-Some-Some g c = λ g' f e d. let b = g.G.Streams.behaviour in
    let xs = g.G.Streams.streams c.args.streams.now in
    let one = lent c.in-Some-Some.is-0
    (read-at b xs c.args.first (λ o. o) c.requires.first c.head.ensures) e in
    let other = lent c.in-Some-Some.is-1
    (read-at b xs c.args.second (λ o. o) c.requires.second c.head-2.ensures) d in c.is_same.ensures
    ∙ ap (λ x. same_fact x (fact_of c.in-Some-Some.other)) one ∙ ap (same_fact g') other
