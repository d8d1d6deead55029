-- join_two: the fault is that of the first stream that has one.
use Rattle.std.proofs.Common.{arith}
use Rattle.std.proofs.lemmas.Grind.{common_steps}
use Rattle.std.proofs.Common.{rules, ◌≡◌, [], ◌∷◌, subst}
use Rattle.std.specs.Prelude.{IfErr}
use Rattle.flute_streams.specs.Chains.{taken}
use Rattle.flute_streams.specs.Eithers.{either_behaviour}
use Rattle.flute_streams.specs.FirstFaults.{FirstFault}
use Rattle.flute_streams.specs.declared.streams.either.Either.TheVariants.{First as Left}
use Rattle.flute_streams.specs.declared.streams.either.Either.TheVariants.{Second as Right}
use Rattle.flutejoin.proofs.info.adding_facts.join_two.Goals as goal

pub returns-clause-first : goal.returns-clause-first
unfolding taken
returns-clause-first g c =
    let b = either_behaviour g.S.Stream.behaviour g.T.Stream.behaviour in
    let old = Left c.args.first.now ∷ Right c.args.second.now ∷ [] in
    let at : (s : g.row.S.Denot) (t : g.row.T.Denot) → c.join_streams.new.streams.first.now ≡ s →
    c.join_streams.new.streams.others.now ≡ t → IfErr c.join_streams.result
    (FirstFault b old (Left s ∷ Right t ∷ [])) = λ s t e d. subst
    (λ x. IfErr c.join_streams.result (FirstFault b old (Left x ∷ Right t ∷ []))) e (subst (λ y.
    IfErr c.join_streams.result
    (FirstFault b old (Left c.join_streams.new.streams.first.now ∷ Right y ∷ []))) d
    c.join_streams.ensures.first) in at _ _ (search rules) (search rules)
