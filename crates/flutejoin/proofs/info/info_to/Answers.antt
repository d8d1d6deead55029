-- info_to: the stream of one fact gives that fact.
use Rattle.std.proofs.Common.{[], ◌∷◌, sym, subst, ◌∙◌}
use Rattle.flute_parts.specs.declared.fact.Fact.TheVariants.{Info}
use Rattle.flute_parts.specs.Facts.{Same}
use Rattle.flute_parts.proofs.Public.{Same-itself}
use Rattle.flutejoin.specs.Limits.{at_most}
use Rattle.flutejoin.proofs.info_lemmas.AddedFacts.{of_source}
use Rattle.flutejoin.proofs.info.info_to.Goals as goal

pub returns-clause-failed : goal.returns-clause-failed
returns-clause-failed g c =
    let told = Info c.args.key c.args.info ∷ [] in
    of_source g.R.Source.unread (at_most g.row.SESSIONS g.row.OBJECTS g.row.SYMBOLS) _ _ told
    c.add_facts.result c.new-journal.ensures.unread (c.add_facts.ensures.failed told
    (λ F is. subst (λ l. Same l told) (sym (is ∙ c.new-fact.ensures.facts)) (Same-itself _)))
