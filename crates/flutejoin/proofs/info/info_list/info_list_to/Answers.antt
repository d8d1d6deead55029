-- info_list_to: the walk over the store gives the facts of the list. A fault with the number 2 is
-- of the list, never of the journal.
use Rattle.std.proofs.Common.{ℕ, List, Option, Result, rules, sym, subst, ◌∙◌}
use Rattle.std.specs.Prelude.{IfOk, IfErr, IfSome}
use Rattle.flute_parts.proofs.Public.{Same-itself}
use Rattle.flute_parts.specs.Facts.{Same}
use Rattle.flute_parts.specs.declared.fact.Fact.{Fact}
use Rattle.flutejoin.specs.Info.{AddsFacts, InfoFails}
use Rattle.flutejoin.specs.InfoLists.{AddListFails}
use Rattle.flutejoin.specs.InformationLines.{LineTells}
use Rattle.flutejoin.specs.ListedLines.{ListTells}
use Rattle.flutejoin.specs.Limits.{Limits, at_most}
use Rattle.flutejoin.specs.declared.command_fault.CommandFault.{CommandFault}
use Rattle.flutejoin.proofs.info_lemmas.AddedFacts.{never_second, of_source}
use Rattle.flutejoin.proofs.info.info_list.info_list_to.Goals as goal

fails_with_list : (most : Limits) (input list : Option (List ℕ)) (told : List Fact)
    (r : Result ℕ CommandFault)
    → IfSome list (λ text. (facts : List Fact) × ListTells LineTells text facts × Same told facts)
    → ((facts : List Fact) → Same told facts → IfErr r (InfoFails most input facts))
    → IfErr r (AddListFails most input list)
fails_with_list = search rules

pub returns-clause-added : goal.returns-clause-added
returns-clause-added g c =
    let told = c.in_ok-told.told in
    let w = g.W.Sink.written c.args.sink.now in
    let w' = g.W.Sink.written c.add_facts.new.sink in
    let adds : (facts : List Fact) → Same told facts → IfOk c.add_facts.result
    (AddsFacts (g.R.Source.unread c.args.source.now) facts w w') = λ facts same. subst
    (λ x. IfOk c.add_facts.result (AddsFacts (g.R.Source.unread x) facts w w'))
    c.new-journal.ensures.unread (c.add_facts.ensures.added facts (λ F is. subst (λ l. Same l facts)
    (sym (is ∙ c.new-facts.ensures.facts ∙ c.walk.ensures.value)) same)) in search (rules, adds)

pub returns-clause-failed : goal.returns-clause-failed
returns-clause-failed g c =
    let told = c.in_ok-told.told in
    let most = at_most g.row.SESSIONS g.row.OBJECTS g.row.SYMBOLS in
    let fails : (facts : List Fact) → Same told facts → IfErr c.add_facts.result
    (InfoFails most (g.R.Source.unread c.args.source.now) facts) = λ facts same.
    of_source g.R.Source.unread most _ _ facts c.add_facts.result
    c.new-journal.ensures.unread
    (c.add_facts.ensures.failed facts
    (λ F is. subst (λ l. Same l facts)
    (sym (is ∙ c.new-facts.ensures.facts ∙ c.walk.ensures.value)) same)) in
    fails_with_list _ _ _ _ _ c.in_ok-told.ensures.told fails

pub returns-clause-list_failed : goal.returns-clause-list_failed
returns-clause-list_failed g c =
    let told = c.in_ok-told.told in
    let most = at_most g.row.SESSIONS g.row.OBJECTS g.row.SYMBOLS in
    let fails = of_source g.R.Source.unread most _ _ told c.add_facts.result
    c.new-journal.ensures.unread (c.add_facts.ensures.failed told (λ F is. subst (λ l. Same l told)
    (sym (is ∙ c.new-facts.ensures.facts ∙ c.walk.ensures.value)) (Same-itself _))) in never_second
    most _ (g.R.Source.unread c.args.source.now) told _ fails
