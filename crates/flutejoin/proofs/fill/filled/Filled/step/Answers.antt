use Rattle.std.proofs.Common.{refl, sym, ◌∙◌}
use Rattle.flutejoin.proofs.fill_lemmas.FilledTurns.{passes_facts, passes_lines}
use Rattle.flutejoin.proofs.fill.filled.Filled.step.Goals as goal

pub returns-in_ok-advance-in-Facts-clause-moves : goal.returns-in_ok-advance-in-Facts-clause-moves
returns-in_ok-advance-in-Facts-clause-moves g c = passes_facts _ _ _
    (sym c.next_turn.ensures ∙ c.in-Facts.is) c.in_ok-advance-in-Facts.ensures.goes_on refl refl
    refl refl

pub returns-in_default-clause-moves : goal.returns-in_default-clause-moves
returns-in_default-clause-moves g c = passes_lines _ _ _ (sym c.next_turn.ensures ∙ c.in-Lines.is)
    c.in_default.ensures.reads c.in_default.ensures.less refl refl refl refl
