use Rattle.std.proofs.Common.{refl, sym, ◌∙◌}
use Rattle.std.proofs.lemmas.Result.{err_from_is_err_and}
use Rattle.flute_streams.proofs.streams_lemmas.MinusFacts.{passes_first, passes_first_not, passes_second, told}
use Rattle.flute_streams.proofs.streams.minus.Minus.step.Goals as goal

pub returns-in_ok-advance-in-First-clause-moves : goal.returns-in_ok-advance-in-First-clause-moves
returns-in_ok-advance-in-First-clause-moves g c =
    passes_first g.S.Stream.behaviour g.T.Stream.behaviour
    (sym c.next_turn.ensures ∙ c.in-First.is) c.in_ok-advance-in-First.ensures.goes_on refl refl refl

pub returns-in_ok-advance-in-Second-clause-moves : goal.returns-in_ok-advance-in-Second-clause-moves
returns-in_ok-advance-in-Second-clause-moves g c =
    passes_second g.S.Stream.behaviour g.T.Stream.behaviour
    (sym c.next_turn.ensures ∙ c.in-Second.is) c.in_ok-advance-in-Second.ensures.goes_on refl refl refl

pub returns-in_err-advance-in-First-clause-stops : goal.returns-in_err-advance-in-First-clause-stops
returns-in_err-advance-in-First-clause-stops g c = told _ c.from_residual.result
    (err_from_is_err_and c.from_residual.result c.from_residual.ensures.1) (passes_first_not
    g.S.Stream.behaviour g.T.Stream.behaviour (sym c.next_turn.ensures ∙ c.in-First.is)
    c.in_err-advance-in-First.ensures.stops refl refl)
