use Rattle.std.proofs.Common.{refl, sym, ap, ◌∙◌}
use Rattle.std.specs.Prelude.{option_copied}
use Rattle.std.proofs.lemmas.Result.{err_from_is_err_and}
use Rattle.flute_streams.proofs.streams_lemmas.MinusFacts.{is_held, lets_go, lets_go_not, told}
use Rattle.flute_streams.proofs.streams.minus.Minus.begin.Goals as goal

pub returns-clause-walks : goal.returns-clause-walks
returns-clause-walks g c = lets_go g.S.Stream.behaviour g.T.Stream.behaviour c.if-not-self.false
    (is_held (sym (ap option_copied c.in-Some.is) ∙ c.address.ensures))
    c.in_ok-advance-3.ensures.goes_on refl c.if-not-self.false refl

pub returns-in_err-advance-3-clause-stops : goal.returns-in_err-advance-3-clause-stops
returns-in_err-advance-3-clause-stops g c =
    told _ c.from_residual-in_err-advance-3.result
    (err_from_is_err_and c.from_residual-in_err-advance-3.result
    c.from_residual-in_err-advance-3.ensures.1)
    (lets_go_not g.S.Stream.behaviour g.T.Stream.behaviour c.if-not-self.false
    c.in_err-advance-3.ensures.stops refl refl)
