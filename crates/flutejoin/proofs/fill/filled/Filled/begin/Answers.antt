use Rattle.std.proofs.Common.{refl, sym, ap, ◌∙◌}
use Rattle.std.specs.Prelude.{option_copied}
use Rattle.flutejoin.proofs.fill_lemmas.FilledTurns.{is_held, lets_go}
use Rattle.flutejoin.proofs.fill.filled.Filled.begin.Goals as goal

pub returns-clause-walks : goal.returns-clause-walks
returns-clause-walks g c = lets_go _ _ _ c.if-not-self.false
    (is_held (sym (ap option_copied c.in-Some.is) ∙ c.address.ensures))
    c.in_ok-advance-2.ensures.goes_on refl refl refl refl
