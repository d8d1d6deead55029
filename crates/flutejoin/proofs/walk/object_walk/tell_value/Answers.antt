-- tell_value: no value is no more.
use Rattle.std.proofs.Common.{Some, subst, sym}
use Rattle.std.proofs.Common.{ap, ◌∙◌}
use Rattle.std.specs.Prelude.{OnOk}
use Rattle.flutejoin.specs.Progress.{value_in, with_value}
use Rattle.flutejoin.proofs.walk_lemmas.Turns.{with_nothing}
use Rattle.flutejoin.proofs.walk.object_walk.tell_value.Goals as goal

pub returns-in-Some-clause-told : goal.returns-in-Some-clause-told
returns-in-Some-clause-told g c = λ at objects p k. subst (λ x. OnOk c.fits.result
    (g.V.Visitor.Has at objects (Some (with_value (value_in x) p)) c.fits.new.self))
    (sym c.in-Some.is) (c.fits.ensures.told at objects p k)

pub returns-in-None-clause-told : goal.returns-in-None-clause-told
returns-in-None-clause-told g c = λ at objects p k.
    subst (λ x. g.V.Visitor.Has at objects (Some x) c.args.visitor.now)
    (sym (ap (λ x. with_value (value_in x) p) c.in-None.is ∙ with_nothing p)) k
