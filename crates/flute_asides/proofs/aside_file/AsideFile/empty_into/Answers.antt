use Rattle.std.proofs.Common.{arith, subst, ◌≡◌, ◌≢◌, []}
use Rattle.std.proofs.lemmas.Grind.{common_steps}
use Rattle.flute_asides.proofs.Copies.{left-some, part-before}
use Rattle.flute_asides.proofs.Fills.{on_err}
use Rattle.flute_asides.proofs.aside_file.AsideFile.empty_into.Goals as goal

pub returns-in_err-poured-clause-part : goal.returns-in_err-poured-clause-part
returns-in_err-poured-clause-part g c t = on_err _ _
    (part-before _ _ _ _ (c.in_err-poured.ensures.failed t (c.args.self.now.within t)))

pub returns-then-leaves_some-clause-part : goal.returns-then-leaves_some-clause-part
returns-then-leaves_some-clause-part g c t =
    let held : c.deref.result.now ≡ c.args.self.now.held.items = grind (arith, common_steps) in
    left-some c.in_ok-poured.field-0 _ _ _ _
    (λ not. c.in_ok-poured.ensures.copied t (c.args.self.now.within t) not)
    (λ is. c.in_ok-poured.ensures.part t (c.args.self.now.within t) is)
    (λ not. subst (λ l. l ≢ []) held (c.leaves_some.ensures.held not c.if-leaves_some.true))
