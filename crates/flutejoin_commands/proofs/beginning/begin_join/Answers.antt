-- begin_join: which of the inputs and the list was not opened.
use Rattle.std.proofs.Common.{◌∙◌, arith, map}
use Rattle.std.specs.Borrow.{Bor}
use Rattle.std.proofs.lemmas.List.{length-map}
use Rattle.std.proofs.lemmas.Result.{err_from_is_err_and}
use Rattle.std.proofs.Common.{List, ℕ}
use Rattle.flutejoin_commands.proofs.WithoutNames.{input_unopened, list_unopened}
use Rattle.flutejoin_commands.proofs.beginning.begin_join.Goals as goal

pub returns-in_err-inputs-clause-failed : goal.returns-in_err-inputs-clause-failed
returns-in_err-inputs-clause-failed g c =
    let e = err_from_is_err_and c.from_residual.result c.from_residual.ensures.1 in
    rw (e.1, e.2) (input_unopened (g.W.Inputs.files c.args.world.now)
    (map (λ (p : Bor (List ℕ)). p.now) c.args.paths.now) c.args.list
    c.in_err-inputs.field-0.0 c.look.ensures.same_files c.in_err-inputs.ensures.failed)

pub returns-in_err-list-clause-failed : goal.returns-in_err-list-clause-failed
returns-in_err-list-clause-failed g c =
    let e = err_from_is_err_and c.from_residual-in_err-list.result
    c.from_residual-in_err-list.ensures.1 in
    let many = length-map c.args.paths.now (λ (p : Bor (List ℕ)). p.now) in
    rw (e.1, e.2) (list_unopened (g.W.Inputs.files c.args.world.now)
    (map (λ (p : Bor (List ℕ)). p.now) c.args.paths.now) c.args.list
    c.in_err-list.field-0.0 (c.open_inputs.ensures.same_files ∙ c.look.ensures.same_files)
    (omega (arith, many)) c.in_err-list.ensures.failed)
