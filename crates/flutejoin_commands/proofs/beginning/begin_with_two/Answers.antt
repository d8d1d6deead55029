-- begin_with_two: which of two inputs was not opened.
use Rattle.std.proofs.Common.{[], ◌∷◌, rules}
use Rattle.flutejoin_commands.specs.Named.{IsBefore}
use Rattle.flutejoin_commands.proofs.OfNames.{two_unopened}
use Rattle.flutejoin_commands.proofs.beginning.begin_with_two.Goals as goal

pub returns-in_err-both-clause-failed : goal.returns-in_err-both-clause-failed
returns-in_err-both-clause-failed g c =
    let files = g.W.Inputs.files c.args.world.now in
    let a = c.args in
    let fault = c.in_err-both.field-0.0 in
    let before : IsBefore files (a.first.now ∷ a.second.now ∷ []) fault =
    two_unopened files (g.W.Inputs.files c.look.new.self) a.first.now a.second.now fault
    c.look.ensures.same_files c.in_err-both.ensures.failed in
    search rules
