-- forget_list: what was taken out, stated of the names of the journal and the list.
use Rattle.std.proofs.Common.{IfErr, List, ℕ, Option, ap, subst, sym}
use Rattle.std.specs.Prelude.{OnOk}
use Rattle.flute_streams.specs.declared.choice.selection.Selection.{Selection}
use Rattle.flutejoin.specs.Forget.{ForgetListFails, ForgetsListed}
use Rattle.flutejoin_commands.specs.Files.{HasBytes}
use Rattle.flutejoin_commands.specs.Named.{ForgetListOfNamesFails, ForgetsListOfNames}
use Rattle.flutejoin_commands.specs.Works.{forget_lines}
use Rattle.flutejoin_commands.specs.Worlds.{Leaves, FailsToLeave, outside}
use Rattle.flutejoin_commands.proofs.OfNames.{left_of_two, not_left_of_two}
use Rattle.flutejoin_commands.proofs.commands.forget_list.Goals as goal

pub returns-clause-forgot : goal.returns-clause-forgot
returns-clause-forgot g c =
    let files = g.W.Inputs.files c.args.world.now in
    let unread = g.W.Input.Source.unread in
    let a = c.args in
    let input = c.forget_input-input.result in
    let s = input.choice.selection in
    let x = unread input.stream.source in
    let y = unread c.in_ok-source.list in
    let o = g.O.Sink.written a.output.now in
    let e = g.E.Sink.written a.errors.now in
    let new = outside (g.W.Inputs.files c.leave.new.world) (g.O.Sink.written c.leave.new.output)
    (g.E.Sink.written c.leave.new.errors) in
    subst (λ (s : Selection). OnOk c.leave.result (Leaves
    (ForgetsListOfNames files a.inputs.journal.now a.inputs.list.now s)
    (ForgetsListOfNames files a.inputs.journal.now a.inputs.list.now s) forget_lines a.target.out.now
    (outside files o e) new))
    (ap (λ r. r.selection) c.forget_input-input.ensures.choice)
    (left_of_two (λ (k l : Option (List ℕ)). ForgetsListed s l k)
    (λ (k l : Option (List ℕ)). ForgetListFails l k) files a.inputs.journal.now a.inputs.list.now x y
    (subst (λ s. HasBytes files a.inputs.journal.now (unread s)) (sym c.forget_input-input.ensures.source)
    c.in_ok-source.ensures.opened.0)
    c.in_ok-source.ensures.opened.1
    a.target.out.now (outside files o e) new forget_lines c.leave.result
    (subst (λ f. OnOk c.leave.result (Leaves (ForgetsListed s y x) (ForgetsListed s y x)
    forget_lines a.target.out.now (outside f o e) new))
    {x = g.W.Inputs.files c.begin_with_list.new.world} {y = files}
    c.begin_with_list.ensures.same_files
    c.leave.ensures.left))

pub returns-clause-failed : goal.returns-clause-failed
returns-clause-failed g c =
    let files = g.W.Inputs.files c.args.world.now in
    let unread = g.W.Input.Source.unread in
    let a = c.args in
    let input = c.forget_input-input.result in
    let s = input.choice.selection in
    let x = unread input.stream.source in
    let y = unread c.in_ok-source.list in
    let o = g.O.Sink.written a.output.now in
    let e = g.E.Sink.written a.errors.now in
    let new = outside (g.W.Inputs.files c.leave.new.world) (g.O.Sink.written c.leave.new.output)
    (g.E.Sink.written c.leave.new.errors) in
    subst (λ (s : Selection). IfErr c.leave.result (FailsToLeave
    (ForgetsListOfNames files a.inputs.journal.now a.inputs.list.now s)
    (ForgetListOfNamesFails files a.inputs.journal.now a.inputs.list.now) a.target.out.now
    (outside files o e) new))
    (ap (λ r. r.selection) c.forget_input-input.ensures.choice)
    (not_left_of_two (λ (k l : Option (List ℕ)). ForgetsListed s l k)
    (λ (k l : Option (List ℕ)). ForgetListFails l k) files a.inputs.journal.now a.inputs.list.now x y
    (subst (λ s. HasBytes files a.inputs.journal.now (unread s)) (sym c.forget_input-input.ensures.source)
    c.in_ok-source.ensures.opened.0)
    c.in_ok-source.ensures.opened.1
    a.target.out.now (outside files o e) new c.leave.result
    (subst (λ f. IfErr c.leave.result (FailsToLeave (ForgetsListed s y x) (ForgetListFails y x)
    a.target.out.now (outside f o e) new))
    {x = g.W.Inputs.files c.begin_with_list.new.world} {y = files}
    c.begin_with_list.ensures.same_files
    c.leave.ensures.failed))
