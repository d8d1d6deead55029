-- fill: what was written, stated of the two names.
use Rattle.std.proofs.Common.{IfErr, List, ℕ, Option, ◌∙◌, ap, subst, sym}
use Rattle.std.specs.Prelude.{OnOk}
use Rattle.flutejoin.specs.Fill.{FillFails, WritesFill}
use Rattle.flutejoin.specs.Lines.{entries_line}
use Rattle.flutejoin_commands.specs.Files.{HasBytes}
use Rattle.flutejoin_commands.specs.Worlds.{Leaves, FailsToLeave, outside}
use Rattle.flutejoin_commands.proofs.OfNames.{left_of_two, not_left_of_two}
use Rattle.flutejoin_commands.proofs.filling.fill.Goals as goal

pub returns-clause-filled : goal.returns-clause-filled
returns-clause-filled g c =
    let files = g.W.Inputs.files c.args.world.now in
    let unread = g.W.Input.Source.unread in
    let a = c.args in
    let asking = a.line.asking in
    let input = c.fill_input-input.result in
    let x = unread input.facts.source in
    let y = unread input.list.source in
    let o = g.O.Sink.written a.output.now in
    let e = g.E.Sink.written a.errors.now in
    let new = outside (g.W.Inputs.files c.leave.new.world) (g.O.Sink.written c.leave.new.output)
    (g.E.Sink.written c.leave.new.errors) in
    left_of_two (WritesFill asking) FillFails files a.line.journal.now a.line.gaps.now x y
    (subst (λ s. HasBytes files a.line.journal.now (unread s))
    (sym c.fill_input-input.ensures.journal) c.in_ok-journal.ensures.opened.0)
    (subst (λ s. HasBytes files a.line.gaps.now (unread s))
    (sym c.fill_input-input.ensures.lines) c.in_ok-journal.ensures.opened.1)
    a.line.target.out.now (outside files o e) new entries_line c.leave.result
    (subst (λ k. OnOk c.leave.result (Leaves (WritesFill k x y) (WritesFill k x y) entries_line
    a.line.target.out.now (outside files o e) new)) c.fill_input-input.ensures.asking
    (subst (λ f. OnOk c.leave.result (Leaves (WritesFill input.asking x y)
    (WritesFill input.asking x y) entries_line a.line.target.out.now (outside f o e) new))
    {x = g.W.Inputs.files c.begin_with_list.new.world} {y = files}
    c.begin_with_list.ensures.same_files c.leave.ensures.left))

pub returns-clause-failed : goal.returns-clause-failed
returns-clause-failed g c =
    let files = g.W.Inputs.files c.args.world.now in
    let unread = g.W.Input.Source.unread in
    let a = c.args in
    let asking = a.line.asking in
    let input = c.fill_input-input.result in
    let x = unread input.facts.source in
    let y = unread input.list.source in
    let o = g.O.Sink.written a.output.now in
    let e = g.E.Sink.written a.errors.now in
    let new = outside (g.W.Inputs.files c.leave.new.world) (g.O.Sink.written c.leave.new.output)
    (g.E.Sink.written c.leave.new.errors) in
    not_left_of_two (WritesFill asking) FillFails files a.line.journal.now a.line.gaps.now x y
    (subst (λ s. HasBytes files a.line.journal.now (unread s))
    (sym c.fill_input-input.ensures.journal) c.in_ok-journal.ensures.opened.0)
    (subst (λ s. HasBytes files a.line.gaps.now (unread s))
    (sym c.fill_input-input.ensures.lines) c.in_ok-journal.ensures.opened.1)
    a.line.target.out.now (outside files o e) new c.leave.result
    (subst (λ k. IfErr c.leave.result (FailsToLeave (WritesFill k x y) (FillFails x y)
    a.line.target.out.now (outside files o e) new)) c.fill_input-input.ensures.asking
    (subst (λ f. IfErr c.leave.result (FailsToLeave (WritesFill input.asking x y) (FillFails x y)
    a.line.target.out.now (outside f o e) new))
    {x = g.W.Inputs.files c.begin_with_list.new.world} {y = files}
    c.begin_with_list.ensures.same_files c.leave.ensures.failed))
