-- minus: what was written, stated of the two names.
use Rattle.std.proofs.Common.{IfErr, List, ℕ, Option, subst, sym}
use Rattle.std.specs.Prelude.{OnOk}
use Rattle.flutejoin.specs.Lines.{entries_line}
use Rattle.flutejoin.specs.Merge.{MergeFails}
use Rattle.flutejoin.specs.Minus.{WritesMinus}
use Rattle.flutejoin_commands.specs.Files.{HasBytes}
use Rattle.flutejoin_commands.specs.Worlds.{Leaves, FailsToLeave, outside}
use Rattle.flutejoin_commands.proofs.OfNames.{left_of_two, not_left_of_two}
use Rattle.flutejoin_commands.proofs.subtracting.minus.Goals as goal

pub returns-clause-subtracted : goal.returns-clause-subtracted
returns-clause-subtracted g c =
    let files = g.W.Inputs.files c.args.world.now in
    let unread = g.W.Input.Source.unread in
    let a = c.args in
    let input = c.minus_input-input.result in
    let x = unread input.first.source in
    let y = unread input.second.source in
    let o = g.O.Sink.written a.output.now in
    let e = g.E.Sink.written a.errors.now in
    let new = outside (g.W.Inputs.files c.leave.new.world) (g.O.Sink.written c.leave.new.output)
    (g.E.Sink.written c.leave.new.errors) in
    left_of_two WritesMinus MergeFails files a.line.first.now a.line.second.now x y
    (subst (λ s. HasBytes files a.line.first.now (unread s))
    (sym c.minus_input-input.ensures.first) c.in_ok-first.ensures.opened.0)
    (subst (λ s. HasBytes files a.line.second.now (unread s))
    (sym c.minus_input-input.ensures.second) c.in_ok-first.ensures.opened.1)
    a.line.target.out.now (outside files o e) new entries_line c.leave.result
    (subst (λ f. OnOk c.leave.result (Leaves (WritesMinus x y) (WritesMinus x y) entries_line
    a.line.target.out.now (outside f o e) new))
    {x = g.W.Inputs.files c.begin_with_two.new.world} {y = files}
    c.begin_with_two.ensures.same_files c.leave.ensures.left)

pub returns-clause-failed : goal.returns-clause-failed
returns-clause-failed g c =
    let files = g.W.Inputs.files c.args.world.now in
    let unread = g.W.Input.Source.unread in
    let a = c.args in
    let input = c.minus_input-input.result in
    let x = unread input.first.source in
    let y = unread input.second.source in
    let o = g.O.Sink.written a.output.now in
    let e = g.E.Sink.written a.errors.now in
    let new = outside (g.W.Inputs.files c.leave.new.world) (g.O.Sink.written c.leave.new.output)
    (g.E.Sink.written c.leave.new.errors) in
    not_left_of_two WritesMinus MergeFails files a.line.first.now a.line.second.now x y
    (subst (λ s. HasBytes files a.line.first.now (unread s))
    (sym c.minus_input-input.ensures.first) c.in_ok-first.ensures.opened.0)
    (subst (λ s. HasBytes files a.line.second.now (unread s))
    (sym c.minus_input-input.ensures.second) c.in_ok-first.ensures.opened.1)
    a.line.target.out.now (outside files o e) new c.leave.result
    (subst (λ f. IfErr c.leave.result (FailsToLeave (WritesMinus x y) (MergeFails x y)
    a.line.target.out.now (outside f o e) new))
    {x = g.W.Inputs.files c.begin_with_two.new.world} {y = files}
    c.begin_with_two.ensures.same_files c.leave.ensures.failed)
