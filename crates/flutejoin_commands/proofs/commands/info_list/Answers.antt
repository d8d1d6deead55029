-- info_list: what was added, stated of the names of the journal and the list.
use Rattle.std.proofs.Common.{IfErr, subst}
use Rattle.std.specs.Prelude.{OnOk}
use Rattle.flutejoin_commands.specs.Works.{AddsListRead, AddListReadFails, most_of}
use Rattle.flutejoin.specs.Lines.{entries_line}
use Rattle.flutejoin_commands.specs.Worlds.{Leaves, FailsToLeave, outside}
use Rattle.flutejoin_commands.proofs.OfNames.{left_of_two, not_left_of_two}
use Rattle.flutejoin_commands.proofs.commands.info_list.Goals as goal

pub returns-clause-added : goal.returns-clause-added
returns-clause-added g c =
    let files = g.W.Inputs.files c.args.world.now in
    let unread = g.W.Input.Source.unread in
    let a = c.args in
    let x = unread c.in_ok-source.source in
    let y = unread c.in_ok-source.list in
    let new = outside (g.W.Inputs.files c.leave.new.world) (g.O.Sink.written c.leave.new.output)
    (g.E.Sink.written c.leave.new.errors) in
    left_of_two AddsListRead (AddListReadFails (most_of a.line.limit)) files a.line.journal.now a.line.list.now x y
    c.in_ok-source.ensures.opened.0
    c.in_ok-source.ensures.opened.1
    a.line.target.out.now (outside files (g.O.Sink.written a.output.now) (g.E.Sink.written a.errors.now)) new
    entries_line c.leave.result
    (subst (λ f. OnOk c.leave.result (Leaves (AddsListRead x y) (AddsListRead x y)
    entries_line a.line.target.out.now (outside f (g.O.Sink.written a.output.now)
    (g.E.Sink.written a.errors.now)) new))
    {x = g.W.Inputs.files c.begin_with_list.new.world} {y = files}
    c.begin_with_list.ensures.same_files
    c.leave.ensures.left)

pub returns-clause-failed : goal.returns-clause-failed
returns-clause-failed g c =
    let files = g.W.Inputs.files c.args.world.now in
    let unread = g.W.Input.Source.unread in
    let a = c.args in
    let x = unread c.in_ok-source.source in
    let y = unread c.in_ok-source.list in
    let new = outside (g.W.Inputs.files c.leave.new.world) (g.O.Sink.written c.leave.new.output)
    (g.E.Sink.written c.leave.new.errors) in
    not_left_of_two AddsListRead (AddListReadFails (most_of a.line.limit)) files
    a.line.journal.now a.line.list.now x y
    c.in_ok-source.ensures.opened.0
    c.in_ok-source.ensures.opened.1
    a.line.target.out.now (outside files (g.O.Sink.written a.output.now) (g.E.Sink.written a.errors.now)) new
    c.leave.result
    (subst (λ f. IfErr c.leave.result (FailsToLeave (AddsListRead x y)
    (AddListReadFails (most_of a.line.limit) x y)
    a.line.target.out.now (outside f (g.O.Sink.written a.output.now) (g.E.Sink.written a.errors.now)) new))
    {x = g.W.Inputs.files c.begin_with_list.new.world} {y = files}
    c.begin_with_list.ensures.same_files
    c.leave.ensures.failed)
