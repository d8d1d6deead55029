-- carousel: what was sent, stated of the name of the content.
use Rattle.std.proofs.Common.{◌∙◌, IfErr, subst}
use Rattle.std.specs.Prelude.{OnOk}
use Rattle.flutejoin_commands.specs.Works.{SendsRead, SendReadFails}
use Rattle.flutejoin_commands.specs.Works.{datagrams_line}
use Rattle.flutejoin_commands.specs.Worlds.{IsAgain, Leaves, FailsToLeave, outside}
use Rattle.flutejoin_commands.proofs.SentNames.{again_has, sent, not_sent}
use Rattle.flutejoin_commands.proofs.commands.carousel.Goals as goal

pub returns-clause-sent : goal.returns-clause-sent
returns-clause-sent g c =
    let files = g.W.Inputs.files c.args.world.now in
    let a = c.args in
    let unread = g.W.Input.Source.unread in
    let x = unread c.in_ok-source-2.source in
    let o = g.O.Sink.written a.output.now in
    let e = g.E.Sink.written a.errors.now in
    let new = outside (g.W.Inputs.files c.leave.new.world) (g.O.Sink.written c.leave.new.output)
    (g.E.Sink.written c.leave.new.errors) in
    let now = g.W.Inputs.files c.measured.new.world in
    let same = ◌∙◌ {a = now} c.measured.ensures.same_files c.begin.ensures.same_files in
    let h = again_has files a.line.file.now (unread c.in_ok-source.source) x
    c.in_ok-source.ensures.opened
    (subst (λ f. IsAgain f (unread c.in_ok-source.source) x)
    {x = g.W.Inputs.files c.begin.new.world} {y = files} c.begin.ensures.same_files
    c.in_ok-source-2.ensures.same) in
    sent files a.line.file.now x h a.line.key a.line.symbol a.line.block a.line.target.out.now (outside files o e) new
    c.leave.result
    (subst (λ f. OnOk c.leave.result (Leaves (SendsRead x a.line.key a.line.symbol a.line.block)
    (SendsRead x a.line.key a.line.symbol a.line.block) datagrams_line a.line.target.out.now (outside f o e) new))
    {x = now} {y = files} same
    c.leave.ensures.left)

pub returns-clause-failed : goal.returns-clause-failed
returns-clause-failed g c =
    let files = g.W.Inputs.files c.args.world.now in
    let a = c.args in
    let unread = g.W.Input.Source.unread in
    let x = unread c.in_ok-source-2.source in
    let o = g.O.Sink.written a.output.now in
    let e = g.E.Sink.written a.errors.now in
    let new = outside (g.W.Inputs.files c.leave.new.world) (g.O.Sink.written c.leave.new.output)
    (g.E.Sink.written c.leave.new.errors) in
    let now = g.W.Inputs.files c.measured.new.world in
    let same = ◌∙◌ {a = now} c.measured.ensures.same_files c.begin.ensures.same_files in
    let h = again_has files a.line.file.now (unread c.in_ok-source.source) x
    c.in_ok-source.ensures.opened
    (subst (λ f. IsAgain f (unread c.in_ok-source.source) x)
    {x = g.W.Inputs.files c.begin.new.world} {y = files} c.begin.ensures.same_files
    c.in_ok-source-2.ensures.same) in
    not_sent files a.line.file.now x h a.line.key a.line.symbol a.line.block a.line.target.out.now (outside files o e) new
    c.leave.result
    (subst (λ f. IfErr c.leave.result (FailsToLeave (SendsRead x a.line.key a.line.symbol a.line.block)
    (SendReadFails x a.line.key a.line.symbol a.line.block) a.line.target.out.now (outside f o e) new))
    {x = now} {y = files} same
    c.leave.ensures.failed)
