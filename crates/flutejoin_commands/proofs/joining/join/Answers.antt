-- join: what was joined, or why not, stated of the names of the inputs and of the list.
use Rattle.std.proofs.Common.{◌∙◌, subst, IfErr}
use Rattle.std.specs.Prelude.{OnOk, is_some}
use Rattle.std.specs.Option.{option_map}
use Rattle.flutejoin_commands.specs.Works.{JoinsBy, JoinByFails, join_choice, join_lines}
use Rattle.flutejoin_commands.specs.Works.{tells_others}
use Rattle.flutejoin_commands.specs.Worlds.{Leaves, FailsToLeave, TellsAsides, outside}
use Rattle.flutejoin_commands.proofs.WithoutNames.{joined_by, not_joined_by}
use Rattle.flutejoin_commands.proofs.joining.join.Goals as goal

pub returns-clause-joined : goal.returns-clause-joined
returns-clause-joined g c =
    let files = g.W.Inputs.files c.args.world.now in
    let unread = g.W.Input.Source.unread in
    let a = c.args in
    let opened = rw c.as_slice.ensures.value at c.in_ok-inputs.ensures.opened in
    let tells = g.W.Asides.Asides.tells c.asides.result in
    let list = c.in_ok-inputs.list in
    let all = JoinsBy unread tells (join_choice a.line) (option_map unread list)
    c.in_ok-inputs.inputs.items in
    let now = g.W.Inputs.files c.asides.new.self in
    let same = ◌∙◌ {a = now} c.asides.ensures.same_files c.begin_join.ensures.same_files in
    let told =
    subst (λ f. TellsAsides f tells) {x = g.W.Inputs.files c.begin_join.new.world}
    {y = files} c.begin_join.ensures.same_files c.asides.ensures.tells in
    let new = outside (g.W.Inputs.files c.leave.new.world) (g.O.Sink.written c.leave.new.output)
    (g.E.Sink.written c.leave.new.errors) in
    joined_by unread tells a.line c.in_ok-inputs.inputs.items a.line.target.out.now
    (outside files (g.O.Sink.written a.output.now) (g.E.Sink.written a.errors.now)) new opened told
    a.line.without list c.in_ok-inputs.ensures.list c.leave.result
    (subst (λ f. OnOk c.leave.result (Leaves all all
    (join_lines (tells_others a.line.scope (is_some list)) a.line.reasons) a.line.target.out.now
    (outside f (g.O.Sink.written a.output.now) (g.E.Sink.written a.errors.now)) new))
    {x = now} {y = files} same
    c.leave.ensures.left)

pub returns-clause-failed : goal.returns-clause-failed
returns-clause-failed g c =
    let files = g.W.Inputs.files c.args.world.now in
    let unread = g.W.Input.Source.unread in
    let a = c.args in
    let opened = rw c.as_slice.ensures.value at c.in_ok-inputs.ensures.opened in
    let tells = g.W.Asides.Asides.tells c.asides.result in
    let list = c.in_ok-inputs.list in
    let all = JoinsBy unread tells (join_choice a.line) (option_map unread list)
    c.in_ok-inputs.inputs.items in
    let now = g.W.Inputs.files c.asides.new.self in
    let same = ◌∙◌ {a = now} c.asides.ensures.same_files c.begin_join.ensures.same_files in
    let told =
    subst (λ f. TellsAsides f tells) {x = g.W.Inputs.files c.begin_join.new.world}
    {y = files} c.begin_join.ensures.same_files c.asides.ensures.tells in
    let fails = JoinByFails unread tells (join_choice a.line) (option_map unread list)
    c.in_ok-inputs.inputs.items in
    let new = outside (g.W.Inputs.files c.leave.new.world) (g.O.Sink.written c.leave.new.output)
    (g.E.Sink.written c.leave.new.errors) in
    not_joined_by unread tells a.line c.in_ok-inputs.inputs.items a.line.target.out.now
    (outside files (g.O.Sink.written a.output.now) (g.E.Sink.written a.errors.now)) new opened told
    a.line.without list c.in_ok-inputs.ensures.list c.leave.result
    (subst (λ f. IfErr c.leave.result
    (FailsToLeave all fails a.line.target.out.now (outside f (g.O.Sink.written a.output.now)
    (g.E.Sink.written a.errors.now)) new))
    {x = now} {y = files} same
    c.leave.ensures.failed)
