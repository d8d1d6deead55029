-- leave: why it fails, once what was printed was to be handed on.
use Rattle.flutejoin_commands.specs.Deliveries.{FailsDelivered, delivered}
use Rattle.flutejoin_commands.specs.Worlds.{FailsToLeave, Leaves, outside}
use Rattle.flutejoin_commands.proofs.LeftFiles.{failed_still, fails_after, unhanded}
use Rattle.flutejoin_commands.proofs.leaving.leave.Goals as goal

pub returns-clause-failed : goal.returns-clause-failed
returns-clause-failed g c =
    let d = c.put-done in
    let a = c.args in
    let writes = g.K.Work.writes a.work in
    let puts = delivered a.delivery writes in
    let fails = FailsDelivered a.delivery (g.K.Work.fails a.work) in
    let files = g.W.Inputs.files d.new.world in
    let errors = g.E.Sink.written d.new.errors in
    let old = outside (g.W.Inputs.files a.world.now) (g.O.Sink.written a.output.now)
    (g.E.Sink.written a.errors.now) in
    let put = outside files (g.O.Sink.written d.new.output) errors in
    let new = outside files (g.O.Sink.written c.hand_on.new.report) errors in
    fails_after {L = Leaves writes puts (g.K.Work.tells a.work) a.target.out.now old put}
    {F = FailsToLeave writes fails a.target.out.now old put}
    {G = FailsToLeave writes fails a.target.out.now old new}
    d.result c.hand_on.result (λ l. unhanded l) (λ fault f. failed_still c.hand_on.ensures.same f)
    d.ensures.left d.ensures.failed c.hand_on.ensures.first c.hand_on.ensures.after
