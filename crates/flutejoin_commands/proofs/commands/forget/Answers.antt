-- forget: the output and the faults, stated of the input's name.
use Rattle.std.proofs.Common.{IfErr, List, ℕ, Option, subst, sym}
use Rattle.std.specs.Prelude.{OnOk}
use Rattle.flute_streams.specs.declared.choice.selection.AllBut.{AllBut}
use Rattle.flutejoin.specs.Forget.{ForgetFails}
use Rattle.flutejoin.specs.declared.forget.ForgetCounts.{ForgetCounts}
use Rattle.flutejoin_commands.specs.Files.{Files, HasBytes, IfFiles}
use Rattle.flutejoin_commands.specs.Named.{ForgetInNameFails}
use Rattle.flutejoin_commands.specs.Works.{ForgetsIn, forget_lines}
use Rattle.flutejoin_commands.specs.Worlds.{Leaves, FailsToLeave, outside}
use Rattle.flutejoin_commands.proofs.OfNames.{left_of, not_left_of}
use Rattle.flutejoin_commands.proofs.commands.forget.Goals as goal

abbrev forgets_in : Option Files → List ℕ → AllBut → ForgetCounts → Option (List ℕ)
    → Option (List ℕ) → Type 0
forgets_in files j rest counts old new =
    IfFiles files (λ f. ForgetsIn (f j) rest counts old new)

pub returns-clause-forgot : goal.returns-clause-forgot
returns-clause-forgot g c =
    let files = g.W.Inputs.files c.args.world.now in
    let unread = g.W.Input.Source.unread in
    let a = c.args in
    let input = c.forget_input-input.result in
    let x = unread input.stream.source in
    let o = g.O.Sink.written a.output.now in
    let e = g.E.Sink.written a.errors.now in
    let new = outside (g.W.Inputs.files c.leave.new.world) (g.O.Sink.written c.leave.new.output)
    (g.E.Sink.written c.leave.new.errors) in
    subst (λ (r : AllBut). OnOk c.leave.result (Leaves (forgets_in files a.journal.now r)
    (forgets_in files a.journal.now r) forget_lines a.target.out.now (outside files o e) new))
    c.forget_input-input.ensures.choice
    (left_of (λ (k : Option (List ℕ)). ForgetsIn k input.choice)
    (λ (k : Option (List ℕ)). ForgetsIn k input.choice)
    (λ (k : Option (List ℕ)). ForgetFails k) files a.journal.now x
    (subst (λ s. HasBytes files a.journal.now (unread s)) (sym c.forget_input-input.ensures.source)
    c.in_ok-source.ensures.opened)
    a.target.out.now (outside files o e) new forget_lines c.leave.result
    (subst (λ f. OnOk c.leave.result (Leaves (ForgetsIn x input.choice)
    (ForgetsIn x input.choice) forget_lines a.target.out.now (outside f o e) new))
    {x = g.W.Inputs.files c.begin.new.world} {y = files} c.begin.ensures.same_files
    c.leave.ensures.left))

pub returns-clause-failed : goal.returns-clause-failed
returns-clause-failed g c =
    let files = g.W.Inputs.files c.args.world.now in
    let unread = g.W.Input.Source.unread in
    let a = c.args in
    let input = c.forget_input-input.result in
    let x = unread input.stream.source in
    let o = g.O.Sink.written a.output.now in
    let e = g.E.Sink.written a.errors.now in
    let new = outside (g.W.Inputs.files c.leave.new.world) (g.O.Sink.written c.leave.new.output)
    (g.E.Sink.written c.leave.new.errors) in
    subst (λ (r : AllBut). IfErr c.leave.result (FailsToLeave (forgets_in files a.journal.now r)
    (ForgetInNameFails files a.journal.now) a.target.out.now (outside files o e) new))
    c.forget_input-input.ensures.choice
    (not_left_of (λ (k : Option (List ℕ)). ForgetsIn k input.choice)
    (λ (k : Option (List ℕ)). ForgetsIn k input.choice)
    (λ (k : Option (List ℕ)). ForgetFails k) files a.journal.now x
    (subst (λ s. HasBytes files a.journal.now (unread s)) (sym c.forget_input-input.ensures.source)
    c.in_ok-source.ensures.opened)
    a.target.out.now (outside files o e) new c.leave.result
    (subst (λ f. IfErr c.leave.result (FailsToLeave (ForgetsIn x input.choice)
    (ForgetFails x) a.target.out.now (outside f o e) new))
    {x = g.W.Inputs.files c.begin.new.world} {y = files} c.begin.ensures.same_files
    c.leave.ensures.failed))
