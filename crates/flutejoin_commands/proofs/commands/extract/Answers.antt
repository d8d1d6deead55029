-- extract: the output and the faults, stated of the input's name.
use Rattle.std.proofs.Common.{IfErr, List, ℕ, Option, subst}
use Rattle.std.specs.Prelude.{OnOk}
use Rattle.flutejoin_commands.specs.Outlets.{Held, FailsHeld}
use Rattle.flutejoin_commands.specs.Works.{WritesObject, ExtractFails, bytes_line, most_of}
use Rattle.flutejoin_commands.specs.Worlds.{Leaves, FailsToLeave, outside}
use Rattle.flutejoin_commands.proofs.OfNames.{left_of, not_left_of}
use Rattle.flutejoin_commands.proofs.commands.extract.Goals as goal

pub returns-clause-extracted : goal.returns-clause-extracted
returns-clause-extracted g c =
    let files = g.W.Inputs.files c.args.world.now in
    let unread = g.W.Input.Source.unread in
    let a = c.args in
    let new = outside (g.W.Inputs.files c.leave.new.world)
    (g.O.Sink.written c.leave.new.output) (g.E.Sink.written c.leave.new.errors) in
    left_of (λ (k : Option (List ℕ)). WritesObject (most_of a.line.limit) k a.line.key)
    (λ (k : Option (List ℕ)). Held (WritesObject (most_of a.line.limit) k a.line.key))
    (λ (k : Option (List ℕ)). FailsHeld (ExtractFails (most_of a.line.limit) k a.line.key)) files a.line.journal.now
    (unread c.in_ok-source.source)
    c.in_ok-source.ensures.opened
    a.line.target.out.now (outside files (g.O.Sink.written a.output.now) (g.E.Sink.written a.errors.now)) new
    bytes_line c.leave.result
    (subst (λ f. OnOk c.leave.result
    (Leaves (WritesObject (most_of a.line.limit) (unread c.in_ok-source.source) a.line.key)
    (Held (WritesObject (most_of a.line.limit) (unread c.in_ok-source.source) a.line.key)) bytes_line
    a.line.target.out.now
    (outside f (g.O.Sink.written a.output.now) (g.E.Sink.written a.errors.now)) new))
    {x = g.W.Inputs.files c.begin.new.world} {y = files} c.begin.ensures.same_files
    c.leave.ensures.left)

pub returns-clause-failed : goal.returns-clause-failed
returns-clause-failed g c =
    let files = g.W.Inputs.files c.args.world.now in
    let unread = g.W.Input.Source.unread in
    let a = c.args in
    let new = outside (g.W.Inputs.files c.leave.new.world)
    (g.O.Sink.written c.leave.new.output) (g.E.Sink.written c.leave.new.errors) in
    not_left_of (λ (k : Option (List ℕ)). WritesObject (most_of a.line.limit) k a.line.key)
    (λ (k : Option (List ℕ)). Held (WritesObject (most_of a.line.limit) k a.line.key))
    (λ (k : Option (List ℕ)). FailsHeld (ExtractFails (most_of a.line.limit) k a.line.key)) files a.line.journal.now
    (unread c.in_ok-source.source)
    c.in_ok-source.ensures.opened
    a.line.target.out.now (outside files (g.O.Sink.written a.output.now) (g.E.Sink.written a.errors.now)) new
    c.leave.result
    (subst (λ f. IfErr c.leave.result
    (FailsToLeave (WritesObject (most_of a.line.limit) (unread c.in_ok-source.source) a.line.key)
    (FailsHeld (ExtractFails (most_of a.line.limit) (unread c.in_ok-source.source) a.line.key)) a.line.target.out.now
    (outside f (g.O.Sink.written a.output.now) (g.E.Sink.written a.errors.now)) new))
    {x = g.W.Inputs.files c.begin.new.world} {y = files} c.begin.ensures.same_files
    c.leave.ensures.failed)
