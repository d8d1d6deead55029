-- put: what is left, by what the name of the output leads to.
use Rattle.std.proofs.Common.{subst}
use Rattle.flutejoin_commands.specs.Closings.{ClosesWhole}
use Rattle.flutejoin_commands.specs.Outlets.{outlets}
use Rattle.flutejoin_commands.specs.Worlds.{IsPlaced}
use Rattle.flutejoin_commands.proofs.Closed.{closed_whole}
use Rattle.flutejoin_commands.proofs.FolderSteps.{if_err, on_ok}
use Rattle.flutejoin_commands.proofs.LeftFiles.{closed_file, left_file, left_device}
use Rattle.flutejoin_commands.proofs.LeftFiles.{failed_as, failed_device, failed_output, left_output}
use Rattle.flutejoin_commands.proofs.PrintedNames.{both}
use Rattle.flutejoin_commands.proofs.leaving.put.Goals as goal

pub returns-in-Ok-File-clause-left : goal.returns-in-Ok-File-clause-left
returns-in-Ok-File-clause-left g c =
    on_ok c.write_into-done.result.0
    (left_file (closed_file g.W.Folder.Folder.entries
    {old = g.W.Inputs.files c.args.world.now} {new = g.W.Inputs.files c.close.new.self}
    {name = c.args.target.out.now} {place = c.in-Ok-File.field-0} c.in-Ok-File.field-0-is
    c.in-Ok-File.ensures.placed c.place.ensures.same_files c.close.ensures.closed))
    c.write_into-done.ensures.succeeded

pub returns-in-Ok-File-clause-failed : goal.returns-in-Ok-File-clause-failed
returns-in-Ok-File-clause-failed g c =
    if_err c.write_into-done.result.0
    (λ fault f. failed_as c.args.delivery (closed_file g.W.Folder.Folder.entries
    {old = g.W.Inputs.files c.args.world.now} {new = g.W.Inputs.files c.close.new.self}
    {name = c.args.target.out.now} {place = c.in-Ok-File.field-0} c.in-Ok-File.field-0-is
    c.in-Ok-File.ensures.placed c.place.ensures.same_files c.close.ensures.closed) f)
    c.write_into-done.ensures.failed

pub returns-in-Ok-Device-clause-left : goal.returns-in-Ok-Device-clause-left
returns-in-Ok-Device-clause-left g c =
    on_ok c.deliver.result (left_device (subst (λ p. IsPlaced g.W.Folder.Folder.entries
    (g.W.Inputs.files c.args.world.now) c.args.target.out.now p) c.in-Ok-Device.field-0-is
    c.in-Ok-Device.ensures.placed) c.place.ensures.same_files) c.deliver.ensures.written

pub returns-in-Ok-StandardOutput-clause-left : goal.returns-in-Ok-StandardOutput-clause-left
returns-in-Ok-StandardOutput-clause-left g c =
    let t = c.deliver-in-Ok-StandardOutput in
    let o = c.args.output.now in
    let e = c.args.errors.now in
    let old = outlets (g.O.Sink.written o) (g.O.Sink.failures o) (g.E.Sink.written e)
    (g.E.Sink.failures e) in
    let new = outlets (g.O.Sink.written t.new.output) (g.O.Sink.failures t.new.output)
    (g.E.Sink.written t.new.report) (g.E.Sink.failures t.new.report) in
    on_ok t.result (left_output {d = old} {d' = new}
    (subst (λ p. IsPlaced g.W.Folder.Folder.entries
    (g.W.Inputs.files c.args.world.now) c.args.target.out.now p) c.in-Ok-StandardOutput.field-0-is
    c.in-Ok-StandardOutput.ensures.placed) c.place.ensures.same_files) t.ensures.written

pub returns-in-Ok-File-clause-any_moment : goal.returns-in-Ok-File-clause-any_moment
returns-in-Ok-File-clause-any_moment g c =
    let files = g.W.Inputs.files c.args.world.now in
    let entries = g.W.Folder.Folder.entries in
    let closed = closed_file entries {old = files} {new = g.W.Inputs.files c.close.new.self}
    {name = c.args.target.out.now} {place = c.in-Ok-File.field-0} c.in-Ok-File.field-0-is
    c.in-Ok-File.ensures.placed
    c.place.ensures.same_files c.close.ensures.closed in
    let new = g.W.Inputs.closed c.close.new.self in
    subst (λ k. ClosesWhole c.args.target.out.now files k new) {y = g.W.Inputs.closed c.args.world.now}
    c.place.ensures.same_closed
    (closed_whole {name = c.args.target.out.now} {files = files} (g.W.Inputs.closed c.place.new.self)
    {new = new} (entries c.in-Ok-File.folder)
    (entries c.write_into-done.result.1) closed.had c.write_into-done.ensures.any_moment
    c.close.ensures.noted)

pub returns-in-Ok-Device-clause-failed : goal.returns-in-Ok-Device-clause-failed
returns-in-Ok-Device-clause-failed g c =
    if_err c.deliver.result (λ fault why. failed_device (subst (λ p. IsPlaced g.W.Folder.Folder.entries
    (g.W.Inputs.files c.args.world.now) c.args.target.out.now p) c.in-Ok-Device.field-0-is
    c.in-Ok-Device.ensures.placed) c.place.ensures.same_files why) c.deliver.ensures.failed

pub returns-in-Ok-StandardOutput-clause-failed : goal.returns-in-Ok-StandardOutput-clause-failed
returns-in-Ok-StandardOutput-clause-failed g c =
    let t = c.deliver-in-Ok-StandardOutput in
    if_err t.result (λ fault why. failed_output (subst (λ p. IsPlaced g.W.Folder.Folder.entries
    (g.W.Inputs.files c.args.world.now) c.args.target.out.now p) c.in-Ok-StandardOutput.field-0-is
    c.in-Ok-StandardOutput.ensures.placed) c.place.ensures.same_files why.0 why.1)
    (both _ _ t.result t.ensures.failed t.ensures.untold)
