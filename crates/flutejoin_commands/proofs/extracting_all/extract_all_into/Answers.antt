-- extract_all_into: the folder that was filled and ended, at any moment, or why not.
use Rattle.std.proofs.Common.{Result, ℕ, ◌+◌, arith, inr, subst, sym, ◌∙◌}
use Rattle.std.specs.Prelude.{IfOk}
use Rattle.flutejoin.specs.ExtractAll.{ExtractsAll}
use Rattle.flutejoin.specs.declared.command_fault.CommandFault.{CommandFault}
use Rattle.flutejoin_commands.specs.Works.{most_of}
use Rattle.flutejoin_commands.proofs.FolderSteps.{made_ready, made_nothing, filled_beside}
use Rattle.flutejoin_commands.proofs.FolderSteps.{one_always, leaves_folder, there_failed, on_ok}
use Rattle.flutejoin_commands.specs.Folders.{FolderFails}
use Rattle.flutejoin_commands.proofs.FolderSteps.{Filling, Finishing, on_if_ok, if_err}
use Rattle.flutejoin_commands.proofs.FolderSteps.{at_fault, fault_caused, gone_if_quiet}
use Rattle.flutejoin_commands.proofs.FolderSteps.{none_beside, not_finished}
use Rattle.flutejoin_commands.proofs.extracting_all.extract_all_into.Goals as goal

pub fill-filled-requires : goal.fill-filled-requires
fill-filled-requires g c = made_ready (g.D.NewFolder.places c.args.folder.now)
    (g.D.NewFolder.places c.create.new.self) c.in-Ok.ensures.made

pub finish_folder-requires-clause-nothing : goal.finish_folder-requires-clause-nothing
finish_folder-requires-clause-nothing g c = made_nothing (g.D.NewFolder.places c.args.folder.now)
    (g.D.NewFolder.places c.create.new.self) (g.D.NewFolder.places c.fill-filled.new.folder)
    c.in-Ok.ensures.made c.fill-filled.ensures.stays

pub finish_folder-requires-clause-beside : goal.finish_folder-requires-clause-beside
finish_folder-requires-clause-beside g c =
    on_if_ok c.fill-filled.result (λ n e. filled_beside e.taken.files
    (g.D.NewFolder.places c.create.new.self) (g.D.NewFolder.places c.fill-filled.new.folder)
    e.taken.filled) c.fill-filled.ensures.filled

pub returns-in-Ok-finish_folder-clause-extracted : goal.returns-in-Ok-finish_folder-clause-extracted
returns-in-Ok-finish_folder-clause-extracted g c =
    let o = g.D.NewFolder.places c.args.folder.now in
    let h = c.in-Ok.ensures.made in
    let m = g.D.NewFolder.places c.create.new.self in
    let f = g.D.NewFolder.places c.fill-filled.new.folder in
    let n = g.D.NewFolder.places c.finish_folder.new.folder in
    let u = g.R.Source.unread c.args.source.now in
    let w = g.R.Source.unread c.fill-filled.new.source in
    let picks = g.C.Picks.picks c.args.picks.now in
    let r = g.P.Sink.written c.args.report.now in
    let r' = g.P.Sink.written c.fill-filled.new.report in
    let e = subst (λ (x : Result ℕ CommandFault). IfOk x
    (ExtractsAll (most_of c.args.limit) u w picks m f r r'))
    c.in-Ok-finish_folder.ensures.done c.fill-filled.ensures.filled in
    on_ok c.tell.result (λ line. leaves_folder o n h e
    c.in-Ok-finish_folder.ensures.kept c.in-Ok-finish_folder.ensures.lasts
    c.in-Ok-finish_folder.ensures.gone_ok line) c.tell.ensures.told

pub returns-in-Ok-finish_folder-clause-failed : goal.returns-in-Ok-finish_folder-clause-failed
returns-in-Ok-finish_folder-clause-failed g c =
    let o = g.D.NewFolder.places c.args.folder.now in
    let h = c.in-Ok.ensures.made in
    let m = g.D.NewFolder.places c.create.new.self in
    let f = g.D.NewFolder.places c.fill-filled.new.folder in
    let n = g.D.NewFolder.places c.finish_folder.new.folder in
    let u = g.R.Source.unread c.args.source.now in
    let w = g.R.Source.unread c.fill-filled.new.source in
    let picks = g.C.Picks.picks c.args.picks.now in
    let r = g.P.Sink.written c.args.report.now in
    let r' = g.P.Sink.written c.fill-filled.new.report in
    let e = subst (λ (x : Result ℕ CommandFault). IfOk x
    (ExtractsAll (most_of c.args.limit) u w picks m f r r'))
    c.in-Ok-finish_folder.ensures.done c.fill-filled.ensures.filled in
    if_err c.tell.result
    (λ fault is. there_failed o n (inr is) h e c.in-Ok-finish_folder.ensures.kept)
    c.tell.ensures.failed

pub returns-in-Ok-finish_folder-clause-any_moment
    : goal.returns-in-Ok-finish_folder-clause-any_moment
returns-in-Ok-finish_folder-clause-any_moment g c =
    let o = g.D.NewFolder.places c.args.folder.now in
    let h = c.in-Ok.ensures.made in
    inr (one_always o (g.D.NewFolder.places c.create.new.self)
    (g.D.NewFolder.places c.fill-filled.new.folder)
    (g.D.NewFolder.places c.finish_folder.new.folder) h c.fill-filled.ensures.stays
    c.finish_folder.ensures.any_moment)

pub returns-in-Err-clause-failed : goal.returns-in-Err-clause-failed
returns-in-Err-clause-failed g c =
    let o = g.D.NewFolder.places c.args.folder.now in
    let h = c.in-Ok.ensures.made in
    let u = g.R.Source.unread c.args.source.now in
    let w = g.R.Source.unread c.fill-filled.new.source in
    let m = g.D.NewFolder.places c.create.new.self in
    let f = g.D.NewFolder.places c.fill-filled.new.folder in
    let r = g.P.Sink.written c.args.report.now in
    let r' = g.P.Sink.written c.fill-filled.new.report in
    let picks = g.C.Picks.picks c.args.picks.now in
    let filling : Filling (most_of c.args.limit) u w picks m f r r'
    c.fill-filled.result = record {
      stays = c.fill-filled.ensures.stays;
      extracted = c.fill-filled.ensures.filled;
      failed = c.fill-filled.ensures.failed;
    } in
    let finishing : Finishing f (g.D.NewFolder.places c.finish_folder.new.folder)
    c.fill-filled.result c.finish_folder.result = record {
      fault = c.finish_folder.ensures.fault;
      work = c.finish_folder.ensures.work;
      dropped = c.finish_folder.ensures.dropped;
    } in
    let e = not_finished c.in-Err.is h filling finishing in
    subst (λ x. FolderFails (most_of c.args.limit) u w picks o
    (g.D.NewFolder.places c.finish_folder.new.folder)
    x) (sym c.fault_of.ensures) e

pub returns-in-Err-clause-any_moment : goal.returns-in-Err-clause-any_moment
returns-in-Err-clause-any_moment g c =
    let o = g.D.NewFolder.places c.args.folder.now in
    let h = c.in-Ok.ensures.made in
    inr (one_always o (g.D.NewFolder.places c.create.new.self)
    (g.D.NewFolder.places c.fill-filled.new.folder)
    (g.D.NewFolder.places c.finish_folder.new.folder) h c.fill-filled.ensures.stays
    c.finish_folder.ensures.any_moment)

pub returns-in-Err-clause-cause : goal.returns-in-Err-clause-cause
returns-in-Err-clause-cause g c =
    λ is. let made = c.in-Ok.ensures.failures in
    let caused = fault_caused (g.D.NewFolder.failures c.create.new.self + g.P.Sink.failures c.args.report.now)
    (g.D.NewFolder.failures c.fill-filled.new.folder)
    (g.P.Sink.failures c.fill-filled.new.report) (g.D.NewFolder.failures c.finish_folder.new.folder)
    c.finish_folder.result c.in-Err.fault c.in-Err.is c.finish_folder.ensures.counted
    c.fill-filled.ensures.counted c.fill-filled.result
    c.finish_folder.ensures.fault c.fill-filled.ensures.cause c.finish_folder.ensures.cause
    (sym c.fault_of.ensures ∙ is) in
    omega (arith, made, caused)

pub returns-in-Err-clause-gone : goal.returns-in-Err-clause-gone
returns-in-Err-clause-gone g c =
    λ same. none_beside (g.D.NewFolder.places c.args.folder.now)
    (g.D.NewFolder.places c.create.new.self) (g.D.NewFolder.places c.fill-filled.new.folder)
    (g.D.NewFolder.places c.finish_folder.new.folder) c.in-Ok.ensures.made
    c.fill-filled.ensures.stays
    (gone_if_quiet (g.D.NewFolder.failures c.create.new.self + g.P.Sink.failures c.args.report.now)
    (g.D.NewFolder.failures c.fill-filled.new.folder)
    (g.P.Sink.failures c.fill-filled.new.report) (g.D.NewFolder.failures c.finish_folder.new.folder)
    c.finish_folder.result c.in-Err.fault c.in-Err.is c.finish_folder.ensures.counted
    c.fill-filled.ensures.counted c.fill-filled.result
    c.in-Err.ensures.gone c.finish_folder.ensures.cause
    (let made = c.in-Ok.ensures.failures in omega (arith, made, same)))

pub returns-in-Ok-finish_folder-clause-gone : goal.returns-in-Ok-finish_folder-clause-gone
returns-in-Ok-finish_folder-clause-gone g c =
    at_fault _ c.tell.result (none_beside (g.D.NewFolder.places c.args.folder.now)
    (g.D.NewFolder.places c.create.new.self) (g.D.NewFolder.places c.fill-filled.new.folder)
    (g.D.NewFolder.places c.finish_folder.new.folder) c.in-Ok.ensures.made
    c.fill-filled.ensures.stays c.in-Ok-finish_folder.ensures.gone_ok)
