-- ObjectFiles::fits: the open file takes what of the value is of the object.
use Rattle.std.proofs.Common.{◌∙◌, ◌-◌, Some, ap, length, subst, sym, take}
use Rattle.std.proofs.lemmas.List.{take_min}
use Rattle.std.specs.Prelude.{OnOk}
use Rattle.flute_output.specs.NewFolders.{Makes, puts}
use Rattle.flutejoin.specs.ObjectFiles.{HasFiles}
use Rattle.flutejoin.specs.Progress.{with_value}
use Rattle.flutejoin.proofs.extract_lemmas.FilesTold.{fits_none, fits_some, lasts, stays_called}
use Rattle.flutejoin.proofs.extract_lemmas.FolderSteps.{puts_stay}
use Rattle.flutejoin.proofs.walk_lemmas.Objects.{on_ok}
use Rattle.flutejoin.proofs.extract.object_files.ObjectFilesVisitor.fits.Goals as goal

pub returns-in-Some-clause-kept : goal.returns-in-Some-clause-kept
returns-in-Some-clause-kept g c = ap
    (λ x. ((c.args.self.now.folder.ghost_name, c.args.self.now.lines.ghost_name), x))
    (lasts _ _ (stays_called _ (puts_stay _) _ _ _ c.put.ensures.put c.put.ensures.refused))

pub returns-in-Some-clause-told : goal.returns-in-Some-clause-told
returns-in-Some-clause-told g c = λ at objects p h. let left = c.in-Some.left in
    let value = c.args.value.now in
    let cut = ap (λ k. take k value) c.min.ensures ∙ take_min _ _ in
    let put = subst (λ l. OnOk c.put.result (Makes (puts l)
    (g.D.NewFolder.places c.args.self.now.folder.now) (g.D.NewFolder.places c.put.new.self))) cut
    c.put.ensures.put in on_ok _ (λ made. subst (λ l. HasFiles at objects
    (Some (with_value value p)) (g.D.NewFolder.places c.put.new.self)
    (g.W.Sink.written c.args.self.now.lines.now) c.args.self.now.written (Some (left - length l)))
    (sym cut) (fits_some h _ _ c.in-Some.is made)) put

pub returns-in-None-clause-told : goal.returns-in-None-clause-told
returns-in-None-clause-told g c = λ at objects p h. fits_none h _ c.in-None.is
