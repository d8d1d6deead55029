-- ObjectFiles::begins: a file is opened.
use Rattle.std.proofs.Common.{◌∙◌, Some, sym, ap, subst, arith}
use Rattle.std.specs.List.{flat_map}
use Rattle.std.proofs.Math.Seq.{take-nil}
use Rattle.flute_output.specs.NewFolders.{Fills, LeadsTo, Makes, begins}
use Rattle.flutejoin.specs.FileNames.{file_name}
use Rattle.flutejoin.specs.ObjectFiles.{object_file}
use Rattle.flutejoin.proofs.extract_lemmas.FilesTold.{lasts}
use Rattle.flutejoin.proofs.extract_lemmas.FolderSteps.{begins_stay, did_stay, fills_begins}
use Rattle.flutejoin.proofs.extract.object_files.ObjectFilesVisitor.begins.Goals as goal

pub returns-in_err-begin-clause-kept : goal.returns-in_err-begin-clause-kept
returns-in_err-begin-clause-kept g c =
    ap (λ x. ((c.args.self.now.folder.ghost_name, c.args.self.now.lines.ghost_name), x))
    (lasts _ _ c.in_err-begin.ensures.refused)

pub returns-clause-kept : goal.returns-clause-kept
returns-clause-kept g c = ap
    (λ x. ((c.args.self.now.folder.ghost_name, c.args.self.now.lines.ghost_name), x))
    (lasts _ _ (did_stay _ (begins_stay _) _ _ c.in_ok-begin.ensures.begun))

pub returns-clause-told : goal.returns-clause-told
returns-clause-told g c = λ at objects h. let key = c.args.key.now in
    let len = c.args.info.now.transfer_length in
    let made = subst (λ n. Makes (begins n) (g.D.NewFolder.places c.args.self.now.folder.now)
    (g.D.NewFolder.places c.begin.new.self)) (c.as_slice.ensures ∙ c.file_name.ensures.name)
    c.in_ok-begin.ensures.begun in record {
      filled = subst (λ x. LeadsTo
          (Fills (flat_map object_file objects) (Some (record { name = file_name key; bytes = x })))
          at.0 (g.D.NewFolder.places c.begin.new.self)) (sym (take-nil len))
          (fills_begins _ _ _ at.0 _ _ h.filled made);
      told = h.told;
      count = h.count;
      left_is = ap Some (c.length.ensures.value ∙ omega arith);
    }
