-- ObjectFiles::lacks: the open file is removed, if there is one.
use Rattle.std.proofs.Common.{◌∙◌, Some, ap}
use Rattle.std.specs.Prelude.{is_some}
use Rattle.std.specs.List.{flat_map}
use Rattle.flutejoin.specs.ObjectFiles.{file_so_far, object_file}
use Rattle.flutejoin.proofs.extract_lemmas.FilesTold.{lasts, same_some}
use Rattle.flutejoin.proofs.walk_lemmas.Objects.{on_ok}
use Rattle.flutejoin.proofs.extract.object_files.ObjectFilesVisitor.lacks.Goals as goal

pub returns-clause-kept : goal.returns-clause-kept
returns-clause-kept g c =
    ap (λ x. ((c.args.self.now.folder.ghost_name, c.args.self.now.lines.ghost_name), x))
    (lasts _ _ c.drop_file.ensures.stays)

pub returns-clause-told : goal.returns-clause-told
returns-clause-told g c = λ at objects p h. on_ok c.drop_file.result
    (λ f. record { filled = f; told = h.told; count = h.count; left_is = c.take.ensures.after })
    (c.drop_file.ensures.dropped (flat_map object_file objects) (file_so_far (Some p)) at.0
    (ap is_some (c.take.ensures.value ∙ h.left_is) ∙ same_some (Some p)) h.filled)
