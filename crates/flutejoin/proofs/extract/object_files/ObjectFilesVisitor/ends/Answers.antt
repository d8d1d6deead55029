-- ObjectFiles::ends: the open file is kept, if there is one, and the object's line written.
use Rattle.std.proofs.Common.{◌≡◌, ◌∙◌, ap, arith, refl, subst, sym}
use Rattle.std.specs.Prelude.{is_some}
use Rattle.std.specs.List.{flat_map}
use Rattle.std.specs.Io.KnownBytes.{Appends}
use Rattle.flutejoin.specs.Lines.{line, status_line}
use Rattle.flutejoin.specs.ObjectFiles.{file_so_far, first_line, object_file}
use Rattle.flutejoin.proofs.extract_lemmas.FilesTold.{few_files, if_written, lasts, one_more, same_some}
use Rattle.flutejoin.proofs.extract.object_files.ObjectFilesVisitor.ends.Goals as goal

pub returns-clause-told : goal.returns-clause-told
returns-clause-told g c = λ at objects progress t key status conflicts is end h. let kept =
    c.in_ok-kept.ensures.kept (flat_map object_file objects) (file_so_far progress) at.0
    (ap is_some (c.take.ensures.value ∙ h.left_is) ∙ same_some _) h.filled in
    let old = g.W.Sink.written c.args.self.now.lines.now in
    let new = g.W.Sink.written c.write_words.new.sink in
    let first : status_line c.args.key.now c.args.status ≡ first_line t = λ i. status_line
    (sym key i) (sym status i) in if_written _ _ _ _ c.write_words.ensures.line (λ told. one_more h
    t end kept (subst (Appends old new) (c.status_text.ensures.line ∙ first) told) refl
    c.take.ensures.after)

pub returns-in_err-kept-clause-kept : goal.returns-in_err-kept-clause-kept
returns-in_err-kept-clause-kept g c =
    ap (λ x. ((c.args.self.now.folder.ghost_name, c.args.self.now.lines.ghost_name), x))
    (lasts _ _ c.keep_file.ensures.stays)

pub returns-clause-kept : goal.returns-clause-kept
returns-clause-kept g c =
    ap (λ x. ((c.args.self.now.folder.ghost_name, c.args.self.now.lines.ghost_name), x))
    (lasts _ _ c.keep_file.ensures.stays)

pub overflow_add-self : goal.overflow_add-self
overflow_add-self g c =
    let r = c.requires in
    omega (arith, r.4.count, few_files r.1, r.3, c.in_ok-kept.ensures.few)
