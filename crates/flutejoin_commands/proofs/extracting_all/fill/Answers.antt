-- fill: the work failed within the limits that were asked for.
use Rattle.std.proofs.Common.{inl, subst}
use Rattle.std.specs.Prelude.{IfErr}
use Rattle.std.proofs.lemmas.Result.{err_from_is_err_and}
use Rattle.flutejoin.specs.ExtractAll.{ExtractAllFails}
use Rattle.flutejoin_commands.specs.Works.{most_of}
use Rattle.flutejoin_commands.proofs.extracting_all.fill.Goals.{in-AnySize, in-Shelf}
use Rattle.flutejoin_commands.proofs.extracting_all.fill.Goals as goal

pub returns-in_err-count-clause-failed : goal.returns-in_err-count-clause-failed
returns-in_err-count-clause-failed g c =
    let u = g.R.Source.unread c.args.source.now in
    let left = g.R.Source.unread c.match-limit.source in
    let e = err_from_is_err_and c.from_residual.result c.from_residual.ensures.1 in
    let fails : IfErr c.match-limit.extracted (ExtractAllFails (most_of c.args.limit) u left) =
    elim c.match-limit.branch [
      | in-AnySize w ↦ rw (w.in-AnySize.is, w.source-is, w.extracted-is)
          w.extract_all_to-extracted.ensures.failed
      | in-Shelf w ↦ rw (w.in-Shelf.is, w.source-is, w.extracted-is)
          w.extract_all_to-extracted-in-Shelf.ensures.failed
    ] in
    rw (e.1, e.2)
    (inl (subst (λ r. IfErr r (ExtractAllFails (most_of c.args.limit) u left))
    c.in_err-count.was fails))
