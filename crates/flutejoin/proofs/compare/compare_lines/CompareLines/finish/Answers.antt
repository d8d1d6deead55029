-- CompareLines::finish: the lines that were put aside are written.
use Rattle.std.proofs.Common.{inr}
use Rattle.std.proofs.lemmas.Result.{err_from_is_err_and}
use Rattle.flutejoin.proofs.compare_lemmas.RowsPut.{all_written}
use Rattle.flutejoin.proofs.compare.compare_lines.CompareLines.finish.Goals as goal

pub returns-in_err-move_to-clause-part : goal.returns-in_err-move_to-clause-part
returns-in_err-move_to-clause-part g c = λ rows h.
    let e = err_from_is_err_and c.from_residual-in_err-move_to.result
    c.from_residual-in_err-move_to.ensures.1 in
    rw e.1 (inr (c.in_err-move_to.ensures.part _ (all_written g.A.Sink.written
    (g.A.Sink.written c.end_session.new.lines) h c.in_ok-end_session.ensures.line)))

pub returns-clause-printed : goal.returns-clause-printed
returns-clause-printed g c = λ rows h. let l = all_written _ _ h c.in_ok-end_session.ensures.line in
    ((c.in_ok-move_to.ensures.moved _ l).0, h.same)
