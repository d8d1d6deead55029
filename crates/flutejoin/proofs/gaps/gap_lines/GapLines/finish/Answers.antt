-- GapLines::finish: the lines that were put aside are written.
use Rattle.std.proofs.Common.{inr, refl}
use Rattle.std.proofs.lemmas.Result.{err_from_is_err_and}
use Rattle.flutejoin.proofs.gaps_lemmas.GapsListed.{all_lined}
use Rattle.flutejoin.proofs.gaps.gap_lines.GapLines.finish.Goals as goal

pub returns-in_err-move_to-clause-part : goal.returns-in_err-move_to-clause-part
returns-in_err-move_to-clause-part g c = λ objects h.
    let e = err_from_is_err_and c.from_residual-in_err-move_to.result
    c.from_residual-in_err-move_to.ensures.1 in
    rw e.1 (inr (c.in_err-move_to.ensures.part _ (all_lined g.A.Sink.written
    c.args.self.now.style (g.A.Sink.written c.end_session.new.lines) h refl
    c.in_ok-end_session.ensures.line).written))

pub returns-clause-printed : goal.returns-clause-printed
returns-clause-printed g c = λ objects h. let l = all_lined _ _ _ h refl
    c.in_ok-end_session.ensures.line in ((c.in_ok-move_to.ensures.moved _ l.written).0, l.whole)
