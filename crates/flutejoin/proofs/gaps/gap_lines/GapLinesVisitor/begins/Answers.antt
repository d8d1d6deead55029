-- GapLines::begins: no gap of the object came yet.
use Rattle.std.proofs.Common.{refl}
use Rattle.flutejoin.proofs.gaps_lemmas.GapsOpen.{object_begun}
use Rattle.flutejoin.proofs.gaps.gap_lines.GapLinesVisitor.begins.Goals as goal

pub returns-clause-told : goal.returns-clause-told
returns-clause-told g c = λ known objects h. object_begun _ _ h
    (record { style = refl; closed = refl; lines = refl }) c.begin.ensures.info c.begin.ensures.last
    refl
