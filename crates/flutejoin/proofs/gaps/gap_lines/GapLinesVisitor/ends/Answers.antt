-- GapLines::ends: the lines of the object, and then those of its gaps or of their ranges.
use Rattle.std.proofs.Common.{refl}
use Rattle.flutejoin.proofs.gaps_lemmas.GapsListed.{object_lined, told_no_stray}
use Rattle.flutejoin.proofs.gaps_lemmas.GapsOpen.{gaps_ended}
use Rattle.flutejoin.proofs.gaps.gap_lines.GapLinesVisitor.ends.Goals as goal

pub returns-clause-told : goal.returns-clause-told
returns-clause-told g c = λ known objects progress t key status conflicts is end h. let old =
    c.args.self.now in object_lined _ _ t old _ _ refl c.in_ok-end.ensures.last
    (gaps_ended t _ h end c.in_ok-end.ensures.line) (
      c.in_ok-add.ensures.added known objects
          h.lines t key status conflicts (told_no_stray old.style t is) h.closed_are h.lines_known,
      c.in_ok-add.ensures.few _ h.few,
    ) c.move_to.ensures.moved
