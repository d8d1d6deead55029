use Rattle.std.proofs.Common.{append_assoc, refl}
use Rattle.flutejoin.specs.CompareLines.{row_line}
use Rattle.flutejoin.proofs.compare.row_text.plain_row_text.Goals as goal

pub returns-clause-line : goal.returns-clause-line
unfolding row_line
returns-clause-line c = rw (
  c.push-2.ensures.text,
  c.side_word.ensures.word,
  c.push.ensures.text,
  c.push_sides.ensures.text,
  c.push_key.ensures.text,
  c.new-text.ensures,
) (simp append_assoc refl)
