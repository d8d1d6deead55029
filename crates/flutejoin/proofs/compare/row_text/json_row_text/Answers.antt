use Rattle.std.proofs.Common.{append_assoc, refl}
use Rattle.flutejoin.specs.CompareLines.{row_line}
use Rattle.flutejoin.proofs.compare.row_text.json_row_text.Goals as goal

pub returns-clause-line : goal.returns-clause-line
unfolding row_line
returns-clause-line c = rw (
  c.push-5.ensures.text,
  c.push-4.ensures.text,
  c.json_side_word.ensures.word,
  c.push-3.ensures.text,
  c.push_json_sides.ensures.text,
  c.push-2.ensures.text,
  c.push_json_name.ensures.text,
  c.push.ensures.text,
  c.new-text.ensures,
) (simp append_assoc refl)
