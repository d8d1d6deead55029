use Rattle.std.proofs.Common.{append_assoc, refl}
use Rattle.flutejoin.specs.JsonGaps.{json_gap_line}
use Rattle.flutejoin.proofs.gaps.json_texts.json_gap_text.Goals as goal

pub returns-clause-line : goal.returns-clause-line
unfolding json_gap_line
returns-clause-line c = rw (
  c.push-6.ensures.text,
  c.push-5.ensures.text,
  c.json_reason_word.ensures.word,
  c.push-4.ensures.text,
  c.push_number-3.ensures.text,
  c.push-3.ensures.text,
  c.push_number-2.ensures.text,
  c.push-2.ensures.text,
  c.push_number.ensures.text,
  c.push.ensures.text,
  c.new-text.ensures,
) (simp append_assoc refl)
