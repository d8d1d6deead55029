use Rattle.std.proofs.Common.{append_assoc, refl}
use Rattle.flutejoin.specs.JsonGaps.{json_object_line}
use Rattle.flutejoin.proofs.gaps.json_texts.json_object_text.Goals as goal

pub returns-clause-line : goal.returns-clause-line
unfolding json_object_line
returns-clause-line c = rw (
  c.push-2.ensures.text,
  c.push_json_unplaced.ensures.text,
  c.push_json_status.ensures.text,
  c.push_json_name.ensures.text,
  c.push.ensures.text,
  c.new-text.ensures,
) (simp append_assoc refl)
