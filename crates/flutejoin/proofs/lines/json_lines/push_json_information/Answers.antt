use Rattle.std.proofs.Common.{append_assoc, refl}
use Rattle.flutejoin.proofs.lines.json_lines.push_json_information.Goals as goal

pub returns-clause-text : goal.returns-clause-text
returns-clause-text c = rw (
  c.push-4.ensures.text,
  c.push_number-3.ensures.text,
  c.push-3.ensures.text,
  c.push_number-2.ensures.text,
  c.push-2.ensures.text,
  c.push_number.ensures.text,
  c.push.ensures.text,
) (simp append_assoc refl)
