use Rattle.std.proofs.Common.{append_assoc, refl}
use Rattle.flutejoin.proofs.gaps.json_texts.push_json_status.Goals as goal

pub returns-in-Partial-clause-text : goal.returns-in-Partial-clause-text
returns-in-Partial-clause-text c = rw (
  c.in-Partial.is,
  c.push_named-in-Partial-3.ensures.text,
  c.push_named-in-Partial-2.ensures.text,
  c.push_named-in-Partial.ensures.text,
) (simp append_assoc refl)
