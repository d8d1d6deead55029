use Rattle.std.proofs.Common.{append_assoc, refl}
use Rattle.flutejoin.specs.Sums.{sums_line}
use Rattle.flutejoin.proofs.gaps.session_sums.SessionSums.json_text.Goals as goal

pub returns-clause-line : goal.returns-clause-line
unfolding sums_line
returns-clause-line c = rw (
  c.push-9.ensures.text,
  c.push_number-7.ensures.text,
  c.push-8.ensures.text,
  c.push_number-6.ensures.text,
  c.push-7.ensures.text,
  c.push_number-5.ensures.text,
  c.push-6.ensures.text,
  c.push_number-4.ensures.text,
  c.push-5.ensures.text,
  c.push_number-3.ensures.text,
  c.push-4.ensures.text,
  c.push_number-2.ensures.text,
  c.push-3.ensures.text,
  c.push_number.ensures.text,
  c.push-2.ensures.text,
  c.push_json_session.ensures.text,
  c.push.ensures.text,
  c.new-text.ensures,
) (simp append_assoc refl)
