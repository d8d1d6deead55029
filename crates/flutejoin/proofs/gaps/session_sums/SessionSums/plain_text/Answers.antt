use Rattle.std.proofs.Common.{arith}
use Rattle.std.proofs.lemmas.Grind.{common_steps}
use Rattle.std.proofs.Common.{rules}
use Rattle.std.proofs.Common.{append_assoc, refl}
use Rattle.flutejoin.specs.Sums.{sums_line}
use Rattle.flutejoin.proofs.gaps.session_sums.SessionSums.plain_text.Goals as goal

pub returns-clause-line : goal.returns-clause-line
unfolding sums_line
returns-clause-line c = rw (
  c.push_number-8.ensures.text,
  c.push-8.ensures.text,
  c.push_number-7.ensures.text,
  c.push-7.ensures.text,
  c.push_number-6.ensures.text,
  c.push-6.ensures.text,
  c.push_number-5.ensures.text,
  c.push-5.ensures.text,
  c.push_number-4.ensures.text,
  c.push-4.ensures.text,
  c.push_number-3.ensures.text,
  c.push-3.ensures.text,
  c.push_number-2.ensures.text,
  c.push-2.ensures.text,
  c.push_number.ensures.text,
  c.push.ensures.text,
  c.push_source.ensures.text,
  c.new-text.ensures,
  c.sender.ensures,
  c.tsi.ensures.value,
) (simp append_assoc refl)
