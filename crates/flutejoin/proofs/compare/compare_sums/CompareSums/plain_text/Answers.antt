use Rattle.std.proofs.Common.{append_assoc, refl}
use Rattle.flutejoin.specs.CompareSums.{sums_line}
use Rattle.flutejoin.proofs.compare.compare_sums.CompareSums.plain_text.Goals as goal

pub returns-clause-line : goal.returns-clause-line
unfolding sums_line
returns-clause-line c = rw (
  c.push_named-2.ensures.text,
  c.push_sides-2.ensures.text,
  c.push-2.ensures.text,
  c.push_sides.ensures.text,
  c.push_named.ensures.text,
  c.push_number.ensures.text,
  c.push.ensures.text,
  c.push_source.ensures.text,
  c.new-text.ensures,
  c.sender.ensures,
  c.tsi.ensures.value,
) (simp append_assoc refl)
