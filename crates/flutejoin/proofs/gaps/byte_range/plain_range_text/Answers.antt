use Rattle.std.proofs.Common.{rules}
use Rattle.flutejoin.specs.Ranges.{range_line}
use Rattle.flutejoin.proofs.gaps.byte_range.plain_range_text.Goals as goal

pub returns-clause-line : goal.returns-clause-line
unfolding range_line
returns-clause-line c = search rules
