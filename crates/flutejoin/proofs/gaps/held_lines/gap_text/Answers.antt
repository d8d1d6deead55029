use Rattle.std.proofs.Common.{rules}
use Rattle.std.proofs.Common.{refl}
use Rattle.flutejoin.specs.Lines.{gap_line}
use Rattle.flutejoin.proofs.gaps.held_lines.gap_text.Goals as goal

pub returns-in-Missing-clause-line : goal.returns-in-Missing-clause-line
unfolding gap_line
returns-in-Missing-clause-line c = search rules

pub returns-in-Conflicting-clause-line : goal.returns-in-Conflicting-clause-line
unfolding gap_line
returns-in-Conflicting-clause-line c = search rules

pub returns-in-Misfit-clause-line : goal.returns-in-Misfit-clause-line
unfolding gap_line
returns-in-Misfit-clause-line c = search rules
