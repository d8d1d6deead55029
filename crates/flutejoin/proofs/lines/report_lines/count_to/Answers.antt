-- count_to: the line that was written, or the part of it after a failed write.
use Rattle.std.proofs.Common.{rules}
use Rattle.std.proofs.Common.{◌++◌, codes, decimal, refl}
use Rattle.flutejoin.specs.Lines.{count_line}
use Rattle.flutejoin.proofs.lines_lemmas.Written.{line_written}
use Rattle.flutejoin.proofs.lines.report_lines.count_to.Goals as goal

pub returns-in-Ok-clause-printed : goal.returns-in-Ok-clause-printed
unfolding count_line
returns-in-Ok-clause-printed g c = search rules

pub returns-in-Err-clause-failed : goal.returns-in-Err-clause-failed
unfolding count_line
returns-in-Err-clause-failed g c = search rules
