use Rattle.std.proofs.Common.{rules}
use Rattle.flutejoin.specs.Lines.{count_line}
use Rattle.flutejoin.proofs.lines.report.Report.push_count.Goals as goal

pub returns-clause-text : goal.returns-clause-text
unfolding count_line
returns-clause-text c = search rules
