-- object_text: the line of an object in either form (specs/Styles).
use Rattle.std.proofs.Common.{rules}
use Rattle.flutejoin.specs.Styles.{object_line_in}
use Rattle.flutejoin.proofs.gaps.held_lines.object_text.Goals as goal

pub returns-in-Plain-clause-line : goal.returns-in-Plain-clause-line
returns-in-Plain-clause-line c = search rules

pub returns-in-Json-clause-line : goal.returns-in-Json-clause-line
unfolding object_line_in
returns-in-Json-clause-line c = search rules
