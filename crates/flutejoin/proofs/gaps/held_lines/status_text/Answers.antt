-- status_text: the words for each kind of status (specs/Lines).
use Rattle.std.proofs.Common.{arith}
use Rattle.std.proofs.lemmas.Grind.{common_steps}
use Rattle.std.proofs.Common.{rules}
use Rattle.std.proofs.Common.{append_assoc, refl}
use Rattle.flutejoin.specs.Lines.{status_line}
use Rattle.flutejoin.proofs.gaps.held_lines.status_text.Goals as goal

pub returns-in-NoInformation-clause-line : goal.returns-in-NoInformation-clause-line
unfolding status_line
returns-in-NoInformation-clause-line c = rw (
  c.in-NoInformation.is,
  c.push-in-NoInformation.ensures.text,
  c.push.ensures.text,
  c.push_key.ensures.text,
  c.new-text.ensures,
) refl

pub returns-in-ConflictingInformation-clause-line :
    goal.returns-in-ConflictingInformation-clause-line
unfolding status_line
returns-in-ConflictingInformation-clause-line c = rw (
  c.in-ConflictingInformation.is,
  c.push-in-ConflictingInformation.ensures.text,
  c.push.ensures.text,
  c.push_key.ensures.text,
  c.new-text.ensures,
) refl

pub returns-in-Whole-clause-line : goal.returns-in-Whole-clause-line
unfolding status_line
returns-in-Whole-clause-line c = grind (arith, common_steps)

pub returns-in-Partial-clause-line : goal.returns-in-Partial-clause-line
unfolding status_line
returns-in-Partial-clause-line c =
    rw (
      c.in-Partial.is,
      c.push_number-in-Partial-3.ensures.text,
      c.push-in-Partial-3.ensures.text,
      c.push_number-in-Partial-2.ensures.text,
      c.push-in-Partial-2.ensures.text,
      c.push_number-in-Partial.ensures.text,
      c.push-in-Partial.ensures.text,
      c.push.ensures.text,
      c.push_key.ensures.text,
      c.new-text.ensures,
    ) (simp append_assoc refl)
