use Rattle.std.proofs.Common.{◌≡◌, ◌++◌, ℕ, List, append_assoc, refl}
use Rattle.std.specs.Prelude.{codes}
use Rattle.flutejoin.specs.Json.{json_line}
use Rattle.flutejoin.specs.Lines.{line}
use Rattle.flutejoin.specs.Ranges.{range_line}
use Rattle.flutejoin.proofs.gaps.byte_range.json_range_text.Goals as goal

members : (a b : List ℕ)
    → line ((((codes "{\"first\":" ++ a) ++ codes ",\"last\":") ++ b) ++ codes "}")
    ≡ json_line (codes "\"first\":" ++ a ++ codes ",\"last\":" ++ b)
members a b = simp append_assoc refl

pub returns-clause-line : goal.returns-clause-line
unfolding range_line
returns-clause-line c = rw (
  c.push-3.ensures.text,
  c.push_number-2.ensures.text,
  c.push-2.ensures.text,
  c.push_number.ensures.text,
  c.push.ensures.text,
  c.new-text.ensures,
  c.saturating_sub.ensures,
) (members _ _)
