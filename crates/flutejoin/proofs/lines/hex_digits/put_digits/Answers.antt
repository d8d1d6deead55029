use Rattle.std.proofs.Common.{arith, ◌≡◌, ◌∙◌, ℕ, List, ap, map, slice_index}
use Rattle.hex.specs.Hex.{lower_digits}
use Rattle.flutejoin.proofs.lines_lemmas.Encoded.{digits-halves, halves-below}
use Rattle.flutejoin.proofs.lines.hex_digits.put_digits.Goals as goal

pub put_digits_of-requires : goal.put_digits_of-requires
put_digits_of-requires c = λ k few. rw c.put_halves.ensures
    (halves-below c.args.bytes.now (λ j. omega (arith, c.type_inv.bytes j)) k)

pub returns : goal.returns
returns c =
    c.put_digits_of.ensures
    ∙ ap (λ (l : List ℕ). map (λ half. slice_index lower_digits half) l) c.put_halves.ensures
    ∙ digits-halves c.args.bytes.now
