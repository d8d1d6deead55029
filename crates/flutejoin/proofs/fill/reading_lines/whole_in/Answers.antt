-- whole_in: the length after its word.
use Rattle.std.proofs.Common.{rules}
use Rattle.std.proofs.Common.{◌≡◌, ℕ, [], ◌++◌, codes, decimal, arith, refl, sym, ap, ◌∙◌, append-nil}
use Rattle.flute_store.specs.declared.status.Status.TheVariants.{Whole}
use Rattle.flutejoin.proofs.fill.reading_lines.whole_in.Goals as goal

with_nil : (n : ℕ) → codes " whole " ++ decimal n ≡ codes " whole " ++ (decimal n ++ [])
with_nil n = ap (λ x. codes " whole " ++ x) (sym (append-nil (decimal n)))

pub returns-in_default-clause-finds : goal.returns-in_default-clause-finds
returns-in_default-clause-finds c = λ n h is. c.in_default.ensures.finds n [] (omega (arith, h)) refl (is ∙ with_nil n)

pub returns-then-length-clause-finds : goal.returns-then-length-clause-finds
returns-then-length-clause-finds c = λ n h is. ap Whole
    (c.in-Some.ensures.finds n [] (omega (arith, h)) refl (is ∙ with_nil n)).0

pub returns-else-length-clause-finds : goal.returns-else-length-clause-finds
returns-else-length-clause-finds c = λ n h is.
    let a = c.in-Some.ensures.finds n [] (omega (arith, h)) refl (is ∙ with_nil n) in
    omega (arith, a.0, h, c.if-length.false)
