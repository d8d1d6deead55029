-- partial_in: the three numbers, one after the other.
use Rattle.std.proofs.Common.{rules}
use Rattle.std.proofs.Common.{◌≡◌, ℕ, List, [], ◌++◌, codes, decimal, arith, refl, sym, ap, ◌∙◌, append-nil, append_assoc}
use Rattle.flute_store.specs.declared.status.Status.TheVariants.{Partial}
use Rattle.flutejoin.specs.Lines.{status_words}
use Rattle.flutejoin.proofs.fill.reading_lines.partial_in.Goals as goal
use Rattle.flutejoin.proofs.fill.reading_lines.partial_in.Goals.{else-missing-via-then-missing+then-conflicting+else-misfit}
use Rattle.flutejoin.proofs.fill.reading_lines.partial_in.Goals.{else-missing-via-then-missing+else-conflicting}
use Rattle.flutejoin.proofs.fill.reading_lines.partial_in.Goals.{else-missing-via-else-missing}

six : (b c d e f g : List ℕ) → b ++ c ++ d ++ e ++ f ++ g ≡ b ++ (c ++ (d ++ (e ++ (f ++ g))))
six b c d e f g = simp append_assoc refl

abbrev from_misfit : ℕ → List ℕ
from_misfit f = codes " misfit " ++ decimal f

abbrev from_conflicting : ℕ → ℕ → List ℕ
from_conflicting d f = codes " conflicting " ++ (decimal d ++ from_misfit f)

partial_chain : (m d f : ℕ) → codes " " ++ status_words (Partial m d f)
    ≡ codes " partial missing " ++ (decimal m ++ from_conflicting d f)
partial_chain m d f =
    ap (λ x. codes " " ++ x)
    (six (codes "partial missing ") (decimal m) (codes " conflicting ") (decimal d)
    (codes " misfit ") (decimal f))

with_nil : (f : ℕ) → from_misfit f ≡ codes " misfit " ++ (decimal f ++ [])
with_nil f = ap (λ x. codes " misfit " ++ x) (sym (append-nil (decimal f)))

module _ (m d f : ℕ) where
  same_counts : (a b e : ℕ) → a ≡ m → b ≡ d → e ≡ f → Partial a b e ≡ Partial m d f
  same_counts a b e x y z = search rules

pub returns-in_default-clause-finds : goal.returns-in_default-clause-finds
returns-in_default-clause-finds c = λ m d f h is.
    c.in_default.ensures.finds m (from_conflicting d f) (omega (arith, h.0)) refl
    (is ∙ partial_chain m d f)

pub returns-in_default-number_after-clause-finds : goal.returns-in_default-number_after-clause-finds
returns-in_default-number_after-clause-finds c = λ m d f h is.
    let a = c.in-Some.ensures.finds m (from_conflicting d f) (omega (arith, h.0)) refl (is ∙ partial_chain m d f) in
    c.in_default-number_after.ensures.finds d (from_misfit f) (omega (arith, h.1)) refl a.1

pub returns-in_default-number_after-2-clause-finds : goal.returns-in_default-number_after-2-clause-finds
returns-in_default-number_after-2-clause-finds c = λ m d f h is.
    let a = c.in-Some.ensures.finds m (from_conflicting d f) (omega (arith, h.0)) refl (is ∙ partial_chain m d f) in
    let b = c.in-Some-number_after.ensures.finds d (from_misfit f) (omega (arith, h.1)) refl a.1 in
    c.in_default-number_after-2.ensures.finds f [] (omega (arith, h.2)) refl
    (b.1 ∙ with_nil f)

pub returns-then-misfit-clause-finds : goal.returns-then-misfit-clause-finds
returns-then-misfit-clause-finds c = λ m d f h is.
    let a = c.in-Some.ensures.finds m (from_conflicting d f) (omega (arith, h.0)) refl (is ∙ partial_chain m d f) in
    let b = c.in-Some-number_after.ensures.finds d (from_misfit f) (omega (arith, h.1)) refl a.1 in
    let e = c.in-Some-number_after-2.ensures.finds f [] (omega (arith, h.2)) refl
    (b.1 ∙ with_nil f) in
    same_counts m d f _ _ _ a.0 b.0 e.0

pub returns-else-missing-clause-finds : goal.returns-else-missing-clause-finds
returns-else-missing-clause-finds c = λ m d f h is.
    let a = c.in-Some.ensures.finds m (from_conflicting d f) (omega (arith, h.0)) refl (is ∙ partial_chain m d f) in
    let b = c.in-Some-number_after.ensures.finds d (from_misfit f) (omega (arith, h.1)) refl a.1 in
    let e = c.in-Some-number_after-2.ensures.finds f [] (omega (arith, h.2)) refl
    (b.1 ∙ with_nil f) in
    elim c.else-missing.branch [
      | else-missing-via-then-missing+then-conflicting+else-misfit w ↦ omega
          (arith, e.0, h.2, w.if-misfit.false)
      | else-missing-via-then-missing+else-conflicting w ↦ omega
          (arith, b.0, h.1, w.if-conflicting.false)
      | else-missing-via-else-missing w ↦ omega (arith, a.0, h.0, w.if-missing.false)
    ]
