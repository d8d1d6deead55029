-- Partition::fits: which lengths fit a symbol (specs/SymbolBytes).
use Rattle.std.proofs.Common.{rules}
use Rattle.std.proofs.Common.{◌≡◌, ℕ, ◌+◌, ◌-◌, ◌||◌, ◌&&◌, Bool, true}
use Rattle.std.proofs.Common.{false, List, length, Option, Some, None, refl, ap, ◌∙◌}
use Rattle.std.proofs.Common.{inl, inr, ◌⊎◌, arith}
use Rattle.std.specs.Prelude.{slice_get, ◌==◌, ◌↔◌, Contains}
use Rattle.std.proofs.lemmas.Bool.Decides.{nat_tests}
use Rattle.std.proofs.lemmas.Option.{slice_get_within, slice_get-get_or, get_or_from_slice_get}
use Rattle.std.proofs.lemmas.Bool.{false≢true, eq-eqb, or_cases}
use Rattle.flute_parts.specs.Equality.{both}
use Rattle.flute_parts.specs.declared.symbol_id.SymbolId.{SymbolId}
use Rattle.flute_parts.specs.Information.{Information, symbol_count, IsValid}
use Rattle.flute_parts.specs.Partition.{ids, place, last_length, fits_at, fits}
use Rattle.flute_parts.proofs.Split.{places-inverse, ids_counted}

module _ (i : Information) (id : SymbolId) (n : ℕ) where
  pub fits-none : place i id ≡ None → fits i id n ≡ false
  unfolding fits
  fits-none e = ap (λ p. fits_at i p n) e

  pub fits-full : (k : ℕ) → place i id ≡ Some k → n ≡ i.symbol_length
      → fits i id n ≡ (n == i.symbol_length)
  unfolding fits
  fits-full k e h = search rules

  pub fits-last : (k : ℕ) → place i id ≡ Some k → (n ≡ i.symbol_length → ⊥)
      → k + 1 ≡ symbol_count i → fits i id n ≡ (n == last_length i)
  unfolding fits
  fits-last k e h l = search rules

  pub fits-other : (k : ℕ) → place i id ≡ Some k → (n ≡ i.symbol_length → ⊥)
      → (k + 1 ≡ symbol_count i → ⊥) → fits i id n ≡ (k + 1 == symbol_count i)
  unfolding fits
  fits-other k e h l = search rules

-- and in words

fits-some : (info : Information) (id : SymbolId) (n k : ℕ) → place info id ≡ Some k
    → fits info id n ≡ fits_at info (Some k) n
unfolding fits
fits-some info id n k e = search rules

Contains-at : (xs : List SymbolId) (x : SymbolId) (k : ℕ) → slice_get xs k ≡ Some x → Contains xs x
Contains-at xs x k e = (k, slice_get_within xs k x e, get_or_from_slice_get xs k x x e)

Fits : Information → SymbolId → ℕ → Type 0
Fits info id n = Contains (ids info) id × ((n ≡ info.symbol_length) ⊎
    ((slice_get (ids info) (length (ids info) - 1) ≡ Some id) × (n ≡ last_length info)))

fits-from : (info : Information) (id : SymbolId) (n : ℕ) → IsValid info → (o : Option ℕ)
    → place info id ≡ o → fits_at info o n ≡ true → Fits info id n
unfolding Fits
fits-from info id n v None e h = absurd (false≢true h)
fits-from info id n v (Some k) e h =
    let at_k = (places-inverse info id k).0 e in
    let c = Contains-at (ids info) id k at_k in
    elim (or_cases (n == info.symbol_length)
    ((k + 1 == symbol_count info) && (n == last_length info)) h) [
      | inl f ↦ (c, inl (is_equal n _ f))
      | inr g ↦
          let p = both _ _ g in
          let t = is_equal (k + 1) _ p.0 in
          let l = ids_counted info v in
          let z : length (ids info) - 1 ≡ k = omega arith in
          (c, inr (ap (slice_get (ids info)) z ∙ at_k, is_equal n (last_length info) p.1))
    ]
  where
    is_equal : (m n : ℕ) → (m == n) ≡ true → m ≡ n
    is_equal m n t = grind (arith, nat_tests)

fits-to : (info : Information) (id : SymbolId) (n : ℕ) → IsValid info → Fits info id n
    → fits info id n ≡ true
unfolding Fits
fits-to info id n v (c, inl f) =
    let e = slice_get-get_or _ c.0 id c.1 ∙ ap Some c.2 in
    fits-some _ id n c.0 ((places-inverse _ id c.0).1 e) ∙ ap
    (λ b. b || ((c.0 + 1 == symbol_count info) && (n == last_length info))) (eq-eqb n _ f)
fits-to info id n v (c, inr l) =
    let k = length _ - 1 in
    let t = ids_counted _ v in
    let last : k + 1 ≡ symbol_count info = omega arith in
    fits-some _ id n k ((places-inverse _ id k).1 l.0)
    ∙ ap (λ b. (n == info.symbol_length) || (b && (n == last_length info)))
    (eq-eqb _ _ last)
    ∙ ap (λ b. (n == info.symbol_length) || b) (eq-eqb n _ l.1)
    ∙ or_true _
  where
    or_true : (b : Bool) → (b || true) ≡ true
    or_true true = refl
    or_true false = refl

pub fits-means : (info : Information) (id : SymbolId) (n : ℕ) → IsValid info →
    (fits info id n ≡ true) ↔ (Contains (ids info) id × ((n ≡ info.symbol_length) ⊎
    ((slice_get (ids info) (length (ids info) - 1) ≡ Some id) × (n ≡ last_length info))))
unfolding Fits fits
fits-means info id n v = search (rules, fits-from, fits-to)
