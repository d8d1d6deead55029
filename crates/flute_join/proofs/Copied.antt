-- The entries of a map, taken one after the other.
use Rattle.std.proofs.Common.{arith}
use Rattle.std.proofs.lemmas.Grind.{common_steps}
use Rattle.std.proofs.Common.{rules}
use Rattle.std.proofs.Common.{◌≡◌, List, [], ◌∷◌, ◌++◌, Some, None, refl, ap, ◌∙◌}
use Rattle.std.specs.declared.cmp.Ordering.{Ordering}
use Rattle.std.specs.declared.cmp.Ordering.TheVariants.{Less, Greater}
use Rattle.std.specs.Ordering.{ordering_reverse}
use Rattle.std.specs.Cmp.{IsTotalOrder}
use Rattle.std.proofs.lemmas.Cmp.{tied_itself}
use Rattle.std.specs.Map.{keys_of}
use Rattle.std.specs.BTreeMap.{insert_entry}
use Rattle.std.specs.List.{AllByRecursion}
use Rattle.std.specs.List.Sorted.{IsStrictlySortedBy}
use Rattle.std.proofs.lemmas.Map.Keys.{sorted_tail}
use Rattle.flute_join.specs.JoinMap.{value_at, IsOrdered}

holds_there : {K X : Type 0} (P : K → Type 0) (es : List (K × X)) (p : K × X)
    (rest : List (K × X)) → AllByRecursion P (keys_of (es ++ p ∷ rest)) → P p.0
holds_there P [] p rest h = h.0
holds_there P (e ∷ es) p rest h = holds_there P es p _ h.1

all_before : {K X : Type 0} (P : K → Type 0) (es fs : List (K × X))
    → AllByRecursion P (keys_of (es ++ fs)) → AllByRecursion P (keys_of es)
all_before P [] fs h = tt
all_before P (e ∷ es) fs h = (h.0, all_before P es fs h.1)

module _ {K X : Type 0} {cmp : K → K → Ordering} (order : IsTotalOrder cmp) where
  -- the first entries are in order
  pub ordered_before : (es fs : List (K × X)) → IsOrdered cmp (es ++ fs) → IsOrdered cmp es
  unfolding IsStrictlySortedBy
  ordered_before [] fs s = tt
  ordered_before (e ∷ es) fs s = (all_before _ es fs s.0, ordered_before es fs s.1)

  -- each key before another is below it
  first_below : (e p : K × X) (es rest : List (K × X))
      → IsOrdered cmp (e ∷ (es ++ p ∷ rest)) → cmp e.0 p.0 ≡ Less
  unfolding IsStrictlySortedBy
  first_below e p es rest s = search (rules, holds_there)

  -- a key that comes after those of es is not among them, and goes to the end
  pub absent_before : (es : List (K × X)) (p : K × X) (rest : List (K × X))
      → IsOrdered cmp (es ++ p ∷ rest) → value_at cmp es p.0 ≡ None
  absent_before [] p rest s = refl
  absent_before (e ∷ es) p rest s =
      let below = order.antisymm p.0 e.0 ∙ ap ordering_reverse (first_below e p es _ s) in
      rw below (absent_before es p _ (sorted_tail cmp e.0 _ s))

  pub insert_last : (es : List (K × X)) (p : K × X) (rest : List (K × X))
      → IsOrdered cmp (es ++ p ∷ rest) → insert_entry cmp es p.0 p.1 ≡ es ++ p ∷ []
  insert_last [] p rest s = refl
  insert_last (e ∷ es) p rest s =
      let below = order.antisymm p.0 e.0 ∙ ap ordering_reverse (first_below e p es _ s) in
      rw below (ap (λ l. e ∷ l) (insert_last es p _ (sorted_tail cmp e.0 _ s)))

  -- the value at the key of an entry
  pub value_there : (es : List (K × X)) (p : K × X) (rest : List (K × X))
      → IsOrdered cmp (es ++ p ∷ rest) → value_at cmp (es ++ p ∷ rest) p.0 ≡ Some p.1
  value_there [] p rest s = rw (tied_itself order p.0) refl
  value_there (e ∷ es) p rest s =
      let below = order.antisymm p.0 e.0 ∙ ap ordering_reverse (first_below e p es _ s) in
      rw below (value_there es p _ (sorted_tail cmp e.0 _ s))
