-- A walk over the entries of a map, each joined into another map in turn.
use Rattle.std.proofs.lemmas.Grind.{common_steps}
use Rattle.std.proofs.Common.{rules}
use Rattle.std.proofs.Common.{◌≡◌, ℕ, ◌≤◌, List, [], ◌∷◌, ◌++◌, length}
use Rattle.std.proofs.Common.{Bool, true, false, cond, Some, None, refl, sym, ap, ◌∙◌, arith}
use Rattle.std.proofs.Common.{inl, inr}
use Rattle.std.specs.declared.cmp.Ordering.{Ordering}
use Rattle.std.specs.declared.cmp.Ordering.TheVariants.{Equal}
use Rattle.std.specs.Cmp.{IsTotalOrder}
use Rattle.std.specs.BTreeMap.{is_at}
use Rattle.std.specs.List.Sorted.{IsStrictlySortedBy}
use Rattle.std.proofs.lemmas.Option.{none-some}
use Rattle.flute_join.specs.Semilattice.{IsJoin}
use Rattle.flute_join.specs.JoinMap.{map_join, join_values, value_at, IsOrdered, MapOver}
use Rattle.flute_join.specs.MapLaws.{first_less, join_nothing, nothing_join, map_join_laws}
use Rattle.flute_join.proofs.Single.{single_new}
use Rattle.flute_join.proofs.Copied.{absent_before, insert_last, ordered_before}
use Rattle.flute_join.proofs.Values.{join_values_none, value_at-map_join, length-le-map_join}
use Rattle.flute_join.proofs.Values.{absent_past}

module _ {K X : Type 0} {cmp : K → K → Ordering} (order : IsTotalOrder cmp)
    (same : (x y : K) → cmp x y ≡ Equal → x ≡ y) {join : X → X → X}
    (laws : IsJoin join) where
  -- the first entry and the others
  pub ordered_one : (p : K × X) → IsOrdered cmp (p ∷ [])
  unfolding IsStrictlySortedBy
  ordered_one p = (tt, tt)

  cons_is_join : (p : K × X) (rest : List (K × X)) → IsOrdered cmp (p ∷ rest)
      → map_join cmp join (p ∷ []) rest ≡ p ∷ rest
  unfolding IsStrictlySortedBy
  cons_is_join p [] s = join_nothing cmp _ _
  cons_is_join p (f ∷ fs) s =
      first_less cmp _ p f [] fs s.0.0 ∙ ap (λ l. p ∷ l) (nothing_join cmp _ _)

  pub join_step : (es : List (K × X)) (p : K × X) (rest : List (K × X)) → IsOrdered cmp (p ∷ rest) →
      map_join cmp join es (p ∷ rest) ≡ map_join cmp join (map_join cmp join es (p ∷ [])) rest
  join_step es p rest s = ap (map_join cmp _ es) (sym (cons_is_join p _ s)) ∙ sym
      ((map_join_laws order same laws).associative es (p ∷ []) rest)

  -- one entry more
  pub join_more : (es before : List (K × X)) (p : K × X) (rest : List (K × X)) → IsOrdered cmp
      (before ++ p ∷ rest) → map_join cmp join (map_join cmp join es before) (p ∷ []) ≡ map_join cmp
      join es (before ++ p ∷ [])
  join_more es before p rest s = (map_join_laws order same laws).associative es before (p ∷ []) ∙ ap
      (map_join cmp _ es) (single_new order laws _ p.0 p.1
      (absent_before order _ p _ s) ∙ insert_last order _ p _ s)

  -- ---- the value at a key
  -- the entries before an entry say nothing at its key
  pub value_past : (es before : List (K × X)) (p : K × X) (rest : List (K × X))
      → IsOrdered cmp es → IsOrdered cmp (before ++ p ∷ rest)
      → value_at cmp (map_join cmp join es before) p.0 ≡ value_at cmp es p.0
  value_past es before p rest s u = search
      (rules, value_at-map_join, ordered_before, value_at, absent_before, join_values_none)

  module _ (limit : ℕ) (over : X → X → Type 0) where
    first_value : (p : K × X) (rest : List (K × X)) (q : K) (w : X) (b : Bool) → is_at (cmp q) p.0 ≡
        b → cond b (Some p.1) None ≡ Some w → value_at cmp (p ∷ rest) q ≡ Some w
    first_value x0 x1 x2 x3 x4 x5 x6 = search rules

    -- what forbids the first join forbids the whole
    pub over_first : (es : List (K × X)) (p : K × X) (rest : List (K × X))
        → IsOrdered cmp (p ∷ rest) → MapOver cmp join limit over es (p ∷ [])
        → MapOver cmp join limit over es (p ∷ rest)
    over_first x0 x1 x2 x3 x4 = search (rules, join_step, length-le-map_join, first_value, is_at)

    value_elsewhere : (es : List (K × X)) (p : K × X) (q : K) → IsOrdered cmp es → is_at (cmp q) p.0
        ≡ false → value_at cmp (map_join cmp join es (p ∷ [])) q ≡ value_at cmp es q
    value_elsewhere es p q s t = search
        (rules, value_at-map_join, ordered_one, join_values_none, value_at)

    -- the limits forbid the join of the values of both maps at this key
    abbrev OverAt : List (K × X) → List (K × X) → K → Type 0
    OverAt es fs q = (v : X) × (w : X) × (value_at cmp es q ≡ Some v) × (value_at cmp fs q ≡ Some w)
        × over v w

    -- what forbids the join of the others forbids the whole
    over_rest_at : (es : List (K × X)) (p : K × X) (rest : List (K × X)) (q : K) {b : Bool} → is_at
        (cmp q) p.0 ≡ b → IsOrdered cmp es → IsOrdered cmp (p ∷ rest) → OverAt
        (map_join cmp join es (p ∷ [])) rest q → MapOver cmp join limit over es (p ∷ rest)
    over_rest_at es p rest q {b = true} t s u (v, w, l, r, o) =
        absurd (none-some w (sym (absent_past order p _ q u t) ∙ r))
    over_rest_at es p rest q {b = false} t s u (v, w, l, r, o) =
        inr (q, v, w, sym (value_elsewhere es p q s t) ∙ l, rw t r, o)

    pub over_rest : (es : List (K × X)) (p : K × X) (rest : List (K × X)) → IsOrdered cmp es →
        IsOrdered cmp (p ∷ rest) → MapOver cmp join limit over (map_join cmp join es (p ∷ [])) rest
        → MapOver cmp join limit over es (p ∷ rest)
    over_rest es p rest s u (inl long) = let e =
        ap length (join_step es p _ u) in inl (omega (arith, e))
    over_rest es p rest s u (inr (q, v, w, l, r, o)) =
        over_rest_at es p _ q refl s u (v, w, l, r, o)

    -- where nothing forbids the first join, what forbids the whole forbids the join of the others
    over_later_at : (es : List (K × X)) (p : K × X) (rest : List (K × X)) (q : K) {b : Bool} → is_at
        (cmp q) p.0 ≡ b → IsOrdered cmp es → ¬ MapOver cmp join limit over es (p ∷ []) → OverAt es
        (p ∷ rest) q → MapOver cmp join limit over (map_join cmp join es (p ∷ [])) rest
    over_later_at es p rest q {b = true} t s free (v, w, l, r, o) =
        absurd (free (inr (q, v, w, l, rw t (rw t at r), o)))
    over_later_at es p rest q {b = false} t s free (v, w, l, r, o) =
        inr (q, v, w, value_elsewhere es p q s t ∙ l, rw t at r, o)

    pub over_later : (es : List (K × X)) (p : K × X) (rest : List (K × X)) → IsOrdered cmp es →
        IsOrdered cmp (p ∷ rest) → ¬ MapOver cmp join limit over es (p ∷ []) → MapOver cmp join
        limit over es (p ∷ rest) → MapOver cmp join limit over (map_join cmp join es (p ∷ [])) rest
    over_later x0 x1 x2 x3 x4 x5 x6 = search (rules, join_step, over_later_at)

    -- a join with nothing
    pub not_over_nothing : (es : List (K × X)) → length es ≤ limit
        → ¬ MapOver cmp join limit over es []
    not_over_nothing es within (inl long) = let e =
        ap length (join_nothing cmp join es) in omega (arith, e)
    not_over_nothing es within (inr (q, v, w, l, r, o)) = none-some w r
