-- The value at a key of a join of maps, and how many keys it has.
use Rattle.std.proofs.lemmas.Grind.{common_steps}
use Rattle.std.proofs.Common.{rules}
use Rattle.std.proofs.Common.{◌≡◌, ◌≤◌, List, [], ◌∷◌, length, Bool, true, false}
use Rattle.std.proofs.Common.{Option, Some, None, refl, sym, ap, ◌∙◌, arith}
use Rattle.std.specs.declared.cmp.Ordering.{Ordering}
use Rattle.std.specs.declared.cmp.Ordering.TheVariants.{Less, Equal, Greater}
use Rattle.std.specs.Ordering.{ordering_reverse, is_eq}
use Rattle.std.specs.Cmp.{IsTotalOrder, Equal-is, eq_by_cmp_equiv}
use Rattle.std.proofs.lemmas.Cmp.{alike_right}
use Rattle.std.specs.Map.{keys_of}
use Rattle.std.specs.BTreeMap.{is_at}
use Rattle.std.proofs.lemmas.Map.{lookup-none}
use Rattle.std.proofs.lemmas.Map.Entries.{none_below_head, none_past_head}
use Rattle.std.proofs.lemmas.Map.Keys.{sorted_tail, IsDistinct-from_sorted}
use Rattle.flute_join.specs.MapLaws.{first_less, first_equal, first_greater, join_nothing}
use Rattle.flute_join.specs.MapLaws.{nothing_join}
use Rattle.flute_join.specs.JoinMap.{map_join, join_values, value_at, IsOrdered}

module _ {K X : Type 0} {cmp : K → K → Ordering} (order : IsTotalOrder cmp) where
  -- the entries after the first have no value at its key
  pub absent_past : (p : K × X) (rest : List (K × X)) (q : K) → IsOrdered cmp (p ∷ rest)
      → is_at (cmp q) p.0 ≡ true → value_at cmp rest q ≡ None
  absent_past p rest q s t = lookup-none _ _ (none_past_head
      (eq_by_cmp_equiv order) q p _ (IsDistinct-from_sorted cmp _ s) t)

module _ {K X : Type 0} (cmp : K → K → Ordering) (join : X → X → X) where
  -- at this key the join of two maps has the values of both, joined
  record IsJoinedAt (q : K) (es fs : List (K × X)) : Type 0 where
    is : value_at cmp (map_join cmp join es fs) q
        ≡ join_values join (value_at cmp es q) (value_at cmp fs q)

module _ {K X : Type 0} {cmp : K → K → Ordering} (order : IsTotalOrder cmp) (join : X → X → X) where
  absent_below : (q : K) (e f : K × X) (fs : List (K × X)) → cmp q e.0 ≡ Equal
      → cmp e.0 f.0 ≡ Less → IsOrdered cmp (f ∷ fs) → value_at cmp (f ∷ fs) q ≡ None
  absent_below q e f fs p l s = lookup-none _ (f ∷ fs)
      (none_below_head order q f fs s (order.congr q e.0 f.0 p ∙ l))

  pub join_values_none : (o : Option X) → join_values join o None ≡ o
  join_values_none x0 = search rules

  -- by the test of the first keys
  at_less : {q : K} (e : K × X) {f : K × X} {es fs : List (K × X)} (b : Bool) → is_at (cmp q) e.0 ≡
      b → cmp e.0 f.0 ≡ Less → IsOrdered cmp (f ∷ fs) → IsJoinedAt cmp join q es (f ∷ fs) → value_at
      cmp (e ∷ map_join cmp join es (f ∷ fs)) q ≡ join_values join (value_at cmp (e ∷ es) q)
      (value_at cmp (f ∷ fs) q)
  at_less {q = q} e {f = f} {fs = fs} true t l s ih = rw t (sym
      (ap (join_values join (Some e.1)) (absent_below q e f fs ((Equal-is _).0 t) l s)))
  at_less e false t l s ih = rw t ih.is

  at_equal : {q : K} (e f : K × X) {es fs : List (K × X)} (b : Bool) → is_at (cmp q) e.0 ≡ b
      → cmp e.0 f.0 ≡ Equal → IsJoinedAt cmp join q es fs
      → value_at cmp ((e.0, join e.1 f.1) ∷ map_join cmp join es fs) q
      ≡ join_values join (value_at cmp (e ∷ es) q) (value_at cmp (f ∷ fs) q)
  at_equal {q = q} e f true t l ih =
      let u = ap is_eq (sym (alike_right order e.0 f.0 q l)) ∙ t in
      rw (t, u) refl
  at_equal {q = q} e f false t l ih =
      let u = ap is_eq (sym (alike_right order e.0 f.0 q l)) ∙ t in
      rw (t, u) ih.is

  at_greater : {q : K} {e : K × X} (f : K × X) {es fs : List (K × X)} (b : Bool) → is_at (cmp q) f.0
      ≡ b → cmp f.0 e.0 ≡ Less → IsOrdered cmp (e ∷ es) → IsJoinedAt cmp join q (e ∷ es) fs →
      value_at cmp (f ∷ map_join cmp join (e ∷ es) fs) q ≡ join_values join
      (value_at cmp (e ∷ es) q) (value_at cmp (f ∷ fs) q)
  at_greater {q = q} {e = e} f {es = es} true t l s ih = rw t
      (sym (ap (λ o. join_values join o (Some f.1)) (absent_below q f e es ((Equal-is _).0 t) l s)))
  at_greater f false t l s ih = rw t ih.is

  -- by which key is first
  at_first : {q : K} {e f : K × X} {es fs : List (K × X)} (r : Ordering) → cmp e.0 f.0 ≡ r →
      IsOrdered cmp (e ∷ es) → IsOrdered cmp (f ∷ fs) → IsJoinedAt cmp join q es (f ∷ fs) →
      IsJoinedAt cmp join q es fs → IsJoinedAt cmp join q (e ∷ es) fs → IsJoinedAt cmp join q
      (e ∷ es) (f ∷ fs)
  at_first {q = q} {e = e} {f = f} {es = es} {fs = fs} Less l s t a b c = record {
    is = ap (λ m. value_at cmp m q) (first_less cmp _ e f es fs l) ∙ at_less e _ refl l t a;
  }
  at_first {q = q} {e = e} {f = f} {es = es} {fs = fs} Equal l s t a b c = record {
    is = ap (λ m. value_at cmp m q) (first_equal cmp _ e f es fs l) ∙ at_equal e f _ refl l b;
  }
  at_first {q = q} {e = e} {f = f} {es = es} {fs = fs} Greater l s t a b c =
      let u = order.antisymm f.0 e.0 ∙ ap ordering_reverse l in
      record {
        is = ap (λ m. value_at cmp m q) (first_greater cmp _ e f es fs l)
            ∙ at_greater f _ refl u s c;
      }

  values_past : (q : K) (e : K × X) (es : List (K × X)) → IsOrdered cmp (e ∷ es)
      → ((fs : List (K × X)) → IsOrdered cmp fs → IsJoinedAt cmp join q es fs)
      → (fs : List (K × X)) → IsOrdered cmp fs → IsJoinedAt cmp join q (e ∷ es) fs
  values_past q e es s ih [] t = record {
    is = ap (λ m. value_at cmp m q) (join_nothing cmp _ _) ∙ sym (join_values_none _);
  }
  values_past q e es s ih (f ∷ fs) t =
      let u = sorted_tail cmp f.0 _ t in
      at_first _ refl s t (ih _ t) (ih fs u) (values_past q e es s ih fs u)

  joined_at : (es fs : List (K × X)) (q : K) → IsOrdered cmp es → IsOrdered cmp fs
      → IsJoinedAt cmp join q es fs
  joined_at [] fs q s t = record { is = ap (λ m. value_at cmp m q) (nothing_join cmp _ fs) }
  joined_at (e ∷ es) fs q s t = values_past q e es s
      (λ gs u. joined_at es gs q (sorted_tail cmp e.0 _ s) u) fs t

  -- at each key the join has the values of the two, joined
  pub value_at-map_join : (es fs : List (K × X)) (q : K) → IsOrdered cmp es → IsOrdered cmp fs
      → value_at cmp (map_join cmp join es fs) q
      ≡ join_values join (value_at cmp es q) (value_at cmp fs q)
  value_at-map_join es fs q s t = (joined_at es fs q s t).is

  -- ---- a join has no fewer keys
  length_at : (e f : K × X) (es fs : List (K × X)) {r : Ordering} → cmp e.0 f.0 ≡ r → length es ≤
      length (map_join cmp join es (f ∷ fs)) → length es ≤ length (map_join cmp join es fs) → length
      (e ∷ es) ≤ length (map_join cmp join (e ∷ es) fs) → length (e ∷ es) ≤ length
      (map_join cmp join (e ∷ es) (f ∷ fs))
  length_at e f es fs {r = Less} l a b c =
      omega (arith, ap length (first_less cmp join e f es fs l), a)
  length_at e f es fs {r = Equal} l a b c =
      omega (arith, ap length (first_equal cmp join e f es fs l), b)
  length_at e f es fs {r = Greater} l a b c =
      omega (arith, ap length (first_greater cmp join e f es fs l), c)

  length_past : (e : K × X) (es : List (K × X))
      → ((fs : List (K × X)) → length es ≤ length (map_join cmp join es fs))
      → (fs : List (K × X)) → length (e ∷ es) ≤ length (map_join cmp join (e ∷ es) fs)
  length_past e es ih [] = omega (arith, ap length (join_nothing cmp join (e ∷ es)))
  length_past e es ih (f ∷ fs) = length_at e f es fs refl (ih _) (ih fs) (length_past e es ih fs)

  pub length-le-map_join : (es fs : List (K × X)) → length es ≤ length (map_join cmp join es fs)
  length-le-map_join [] fs = omega arith
  length-le-map_join (e ∷ es) fs = length_past e es (length-le-map_join es) fs
