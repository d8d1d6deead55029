-- The keys of a join of maps rise; what holds of the values of both maps holds of those of the
-- join. The same of a map that is below another.
use Rattle.std.proofs.Common.{arith}
use Rattle.std.proofs.lemmas.Grind.{common_steps}
use Rattle.std.proofs.Common.{rules}
use Rattle.std.proofs.Common.{◌≡◌, List, [], ◌∷◌, refl, sym, ap, ◌∙◌, subst}
use Rattle.std.specs.declared.cmp.Ordering.{Ordering}
use Rattle.std.specs.declared.cmp.Ordering.TheVariants.{Less, Equal, Greater}
use Rattle.std.specs.Ordering.{ordering_reverse}
use Rattle.std.specs.Cmp.{IsTotalOrder}
use Rattle.std.specs.Map.{keys_of}
use Rattle.std.specs.List.{AllByRecursion}
use Rattle.std.specs.List.Sorted.{IsStrictlySortedBy}
use Rattle.std.proofs.lemmas.Map.Keys.{sorted_tail}
use Rattle.flute_join.specs.JoinMap.{map_join, IsOrdered, EachValue}
use Rattle.flute_join.specs.MapLaws.{first_less, first_equal, first_greater, join_nothing}
use Rattle.flute_join.specs.MapLaws.{nothing_join}

module _ {K X : Type 0} (cmp : K → K → Ordering) (join : X → X → X) where
  -- ---- what holds of the keys and of the values of both holds of those of the join
  module _ (P : K → Type 0) where
    -- it holds of each key of the join
    record EachKey (es fs : List (K × X)) : Type 0 where
      each : AllByRecursion P (keys_of (map_join cmp join es fs))

    keys_first : {e f : K × X} {es fs : List (K × X)} {r : Ordering} → cmp e.0 f.0 ≡ r → P e.0 → P
        f.0 → EachKey es (f ∷ fs) → EachKey es fs → EachKey (e ∷ es) fs → EachKey (e ∷ es) (f ∷ fs)
    keys_first {e = e} {f = f} {es = es} {fs = fs} {r = Less} l p q a b c = record {
      each = rw (first_less cmp join e f es fs l) (p, a.each);
    }
    keys_first {e = e} {f = f} {es = es} {fs = fs} {r = Equal} l p q a b c = record {
      each = rw (first_equal cmp join e f es fs l) (p, b.each);
    }
    keys_first {e = e} {f = f} {es = es} {fs = fs} {r = Greater} l p q a b c = record {
      each = rw (first_greater cmp join e f es fs l) (q, c.each);
    }

    keys_past : (e : K × X) (es : List (K × X)) → P e.0 →
        ((fs : List (K × X)) → AllByRecursion P (keys_of fs) → EachKey es fs) → AllByRecursion P
        (keys_of es) → (fs : List (K × X)) → AllByRecursion P (keys_of fs) → EachKey (e ∷ es) fs
    keys_past e es p ih s [] t = record { each = rw (join_nothing cmp join (e ∷ es)) (p, s) }
    keys_past e es p ih s (f ∷ fs) t =
        keys_first refl p t.0 (ih _ t) (ih fs t.1) (keys_past e es p ih s fs t.1)

    each_key : (es fs : List (K × X)) → AllByRecursion P (keys_of es)
        → AllByRecursion P (keys_of fs) → EachKey es fs
    each_key [] fs s t = record { each = rw (nothing_join cmp join fs) t }
    each_key (e ∷ es) fs s t = keys_past e es s.0 (λ gs u. each_key es gs s.1 u) s.1 fs t

    all_keys : (es fs : List (K × X)) → AllByRecursion P (keys_of es)
        → AllByRecursion P (keys_of fs) → AllByRecursion P (keys_of (map_join cmp join es fs))
    all_keys es fs s t = (each_key es fs s t).each

  module _ (P : X → Type 0) (kept : (v w : X) → P v → P w → P (join v w)) where
    values_first : {e f : K × X} (es fs : List (K × X)) {r : Ordering} → cmp e.0 f.0 ≡ r → P e.1 → P
        f.1 → EachValue P (map_join cmp join es (f ∷ fs)) → EachValue P (map_join cmp join es fs) →
        EachValue P (map_join cmp join (e ∷ es) fs) → EachValue P
        (map_join cmp join (e ∷ es) (f ∷ fs))
    values_first {e = e} {f = f} es fs {r = Less} l p q a b c =
        rw (first_less cmp join e f es fs l) (p, a)
    values_first {e = e} {f = f} es fs {r = Equal} l p q a b c =
        rw (first_equal cmp join e f es fs l) (kept e.1 f.1 p q, b)
    values_first {e = e} {f = f} es fs {r = Greater} l p q a b c =
        rw (first_greater cmp join e f es fs l) (q, c)

    values_past : (e : K × X) (es : List (K × X)) → P e.1 → EachValue P es →
        ((fs : List (K × X)) → EachValue P fs → EachValue P (map_join cmp join es fs)) →
        (fs : List (K × X)) → EachValue P fs → EachValue P (map_join cmp join (e ∷ es) fs)
    values_past e es p s ih [] t = rw (join_nothing cmp join (e ∷ es)) (p, s)
    values_past e es p s ih (f ∷ fs) t = values_first es fs refl p t.0 (ih _ t) (ih fs t.1)
        (values_past e es p s ih fs t.1)

    pub EachValue-map_join : (es fs : List (K × X)) → EachValue P es → EachValue P fs
        → EachValue P (map_join cmp join es fs)
    EachValue-map_join [] fs s t = rw (nothing_join cmp join fs) t
    EachValue-map_join (e ∷ es) fs s t =
        values_past e es s.0 s.1 (λ gs u. EachValue-map_join es gs s.1 u) fs t

module _ {K X : Type 0} {cmp : K → K → Ordering} (order : IsTotalOrder cmp) (join : X → X → X) where
  -- ---- the keys of a join ascend
  all_above : (k h : K) → cmp k h ≡ Less → (ks : List K)
      → AllByRecursion (λ y. cmp h y ≡ Less) ks → AllByRecursion (λ y. cmp k y ≡ Less) ks
  all_above k h l [] a = tt
  all_above k h l (x ∷ xs) a = (order.trans k h x l a.0, all_above k h l xs a.1)

  all_tied : (k h : K) → cmp k h ≡ Equal → (ks : List K)
      → AllByRecursion (λ y. cmp h y ≡ Less) ks → AllByRecursion (λ y. cmp k y ≡ Less) ks
  all_tied k h l [] a = tt
  all_tied k h l (x ∷ xs) a = (order.congr k h x l ∙ a.0, all_tied k h l xs a.1)

  ordered_first : (e f : K × X) (es fs : List (K × X)) {r : Ordering} → cmp e.0 f.0 ≡ r → IsOrdered
      cmp (e ∷ es) → IsOrdered cmp (f ∷ fs) → IsOrdered cmp (map_join cmp join es (f ∷ fs)) ×
      IsOrdered cmp (map_join cmp join es fs) × IsOrdered cmp (map_join cmp join (e ∷ es) fs) →
      IsOrdered cmp (map_join cmp join (e ∷ es) (f ∷ fs))
  unfolding IsStrictlySortedBy
  ordered_first e f es fs {r = Less} l s t (a, b, c) = rw (first_less cmp join e f es fs l)
      (all_keys cmp _ _ es _ s.0 (l, all_above e.0 f.0 l _ t.0), a)
  ordered_first e f es fs {r = Equal} l s t (a, b, c) = rw (first_equal cmp join e f es fs l)
      (all_keys cmp _ _ es fs s.0 (all_tied e.0 f.0 l _ t.0), b)
  ordered_first e f es fs {r = Greater} l s t (a, b, c) =
      let u = order.antisymm f.0 e.0 ∙ ap ordering_reverse l in
      rw (first_greater cmp join e f es fs l)
      (all_keys cmp _ _ _ fs (u, all_above f.0 e.0 u _ s.0) t.0, c)

  ordered_past : (e : K × X) (es : List (K × X)) → IsOrdered cmp (e ∷ es) →
      ((fs : List (K × X)) → IsOrdered cmp fs → IsOrdered cmp (map_join cmp join es fs)) →
      (fs : List (K × X)) → IsOrdered cmp fs → IsOrdered cmp (map_join cmp join (e ∷ es) fs)
  ordered_past e es s ih [] t = rw (join_nothing cmp join (e ∷ es)) s
  ordered_past e es s ih (f ∷ fs) t =
      let u = sorted_tail cmp f.0 _ t in
      ordered_first e f es fs refl s t (ih _ t, ih fs u, ordered_past e es s ih fs u)

  pub ordered-map_join : (es fs : List (K × X)) → IsOrdered cmp es → IsOrdered cmp fs
      → IsOrdered cmp (map_join cmp join es fs)
  ordered-map_join [] fs s t = rw (nothing_join cmp join fs) t
  ordered-map_join (e ∷ es) fs s t = ordered_past e es s
      (λ gs u. ordered-map_join es gs (sorted_tail cmp e.0 _ s) u) fs t
