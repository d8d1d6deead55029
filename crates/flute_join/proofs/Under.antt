-- What holds of each map that is below another.
use Rattle.std.proofs.Common.{arith}
use Rattle.std.proofs.lemmas.Grind.{common_steps}
use Rattle.std.proofs.Common.{rules}
use Rattle.std.proofs.Common.{◌≡◌, List, [], ◌∷◌, refl, sym, ap, ◌∙◌, subst}
use Rattle.std.specs.declared.cmp.Ordering.{Ordering}
use Rattle.std.specs.declared.cmp.Ordering.TheVariants.{Less, Equal, Greater}
use Rattle.std.specs.Cmp.{IsTotalOrder}
use Rattle.std.proofs.lemmas.Cmp.{tied_itself}
use Rattle.std.specs.Map.{keys_of}
use Rattle.std.specs.List.{AllByRecursion}
use Rattle.std.specs.List.Sorted.{IsStrictlySortedBy}
use Rattle.std.proofs.lemmas.Map.Keys.{sorted_tail}
use Rattle.flute_join.specs.Semilattice.{IsBelow}
use Rattle.flute_join.specs.JoinMap.{map_join, IsOrdered}
use Rattle.flute_join.specs.MapLaws.{first_less, first_equal, first_greater, join_nothing}

abbrev pub head_or : {A : Type 0} → A → List A → A
head_or a [] = a
head_or a (x ∷ xs) = x

abbrev tail_of : {A : Type 0} → List A → List A
tail_of [] = []
tail_of (x ∷ xs) = xs

not_less_equal : Less ≡ Equal → ⊥
not_less_equal p = cc

pub not_cons_nil : {A : Type 0} (x : A) (xs : List A) → x ∷ xs ≡ [] → ⊥
not_cons_nil x xs p = cc

module _ {K X : Type 0} {cmp : K → K → Ordering} (order : IsTotalOrder cmp) (join : X → X → X) where
  -- an induction: each entry of the lower map has one at the same key with a greater value above it
  module _ (Q : List (K × X) → List (K × X) → Type 0) (none : (fs : List (K × X)) → Q [] fs)
      (over : (e f : K × X) (es fs : List (K × X)) → e.0 ≡ f.0 → IsBelow join e.1 f.1
      → IsBelow (map_join cmp join) es fs → Q es fs → Q (e ∷ es) (f ∷ fs))
      (skip : (e f : K × X) (es fs : List (K × X)) → Q (e ∷ es) fs → Q (e ∷ es) (f ∷ fs)) where
    below_first : {e f : K × X} {es fs : List (K × X)} (r : Ordering) → cmp e.0 f.0 ≡ r → IsBelow
        (map_join cmp join) (e ∷ es) (f ∷ fs) → (IsBelow (map_join cmp join) es fs → Q es fs) →
        (IsBelow (map_join cmp join) (e ∷ es) fs → Q (e ∷ es) fs) → Q (e ∷ es) (f ∷ fs)
    below_first {e = e} {f = f} {es = es} {fs = fs} Less l b outer inner =
        let same = ap (head_or f) (sym (first_less cmp _ e f es fs l) ∙ b) in
        absurd (not_less_equal (sym l ∙ ap (λ x. cmp x.0 f.0) same ∙ tied_itself order f.0))
    below_first {e = e} {f = f} {es = es} {fs = fs} Equal l b outer inner =
        let whole = sym (first_equal cmp _ e f es fs l) ∙ b in
        let same = ap (head_or f) whole in
        over e f es fs (ap (λ x. x.0) same) (ap (λ x. x.1) same) (ap tail_of whole)
        (outer (ap tail_of whole))
    below_first {e = e} {f = f} {es = es} {fs = fs} Greater l b outer inner =
        skip e f es fs (inner (ap tail_of (sym (first_greater cmp _ e f es fs l) ∙ b)))

    below_past : (e : K × X) (es : List (K × X))
        → ((fs : List (K × X)) → IsBelow (map_join cmp join) es fs → Q es fs)
        → (fs : List (K × X)) → IsBelow (map_join cmp join) (e ∷ es) fs → Q (e ∷ es) fs
    below_past e es ih [] b = absurd (not_cons_nil e es (sym (join_nothing cmp _ _) ∙ b))
    below_past e es ih (f ∷ fs) b = below_first _ refl b (ih fs) (below_past e es ih fs)

    pub below_induction : (es fs : List (K × X)) → IsBelow (map_join cmp join) es fs → Q es fs
    below_induction [] fs b = none fs
    below_induction (e ∷ es) fs b = below_past e es (below_induction es) fs b

  -- what holds of each key of the greater map holds of each of the lower one
  keys_under : (P : K → Type 0) (es fs : List (K × X)) → IsBelow (map_join cmp join) es fs
      → AllByRecursion P (keys_of fs) → AllByRecursion P (keys_of es)
  keys_under P = below_induction _ _ (λ e f es fs k v b ih a. (rw k a.0, ih a.1))
      (λ e f es fs ih a. ih a.1)

  ordered_over : (e f : K × X) (es fs : List (K × X)) → e.0 ≡ f.0 → IsBelow (map_join cmp join) es
      fs → IsOrdered cmp es → IsOrdered cmp (f ∷ fs) → IsOrdered cmp (e ∷ es)
  unfolding IsStrictlySortedBy
  ordered_over e f es fs k b s t = (rw k (keys_under _ es fs b t.0), s)

  ordered_nothing : (fs : List (K × X)) → IsOrdered cmp fs → IsOrdered {X = X} cmp []
  unfolding IsStrictlySortedBy
  ordered_nothing fs t = tt

  -- the keys of the lower map ascend where those of the greater one do
  pub ordered_under : (es fs : List (K × X)) → IsBelow (map_join cmp join) es fs
      → IsOrdered cmp fs → IsOrdered cmp es
  ordered_under = below_induction _ ordered_nothing (λ
      e f es fs k v b ih t. ordered_over e f es fs k b (ih (sorted_tail cmp f.0 _ t)) t)
      (λ e f es fs ih t. ih (sorted_tail cmp f.0 _ t))
