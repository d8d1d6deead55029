-- The join of maps is a join: commutative, associative and idempotent, whatever the entries.
use Rattle.std.proofs.Common.{◌≡◌, List, [], ◌∷◌, refl, sym, ap, ◌∙◌}
use Rattle.std.specs.declared.cmp.Ordering.{Ordering}
use Rattle.std.specs.declared.cmp.Ordering.TheVariants.{Less, Equal, Greater}
use Rattle.std.specs.Ordering.{ordering_reverse}
use Rattle.std.specs.Cmp.{IsTotalOrder}
use Rattle.std.proofs.lemmas.Cmp.{tied_itself, alike_right}
use Rattle.flute_join.specs.Semilattice.{IsJoin}
use Rattle.flute_join.specs.JoinMap.{map_join, join_entry}

-- ---- the first entry of a join
module _ {K X : Type 0} (cmp : K → K → Ordering) (join : X → X → X) where
  pub first_less : (e f : K × X) (es fs : List (K × X)) → cmp e.0 f.0 ≡ Less
      → map_join cmp join (e ∷ es) (f ∷ fs) ≡ e ∷ map_join cmp join es (f ∷ fs)
  unfolding map_join join_entry
  first_less e f es fs p = rw p refl

  pub first_equal : (e f : K × X) (es fs : List (K × X)) → cmp e.0 f.0 ≡ Equal
      → map_join cmp join (e ∷ es) (f ∷ fs) ≡ (e.0, join e.1 f.1) ∷ map_join cmp join es fs
  unfolding map_join join_entry
  first_equal e f es fs p = rw p refl

  pub first_greater : (e f : K × X) (es fs : List (K × X)) → cmp e.0 f.0 ≡ Greater
      → map_join cmp join (e ∷ es) (f ∷ fs) ≡ f ∷ map_join cmp join (e ∷ es) fs
  unfolding map_join join_entry
  first_greater e f es fs p = rw p refl

  pub join_nothing : (es : List (K × X)) → map_join cmp join es [] ≡ es
  unfolding map_join join_entry
  join_nothing [] = refl
  join_nothing (e ∷ es) = refl

  pub nothing_join : (es : List (K × X)) → map_join cmp join [] es ≡ es
  unfolding map_join
  nothing_join es = refl

module _ {K X : Type 0} {cmp : K → K → Ordering} (order : IsTotalOrder cmp)
    (same : (x y : K) → cmp x y ≡ Equal → x ≡ y) {join : X → X → X} (laws : IsJoin join) where
  abbrev J : List (K × X) → List (K × X) → List (K × X)
  J es fs = map_join cmp join es fs

  -- ---- idempotent
  repeats : (es : List (K × X)) → J es es ≡ es
  unfolding map_join join_entry
  repeats [] = refl
  repeats (e ∷ es) =
      first_equal cmp join e e es es (tied_itself order e.0)
      ∙ ap (λ v. (e.0, v) ∷ J es es) (laws.idempotent e.1) ∙ ap (λ l. e ∷ l) (repeats es)

  -- ---- commutative
  turned : (e f : K × X) (r : Ordering) → cmp e.0 f.0 ≡ r → cmp f.0 e.0 ≡ ordering_reverse r
  turned e f r p = order.antisymm f.0 e.0 ∙ ap ordering_reverse p

  swaps : (e f : K × X) (es fs : List (K × X)) {r : Ordering} → cmp e.0 f.0 ≡ r
      → J es (f ∷ fs) ≡ J (f ∷ fs) es → J es fs ≡ J fs es → J (e ∷ es) fs ≡ J fs (e ∷ es)
      → J (e ∷ es) (f ∷ fs) ≡ J (f ∷ fs) (e ∷ es)
  swaps e f es fs {r = Less} p a b c =
      first_less cmp join e f es fs p ∙ ap (λ l. e ∷ l) a
      ∙ sym (first_greater cmp join f e fs es (turned e f Less p))
  swaps e f es fs {r = Equal} p a b c =
      first_equal cmp join e f es fs p ∙ ap (λ k. (k, join e.1 f.1) ∷ J es fs) (same e.0 f.0 p)
      ∙ ap (λ v. (f.0, v) ∷ J es fs) (laws.commutative e.1 f.1)
      ∙ ap (λ l. (f.0, join f.1 e.1) ∷ l) b
      ∙ sym (first_equal cmp join f e fs es (turned e f Equal p))
  swaps e f es fs {r = Greater} p a b c =
      first_greater cmp join e f es fs p ∙ ap (λ l. f ∷ l) c
      ∙ sym (first_less cmp join f e fs es (turned e f Greater p))

  swaps_all : (e : K × X) (es : List (K × X)) → ((fs : List (K × X)) → J es fs ≡ J fs es)
      → (fs : List (K × X)) → J (e ∷ es) fs ≡ J fs (e ∷ es)
  unfolding map_join join_entry
  swaps_all e es ih [] = refl
  swaps_all e es ih (f ∷ fs) =
      swaps e f es fs refl (ih (f ∷ fs)) (ih fs) (swaps_all e es ih fs)

  commutes : (es fs : List (K × X)) → J es fs ≡ J fs es
  unfolding map_join join_entry
  commutes [] fs = sym (join_nothing cmp join fs)
  commutes (e ∷ es) fs = swaps_all e es (commutes es) fs

  -- ---- associative
  module _ (e f g : K × X) (es fs gs : List (K × X)) where
    abbrev E : List (K × X)
    E = e ∷ es

    abbrev F : List (K × X)
    F = f ∷ fs

    abbrev G : List (K × X)
    G = g ∷ gs

    by_parts : (x y : List (K × X)) → J E F ≡ x → J F G ≡ y → J x G ≡ J E y
        → J (J E F) G ≡ J E (J F G)
    by_parts x y p q h = ap (λ k. J k G) p ∙ h ∙ ap (J E) (sym q)

    -- e is below f and g
    e_first : ((x y : List (K × X)) → J (J es x) y ≡ J es (J x y)) → (y : List (K × X))
        → cmp e.0 f.0 ≡ Less → J F G ≡ y → cmp e.0 g.0 ≡ Less → J E y ≡ e ∷ J es y
        → J (J E F) G ≡ J E (J F G)
    e_first outer y a q c s =
        by_parts (e ∷ J es F) y (first_less cmp join e f es fs a) q
        (first_less cmp join e g (J es F) gs c ∙ ap (λ k. e ∷ k) (outer F G ∙ ap (J es) q) ∙ sym s)

    -- g is below e and f
    g_first : J (J E F) gs ≡ J E (J F gs) → (x : List (K × X)) → J E F ≡ x → J x G ≡ g ∷ J x gs
        → cmp f.0 g.0 ≡ Greater → cmp e.0 g.0 ≡ Greater → J (J E F) G ≡ J E (J F G)
    g_first inner x p r b c =
        by_parts x (g ∷ J F gs) p (first_greater cmp join f g fs gs b)
        (r ∙ ap (λ k. g ∷ k) (ap (λ k. J k gs) (sym p) ∙ inner)
        ∙ sym (first_greater cmp join e g es (J F gs) c))

    module _ (outer : (x y : List (K × X)) → J (J es x) y ≡ J es (J x y))
        (middle : (y : List (K × X)) → J (J E fs) y ≡ J E (J fs y))
        (inner : J (J E F) gs ≡ J E (J F gs)) where
      groups_less : cmp e.0 f.0 ≡ Less → cmp f.0 g.0 ≡ Greater → (r : Ordering) → cmp e.0 g.0 ≡ r
          → J (J E F) G ≡ J E (J F G)
      groups_less a b Less c =
          e_first outer (g ∷ J F gs) a (first_greater cmp join f g fs gs b) c
          (first_less cmp join e g es (J F gs) c)
      groups_less a b Equal c =
          by_parts (e ∷ J es F) (g ∷ J F gs) (first_less cmp join e f es fs a)
          (first_greater cmp join f g fs gs b)
          (first_equal cmp join e g (J es F) gs c ∙ ap (λ k. (e.0, join e.1 g.1) ∷ k) (outer F gs)
          ∙ sym (first_equal cmp join e g es (J F gs) c))
      groups_less a b Greater c =
          g_first inner (e ∷ J es F) (first_less cmp join e f es fs a)
          (first_greater cmp join e g (J es F) gs c) b c

      groups : (p q : Ordering) → cmp e.0 f.0 ≡ p → cmp f.0 g.0 ≡ q → J (J E F) G ≡ J E (J F G)
      groups Less Less a b =
          e_first outer (f ∷ J fs G) a (first_less cmp join f g fs gs b)
          (order.trans e.0 f.0 g.0 a b) (first_less cmp join e f es (J fs G) a)
      groups Less Equal a b =
          e_first outer ((f.0, join f.1 g.1) ∷ J fs gs) a (first_equal cmp join f g fs gs b)
          (sym (alike_right order f.0 g.0 e.0 b) ∙ a)
          (first_less cmp join e (f.0, join f.1 g.1) es (J fs gs) a)
      groups Less Greater a b = groups_less a b (cmp e.0 g.0) refl
      groups Equal Less a b =
          by_parts ((e.0, join e.1 f.1) ∷ J es fs) (f ∷ J fs G) (first_equal cmp join e f es fs a)
          (first_less cmp join f g fs gs b)
          (first_less cmp join (e.0, join e.1 f.1) g (J es fs) gs (order.congr e.0 f.0 g.0 a ∙ b)
          ∙ ap (λ k. (e.0, join e.1 f.1) ∷ k) (outer fs G)
          ∙ sym (first_equal cmp join e f es (J fs G) a))
      groups Equal Equal a b =
          by_parts ((e.0, join e.1 f.1) ∷ J es fs) ((f.0, join f.1 g.1) ∷ J fs gs)
          (first_equal cmp join e f es fs a) (first_equal cmp join f g fs gs b)
          (first_equal cmp join (e.0, join e.1 f.1) g (J es fs) gs (order.congr e.0 f.0 g.0 a ∙ b)
          ∙ ap (λ v. (e.0, v) ∷ J (J es fs) gs) (laws.associative e.1 f.1 g.1)
          ∙ ap (λ k. (e.0, join e.1 (join f.1 g.1)) ∷ k) (outer fs gs)
          ∙ sym (first_equal cmp join e (f.0, join f.1 g.1) es (J fs gs) a))
      groups Equal Greater a b =
          g_first inner ((e.0, join e.1 f.1) ∷ J es fs) (first_equal cmp join e f es fs a)
          (first_greater cmp join (e.0, join e.1 f.1) g (J es fs) gs
          (order.congr e.0 f.0 g.0 a ∙ b))
          b (order.congr e.0 f.0 g.0 a ∙ b)
      groups Greater Less a b =
          by_parts (f ∷ J E fs) (f ∷ J fs G) (first_greater cmp join e f es fs a)
          (first_less cmp join f g fs gs b)
          (first_less cmp join f g (J E fs) gs b ∙ ap (λ k. f ∷ k) (middle G)
          ∙ sym (first_greater cmp join e f es (J fs G) a))
      groups Greater Equal a b =
          by_parts (f ∷ J E fs) ((f.0, join f.1 g.1) ∷ J fs gs) (first_greater cmp join e f es fs a)
          (first_equal cmp join f g fs gs b)
          (first_equal cmp join f g (J E fs) gs b ∙ ap (λ k. (f.0, join f.1 g.1) ∷ k) (middle gs)
          ∙ sym (first_greater cmp join e (f.0, join f.1 g.1) es (J fs gs) a))
      groups Greater Greater a b =
          let c : cmp e.0 g.0 ≡ Greater = order.antisymm e.0 g.0
          ∙ ap ordering_reverse
          (order.trans g.0 f.0 e.0 (turned f g Greater b) (turned e f Greater a)) in
          g_first inner (f ∷ J E fs) (first_greater cmp join e f es fs a)
          (first_greater cmp join f g (J E fs) gs b) b c

  associates_inner : (e f : K × X) (es fs : List (K × X))
      → ((x y : List (K × X)) → J (J es x) y ≡ J es (J x y))
      → ((y : List (K × X)) → J (J (e ∷ es) fs) y ≡ J (e ∷ es) (J fs y)) → (gs : List (K × X))
      → J (J (e ∷ es) (f ∷ fs)) gs ≡ J (e ∷ es) (J (f ∷ fs) gs)
  unfolding map_join join_entry
  associates_inner e f es fs outer middle [] = join_nothing cmp join (J (e ∷ es) (f ∷ fs))
  associates_inner e f es fs outer middle (g ∷ gs) =
      groups e f g es fs gs outer middle (associates_inner e f es fs outer middle gs) (cmp e.0 f.0)
      (cmp f.0 g.0) refl refl

  associates_middle : (e : K × X) (es : List (K × X))
      → ((x y : List (K × X)) → J (J es x) y ≡ J es (J x y)) → (fs gs : List (K × X))
      → J (J (e ∷ es) fs) gs ≡ J (e ∷ es) (J fs gs)
  unfolding map_join join_entry
  associates_middle e es outer [] gs = refl
  associates_middle e es outer (f ∷ fs) gs =
      associates_inner e f es fs outer (associates_middle e es outer fs) gs

  associates : (es fs gs : List (K × X)) → J (J es fs) gs ≡ J es (J fs gs)
  unfolding map_join join_entry
  associates [] fs gs = refl
  associates (e ∷ es) fs gs = associates_middle e es (associates es) fs gs

  -- the join of maps is a join, if keys that compare equal are the same and the join
  -- of the values is one
  pub map_join_laws : IsJoin (map_join cmp join)
  map_join_laws = record { commutative = commutes; associative = associates; idempotent = repeats }
