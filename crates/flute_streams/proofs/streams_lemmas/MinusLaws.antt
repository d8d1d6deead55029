-- What `minus` leaves (specs/Minus, src/laws.rt).
use Rattle.std.proofs.Common.{◌≡◌, true, false, cond, Bool, not, List, [], ◌∷◌, ◌++◌, filter}
use Rattle.std.proofs.Common.{refl, sym, ap, ◌∙◌, subst, inl, inr}
use Rattle.std.proofs.Common.{Option, Some, None}
use Rattle.std.specs.Prelude.{◌↔◌}
use Rattle.std.proofs.lemmas.Bool.{cases_Bool}
use Rattle.std.proofs.lemmas.Option.{none-some, same_Some}
use Rattle.flute_parts.specs.declared.address.Address.{Address}
use Rattle.flute_parts.specs.declared.fact.Fact.{Fact}
use Rattle.flute_parts.specs.declared.fact.Fact.TheVariants.{Info, InfoConflict, Symbol}
use Rattle.flute_parts.specs.declared.fact.Fact.TheVariants.{SymbolConflict}
use Rattle.flute_parts.specs.Addresses.{address}
use Rattle.flute_parts.specs.Equality.{address_same, fact_same}
use Rattle.flute_parts.specs.Facts.{Below, Same, fact_at, same_fact, conflict_at}
use Rattle.flute_parts.proofs.Public.{alone, alone-at, alone-elsewhere, fact_at-append}
use Rattle.flute_parts.proofs.Public.{fact_at-address}
use Rattle.flute_parts.proofs.Public.{joined, joined-same, joined-apart, joined-conflict_right}
use Rattle.flute_parts.proofs.Public.{Below-append, Below-from_Same, Below-itself, Below-trans}
use Rattle.flute_parts.proofs.Public.{Same-from_Below, Same-itself, Same-swap, Same-twice}
use Rattle.flute_streams.specs.Selections.{is_conflict}
use Rattle.flute_streams.specs.Minus.{has, changes, minus}

-- a conflict is the conflict of its address, and conversely
pub conflict_is : (g : Fact) (a : Address) → address g ≡ a → is_conflict g ≡ true → g ≡ conflict_at a
conflict_is (Info k i) a e h = absurd cc
conflict_is (InfoConflict k) a e h = ap conflict_at e
conflict_is (Symbol k i b) a e h = absurd cc
conflict_is (SymbolConflict k i) a e h = ap conflict_at e

pub is_conflict-at : (f : Fact) → is_conflict (conflict_at (address f)) ≡ true
is_conflict-at (Info k i) = refl
is_conflict-at (InfoConflict k) = refl
is_conflict-at (Symbol k i b) = refl
is_conflict-at (SymbolConflict k i) = refl

-- a value that has the fact stays when it is joined with it, and conversely
has_stays : (f : Fact) (y : Option Fact) → ((g : Fact) → y ≡ Some g → address g ≡ address f)
    → not (has y f) ≡ false → joined (address f) (Some f) y ≡ y
has_stays f None at h = absurd cc
has_stays f (Some g) at h = elim (cases_Bool _) [
  | inl c ↦ let e = conflict_is g _ (at g refl) c in rw e (ap Some (joined-conflict_right _ f))
  | inr n ↦ elim (cases_Bool _) [
    | inl t ↦ let e = fact_same f g t in ap Some (joined-same _ f g e ∙ e)
    | inr m ↦ absurd cc
  ]
]

stays_has : (f : Fact) (y : Option Fact) → joined (address f) (Some f) y ≡ y → not (has y f) ≡ false
stays_has f None h = absurd (none-some f (sym h))
stays_has f (Some g) h = elim (cases_Bool (same_fact f g)) [
  | inl t ↦ elim (cases_Bool (is_conflict g)) [ inl c ↦ rw c refl | inr n ↦ rw (n, t) refl ]
  | inr m ↦ let e = same_Some _ g h in
      let c = subst (λ x. is_conflict x ≡ true) (sym (joined-apart _ f g m) ∙ e)
      (is_conflict-at f) in rw c refl
]

one_more : (f : Fact) (held : List Fact) (a : Address)
    → fact_at (f ∷ held) a ≡ joined a (alone a f) (fact_at held a)
one_more f held a = fact_at-append _ _ a

left_below : (held : List Fact) (f : Fact) → changes held f ≡ false → Below (f ∷ []) held
left_below held f h = record {
  each = λ a. elim (cases_Bool _) [
    | inl t ↦
        let e = address_same (address f) a t in
        one_more f _ a ∙ ap (λ x. joined a x (fact_at held a)) (alone-at f a e)
        ∙ subst (λ x. joined x (Some f) (fact_at held x) ≡ fact_at held x) e
        (has_stays f _ (λ g i. fact_at-address _ _ g i) h)
    | inr n ↦ one_more f _ a ∙ ap (λ x. joined a x (fact_at held a)) (alone-elsewhere f a n)
  ];
}

below_left : (held : List Fact) (f : Fact) → Below (f ∷ []) held → changes held f ≡ false
below_left held f h =
    let a = address f in
    stays_has f _ (ap (λ x. joined a x (fact_at held a)) (sym (alone-at f a refl)) ∙ sym
    (one_more f _ a) ∙ h.each a)

pub left_out : (held : List Fact) (f : Fact) → (changes held f ≡ false) ↔ Below (f ∷ []) held
left_out held f = (left_below _ f, below_left _ f)

none_below : (G : List Fact) → Below [] G
none_below G = Same-itself G

right : (F G : List Fact) → Below G (F ++ G)
right F G = Below-append [] F G G (none_below F) (Below-itself G)

left : (F G : List Fact) → Below F (F ++ G)
left F G = Below-trans F _ _ (right G F) (Below-from_Same _ _ (Same-swap G F))

both : (F G X : List Fact) → Below F X → Below G X → Below (F ++ G) X
both F G X p q = Below-trans _ _ X (Below-append F X G X p q) (Below-from_Same _ X (Same-twice X))

module _ (takes : Fact → Bool) where
  taken_below : (S : List Fact) → Below (filter takes S) S
  taken_below [] = Below-itself []
  taken_below (f ∷ S) = elim (cases_Bool _) [
    | inl e ↦ subst (λ b. Below (cond b (f ∷ filter takes S) (filter takes S)) (f ∷ S)) (sym e)
        (Below-append (f ∷ []) (f ∷ []) _ S (Below-itself _) (taken_below S))
    | inr e ↦ rw e (Below-trans _ S _ (taken_below S) (right (f ∷ []) S))
  ]

  taken_again : (S : List Fact) → filter takes (filter takes S) ≡ filter takes S
  taken_again [] = refl
  taken_again (f ∷ S) = elim (cases_Bool (takes f)) [
    | inl e ↦ rw e (rw e (ap (λ x. f ∷ x) (taken_again S)))
    | inr e ↦ rw e (taken_again S)
  ]

all_below : (F C : List Fact) → Below F (C ++ minus F C)
all_below F C = go F
  where
    go : (S : List Fact) → Below S (C ++ filter (changes C) S)
    go [] = none_below (C ++ [])
    go (f ∷ S) =
        let F = filter (changes C) S in
        elim (cases_Bool (changes C f)) [
          | inl e ↦ subst (λ b. Below (f ∷ S) (C ++ cond b (f ∷ F) F)) (sym e)
              (both (f ∷ []) S (C ++ (f ∷ F))
              (Below-trans (f ∷ []) (f ∷ F) (C ++ (f ∷ F)) (left (f ∷ []) F) (right C (f ∷ F)))
              (Below-trans S (C ++ F) (C ++ (f ∷ F)) (go S)
              (Below-append C C F (f ∷ F) (Below-itself C) (right (f ∷ []) F))))
          | inr e ↦ subst (λ b. Below (f ∷ S) (C ++ cond b (f ∷ F) F)) (sym e)
              (both (f ∷ []) S (C ++ F)
              (Below-trans (f ∷ []) C (C ++ F) (left_below C f e) (left C F)) (go S))
        ]

pub enough : (F C : List Fact) → Same (C ++ minus F C) (C ++ F)
enough F C = Same-from_Below _ _ (Below-append C C _ F (Below-itself C) (taken_below _ F))
    (both C F _ (left C _) (all_below F C))

pub not_twice : (F C : List Fact) → Below F C → minus F C ≡ []
not_twice [] C h = refl
not_twice (f ∷ F) C h =
    let e = below_left C f (Below-trans (f ∷ []) _ C (left (f ∷ []) F) h) in
    rw e (not_twice F C (Below-trans F _ C (right (f ∷ []) F) h))

pub none_after : (F C : List Fact) → minus F (C ++ minus F C) ≡ []
none_after F C = not_twice F _ (all_below F C)

pub once : (F C : List Fact) → minus (minus F C) C ≡ minus F C
once F C = taken_again _ F
