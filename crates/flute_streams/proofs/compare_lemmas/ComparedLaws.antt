-- What the counts of a comparison say (specs/Compared, src/laws.rt).
use Rattle.std.proofs.Common.{◌≡◌, ℕ, true, false, cond, Bool, not, ◌&&◌, ◌==◌, List, []}
use Rattle.std.proofs.Common.{◌∷◌, ◌++◌, refl, sym, ap, ◌∙◌, subst, inl, inr, ◌⊎◌, Option, Some}
use Rattle.std.proofs.Common.{None, arith, ◌+◌}
use Rattle.std.specs.Prelude.{map}
use Rattle.std.specs.List.{count_by, list_any}
use Rattle.std.proofs.lemmas.Bool.{cases_Bool, eqb-true, false≢true}
use Rattle.flute_parts.specs.declared.address.Address.{Address}
use Rattle.flute_parts.specs.declared.address.Part.{Part}
use Rattle.flute_parts.specs.declared.address.Part.TheVariants.{Info as InfoPart}
use Rattle.flute_parts.specs.declared.address.Part.TheVariants.{Symbol as SymbolPart}
use Rattle.flute_parts.specs.declared.fact.Fact.{Fact}
use Rattle.flute_parts.specs.declared.key.Key.{Key}
use Rattle.flute_parts.specs.Addresses.{address}
use Rattle.flute_parts.specs.Equality.{address_same, fact_same, key_itself, key_same}
use Rattle.flute_parts.specs.Facts.{IsRising, fact_at, same_fact}
use Rattle.flute_parts.specs.Order.{same_address}
use Rattle.flute_parts.proofs.Public.{fact_at-append, fact_at-elsewhere, fact_at-after}
use Rattle.flute_parts.proofs.Public.{fact_at-here, fact_at-nil, joined, joined-same}
use Rattle.flute_streams.specs.Selections.{is_info}
use Rattle.flute_streams.specs.Compared.{AreRows, differs, is_alike, is_apart}
use Rattle.flute_streams.specs.Compared.{is_listed, is_lone, is_named, is_other, is_symbol_of}
use Rattle.flute_streams.specs.Compared.{row_of, side_at, sides_of, tally}
use Rattle.flute_streams.proofs.compare_lemmas.CountedRows.{at_information, count_first, none_there}
use Rattle.flute_streams.proofs.compare_lemmas.CountedRows.{or_none}
use Rattle.flute_streams.specs.declared.merge.sides.Row.{Row}

-- one of three
one_of : (b : Bool) (y : Option Fact) (f : Fact)
    → (cond (b && is_alike y f) 1 0 + cond (b && is_other y f) 1 0) + cond (b && is_lone y f) 1 0
    ≡ cond b 1 0
one_of false y f = refl
one_of true None f = refl
one_of true (Some g) f = elim (cases_Bool (same_fact f g)) [ inl t ↦ rw t refl | inr n ↦ rw n refl ]

module _ (a b c x y z : ℕ) where
  three : (n m : ℕ) {p q r s : ℕ} → (a + b) + c ≡ n → (x + y) + z ≡ m → p ≡ a + x → q ≡ b + y
      → r ≡ c + z → s ≡ n + m → (p + q) + r ≡ s
  three n m e i h j k l = omega arith

pub adds_up : (q : Address → Bool) (facts others : List Fact) → let s = sides_of q facts others in
    (s.same + s.differ) + s.first ≡ count_by (λ f. q (address f)) facts
adds_up q [] others = refl
adds_up q (f ∷ facts) others =
    let e = one_of (q (address f)) (fact_at others (address f)) f in
    let i = adds_up q facts others in
    three _ _ _ _ _ _ _ _ e i
    (count_first (λ f. q (address f) && is_alike (fact_at others (address f)) f) f facts)
    (count_first (λ f. q (address f) && is_other _ f) f facts)
    (count_first (λ f. q (address f) && is_lone (fact_at others (address f)) f) f facts)
    (count_first (λ f. q (address f)) f facts)

-- a count of none
both_zero : (x y : ℕ) → x + y ≡ 0 → (x ≡ 0) × (y ≡ 0)
both_zero x y e = (omega arith, omega arith)

one_zero : (n : ℕ) → n ≡ 1 → n ≡ 0 → ⊥
one_zero n e h = omega arith

none_head : (p : Fact → Bool) (f : Fact) (F : List Fact) → count_by p (f ∷ F) ≡ 0 → p f ≡ false
none_head p f F e = elim (cases_Bool (p f)) [
  | inl t ↦ absurd (one_zero (cond _ 1 0) (rw t refl)
      (both_zero _ _ (sym (count_first p f F) ∙ e)).0)
  | inr n ↦ n
]

none_tail : (p : Fact → Bool) (f : Fact) (F : List Fact) → count_by p (f ∷ F) ≡ 0 → count_by p F ≡ 0
none_tail p f F e = (both_zero _ _ (sym (count_first p f F) ∙ e)).1

one_value : (a : Address) (f : Fact) (y : Option Fact) → is_other y f ≡ false
    → joined a (Some f) y ≡ Some f
one_value a f None h = refl
one_value a f (Some g) h = elim (cases_Bool _) [
  | inl t ↦ ap Some (joined-same a f g (fact_same f g t))
  | inr n ↦ absurd cc
]

-- where no symbol at such an address differs, a join has there what one of both has
same_symbols : (q : Address → Bool) (facts others : List Fact) → IsRising facts
    → tally q is_other facts others ≡ 0 → (a : Address) → q a ≡ true
    → (joined a (fact_at facts a) (fact_at others a) ≡ fact_at facts a)
    ⊎ (joined a (fact_at facts a) (fact_at others a) ≡ fact_at others a)
same_symbols q [] others r h a t = inr (ap (λ x. joined a x (fact_at others a)) (fact_at-nil a))
same_symbols q (f ∷ facts) others r h a t = elim (cases_Bool (same_address (address f) a)) [
  | inl u ↦
      let e = address_same (address f) a u in
      let here = fact_at-here f facts (fact_at-after (address f) facts r.0) in
      let not_other = first_not (rw (← e) at t)
      (none_head (λ f. q (address f) && is_other (fact_at others (address f)) f) f facts h) in
      inl (subst (λ x. joined x (fact_at (f ∷ facts) x) (fact_at others x) ≡ fact_at (f ∷ facts) x) e
      (ap (λ x. joined (address f) x (fact_at others (address f))) here
      ∙ one_value (address f) f (fact_at others (address f)) not_other ∙ sym here))
  | inr n ↦
      let e = fact_at-elsewhere f facts a n in
      let rest = none_tail (λ f. q (address f) && is_other (fact_at others (address f)) f) f facts h in
      elim (same_symbols q facts others r.1 rest a t) [
        | inl p ↦ inl (ap (λ x. joined a x (fact_at others a)) e ∙ p ∙ sym e)
        | inr p ↦ inr (ap (λ x. joined a x (fact_at others a)) e ∙ p)
      ]
]
  where
    first_not : {b c : Bool} → b ≡ true → (b && c) ≡ false → c ≡ false
    first_not {b = true} e n = n
    first_not {b = false} e n = absurd (false≢true e)

-- the same of information, by which side has it
same_information_there : (a : Address) (x y : Option Fact) → is_apart (side_at x y) ≡ false
    → (joined a x y ≡ x) ⊎ (joined a x y ≡ y)
same_information_there a None y h = inr refl
same_information_there a (Some f) None h = inl refl
same_information_there a (Some f) (Some g) h = elim (cases_Bool _) [
  | inl t ↦ inl (ap Some (joined-same a f g (fact_same f g t)))
  | inr n ↦ absurd cc
]

zero_is : (n : ℕ) → not (n == 0) ≡ false → n ≡ 0
zero_is n h = elim (cases_Bool _) [ inl t ↦ eqb-true n 0 t | inr u ↦ absurd cc ]

-- of a listed object nothing differs
not_apart : (facts others : List Fact) (key : Key) (keys : List Key) → is_listed key keys ≡ true
    → list_any differs (map (row_of facts others) keys) ≡ false
    → differs (row_of facts others key) ≡ false
not_apart facts others key [] l h = absurd cc
not_apart facts others key (k ∷ keys) l h =
    let n = or_none _ _ h in
    elim (cases_Bool _) [
      | inl t ↦ rw (key_same key k t) n.0
      | inr u ↦ not_apart facts others key keys (rw u at l) n.1
    ]

module _ (facts others : List Fact) (rises : IsRising facts) where
  of_key : (a : Address) → differs (row_of facts others a.key) ≡ false
      → (joined a (fact_at facts a) (fact_at others a) ≡ fact_at facts a)
      ⊎ (joined a (fact_at facts a) (fact_at others a) ≡ fact_at others a)
  of_key a h = by _ refl
    where
      row : Row
      row = row_of facts others a.key

      none : (is_apart row.information ≡ false) × (not (row.symbols.differ == 0) ≡ false)
      none = or_none _ _ h

      by : (part : Part) → a.part ≡ part
          → (joined a (fact_at facts a) (fact_at others a) ≡ fact_at facts a)
          ⊎ (joined a (fact_at facts a) (fact_at others a) ≡ fact_at others a)
      by InfoPart i =
          rw
          (at_information a i)
          (same_information_there _ _
          _ none.0)
      by (SymbolPart id) i =
          same_symbols (is_symbol_of a.key) _ _ rises (zero_is _ none.1) a
          (ap (λ b. b && not (is_info a.part)) (key_itself a.key) ∙ ap (λ x. not (is_info x)) i)

  pub in_peace : (rows : List Row) → AreRows facts others rows → list_any differs rows ≡ false
      → (a : Address) → (fact_at (facts ++ others) a ≡ fact_at facts a)
      ⊎ (fact_at (facts ++ others) a ≡ fact_at others a)
  in_peace rows are none a = elim (cases_Bool (is_listed a.key are.keys)) [
    | inl l ↦ elim
        (of_key a (not_apart _ _ _ _ l (ap (λ r. list_any differs r) (sym are.are) ∙ none))) [
          | inl p ↦ inl (fact_at-append _ _ a ∙ p)
          | inr p ↦ inr (fact_at-append _ _ a ∙ p)
        ]
    | inr n ↦ let m = or_none (is_named a.key facts) (is_named a.key others)
        (sym (are.all a.key) ∙ n) in inr (fact_at-append facts others a ∙ ap
        (λ x. joined a x (fact_at others a)) (none_there a _ m.0))
  ]
