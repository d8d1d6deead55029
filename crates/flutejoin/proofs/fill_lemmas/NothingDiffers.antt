-- What of others facts contain, if `compare` finds nothing that differs (specs/OwnGaps).
use Rattle.std.proofs.Common.{◌≡◌, ℕ, ◌⊎◌, Bool, true, false, cond, not, ◌&&◌, ◌||◌, ◌==◌, List, []}
use Rattle.std.proofs.Common.{◌∷◌, length, map, Some, None, refl, sym, ap, ◌∙◌, subst, inl, inr, arith}
use Rattle.std.specs.Prelude.{Contains, filter}
use Rattle.std.specs.List.{list_any}
use Rattle.std.proofs.lemmas.Bool.{cases_Bool, eqb-true, false≢true}
use Rattle.std.proofs.lemmas.List.Sums.{length-filter}
use Rattle.flute_parts.specs.Addresses.{address, info_address}
use Rattle.flute_parts.specs.Equality.{address_same, fact_same, key_itself, key_same}
use Rattle.flute_parts.specs.Facts.{Below, IsRising, fact_at, same_fact}
use Rattle.flute_parts.specs.declared.address.Address.{Address}
use Rattle.flute_parts.specs.declared.address.Part.{Part}
use Rattle.flute_parts.specs.declared.address.Part.TheVariants.{Info as InfoPart}
use Rattle.flute_parts.specs.declared.address.Part.TheVariants.{Symbol as SymbolPart}
use Rattle.flute_parts.specs.declared.fact.Fact.{Fact}
use Rattle.flute_parts.specs.declared.key.Key.{Key}
use Rattle.flute_parts.proofs.Public.{alone-at, Contains-from, fact_at-cons, fact_at-elsewhere}
use Rattle.flute_parts.proofs.Public.{fact_at-some_named, joined, joined-itself, rising_tells}
use Rattle.flute_streams.specs.Compared.{AreRows, differs, is_apart, is_listed, is_other}
use Rattle.flute_streams.specs.Compared.{is_symbol_of, row_of, side_at}
use Rattle.flute_streams.specs.Selections.{is_info}
use Rattle.flute_streams.specs.declared.merge.sides.Row.{Row}
use Rattle.flutejoin.proofs.fill_lemmas.OwnGaps.{Has, has, or_right}

or_none : (a b : Bool) → (a || b) ≡ false → (a ≡ false) × (b ≡ false)
or_none true b e = absurd (false≢true (sym e))
or_none false b e = (refl, e)

any_has : {X : Type 0} (p : X → Bool) (x : X) (xs : List X) → Has x xs → p x ≡ true
    → list_any p xs ≡ true
unfolding Has
any_has p x [] h t = absurd h
any_has p x (y ∷ ys) (inl e) t = ap (λ b. b || list_any p ys) (ap p (sym e) ∙ t)
any_has p x (y ∷ ys) (inr h) t = or_right _ _ (any_has p x ys h t)

none_has : {X : Type 0} (p : X → Bool) (x : X) (xs : List X) → Has x xs
    → length (filter p xs) ≡ 0 → p x ≡ false
unfolding Has
none_has p x [] h n = absurd h
none_has p x (y ∷ ys) h n = elim (cases_Bool _) [
  | inl t ↦ absurd (some (subst (λ b. length (cond b (y ∷ filter p ys) (filter p ys)) ≡ 0) t n))
  | inr f ↦
      let m = rw f at n in
      elim h [
        | inl e ↦ ap p e ∙ f
        | inr k ↦ none_has p x ys k m
      ]
]
  where
    some : length (y ∷ filter p ys) ≡ 0 → ⊥
    some e = omega arith

-- what is held at the address of a fact is the same
pub below_one : (held : List Fact) (f : Fact) → fact_at held (address f) ≡ Some f
    → Below (f ∷ []) held
below_one held f e = record {
  each = λ b. elim (cases_Bool _) [
    | inr n ↦ fact_at-elsewhere f _ b n
    | inl u ↦ let a = address f in rw (← address_same a b u) (fact_at-cons f _ a ∙ ap
        (λ x. joined a x (fact_at held a)) (alone-at f a refl) ∙ ap (joined a (Some f)) e ∙
        joined-itself a _ ∙ sym e)
  ];
}

module _ (held facts : List Fact) (held_rise : IsRising held) (rise : IsRising facts) where
  same_there : (g f : Fact) → is_apart (side_at (Some g) (Some f)) ≡ false → g ≡ f
  same_there g f h = elim (cases_Bool _) [
    | inl t ↦ fact_same g f t
    | inr n ↦ absurd (false≢true (cc))
  ]

  same_symbol : (g f : Fact) → not (same_fact g f) ≡ false → g ≡ f
  same_symbol g f h = elim (cases_Bool _) [
    | inl t ↦ fact_same g f t
    | inr n ↦ absurd (false≢true (cc))
  ]

  zero_is : (n : ℕ) → not (n == 0) ≡ false → n ≡ 0
  zero_is n h = elim (cases_Bool _) [ inl t ↦ eqb-true n 0 t | inr u ↦ absurd (false≢true (cc)) ]

  not_apart : (key : Key) (keys : List Key) → is_listed key keys ≡ true → list_any differs
      (map (row_of held facts) keys) ≡ false → differs (row_of held facts key) ≡ false
  not_apart _ [] l h = absurd (false≢true l)
  not_apart key (k ∷ keys) l h =
      let n = or_none _ _ h in
      elim (cases_Bool _) [
        | inl t ↦ rw (key_same key k t) n.0
        | inr u ↦ not_apart _ keys (rw u at l) n.1
      ]

  -- what is held at its address, if its object does not differ
  same_held : (g f : Fact) → Contains held g → Contains facts f → address g ≡ address f
      → differs (row_of held facts (address f).key) ≡ false → g ≡ f
  same_held g f m c at h = by _ refl
    where
      a : Address
      a = address f

      row : Row
      row = row_of held facts a.key

      none : (is_apart row.information ≡ false) × (not (row.symbols.differ == 0) ≡ false)
      none = or_none _ _ h

      here : fact_at held a ≡ Some g
      here = subst (λ x. fact_at held x ≡ Some g) at (rising_tells _ g held_rise m)

      there : fact_at facts a ≡ Some f
      there = rising_tells _ f rise c

      is_differing : Fact → Bool
      is_differing x = is_symbol_of a.key (address x) && is_other (fact_at facts (address x)) x

      by : (part : Part) → a.part ≡ part → g ≡ f
      by InfoPart i =
          let is : info_address a.key ≡ a = λ n. record { key = a.key; part = sym i n } in
          same_there g f (rw (← ap (λ x. side_at (fact_at held x) (fact_at facts x)) is
          ∙ ap (λ x. side_at x (fact_at facts a)) here ∙ ap (side_at (Some g)) there) none.0)
      by (SymbolPart id) i =
          let count = zero_is _ none.1 in
          let no =
          none_has is_differing g _ (has g _ m) (length-filter _ held ∙ count) in
          let own = ap (λ b. b && not (is_info a.part)) (key_itself a.key)
          ∙ ap (λ x. not (is_info x)) i in
          same_symbol g f (rw own at (subst (λ o. (is_symbol_of a.key a && is_other o g) ≡ false) there
          (subst (λ x. (is_symbol_of a.key x && is_other (fact_at facts x) g) ≡ false) at no)))

  pub lacked_or_held : (rows : List Row) → AreRows held facts rows → list_any differs rows ≡ false →
      (f : Fact) → Contains facts f → (fact_at held (address f) ≡ None) ⊎ Below (f ∷ []) held
  lacked_or_held _ are none f c = elim (fact_at-some_named _ _) [
    | inr n ↦ inl n
    | inl named ↦ let a = address f in
        let named_there = any_has _ f _ (has f _ c) (key_itself a.key) in
        let listed = are.all a.key ∙ or_right _ _ named_there in
        let m = Contains-from _ _ named.1 in
        let same = same_held _ f m c named.2
        (not_apart _ _ listed (ap (λ r. list_any differs r) (sym are.are) ∙ none)) in inr
        (below_one _ f (rw (← named.2) (rising_tells _ _ held_rise m ∙ ap Some same)))
  ]
