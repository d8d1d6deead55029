-- Rows, as one address more is counted (specs/Counting).
use Rattle.std.proofs.Common.{◌≡◌, ℕ, true, false, cond, Bool, not, ◌&&◌, ◌||◌, List, [], ◌∷◌}
use Rattle.std.proofs.Common.{◌++◌, refl, sym, ap, ◌∙◌, subst, inl, inr, Option, Some, None, arith}
use Rattle.std.proofs.Common.{◌+◌, ◌≤◌, ◌<◌, ◌^◌, length}
use Rattle.std.specs.List.{count_by}
use Rattle.std.proofs.lemmas.Bool.{cases_Bool, false≢true}
use Rattle.std.proofs.lemmas.List.Sums.{count_by-le-length, sum_by-append}
use Rattle.flute_parts.specs.declared.address.Address.{Address}
use Rattle.flute_parts.specs.declared.address.Part.{Part}
use Rattle.flute_parts.specs.declared.address.Part.TheVariants.{Info as InfoPart}
use Rattle.flute_parts.specs.declared.address.Part.TheVariants.{Symbol as SymbolPart}
use Rattle.flute_parts.specs.declared.fact.Fact.{Fact}
use Rattle.flute_parts.specs.declared.key.Key.{Key}
use Rattle.flute_parts.specs.declared.symbol_id.SymbolId.{SymbolId}
use Rattle.flute_parts.specs.Addresses.{address, info_address}
use Rattle.flute_parts.specs.Equality.{address_same, key_itself}
use Rattle.flute_parts.specs.Facts.{fact_at, same_fact}
use Rattle.flute_parts.specs.Order.{same_address, same_key}
use Rattle.flute_parts.proofs.Public.{alone-at, alone-elsewhere, fact_at-append}
use Rattle.flute_parts.proofs.Public.{fact_at-elsewhere, fact_at-nil, joined-none, joined}
use Rattle.flute_streams.specs.Behind.{StandBefore}
use Rattle.flute_streams.specs.Selections.{is_info}
use Rattle.flute_streams.specs.Streams.{option_list}
use Rattle.flute_streams.specs.Compared.{is_alike, is_other, is_lone, is_named}
use Rattle.flute_streams.specs.Compared.{is_symbol_of, row_of, side_at, sides_of, tally}
use Rattle.flute_streams.specs.Counting.{capped, capped_sides, more, counted, counted_at, new_row}
use Rattle.flute_streams.specs.Counting.{side_of, told_of}
use Rattle.flute_streams.specs.declared.merge.sides.Row.{Row}
use Rattle.flute_streams.specs.declared.merge.sides.Sides.{Sides}
use Rattle.flute_streams.proofs.streams_lemmas.Before.{back, before_value}

-- a fact at the address, if there is one
abbrev pub At : Address → Option Fact → Type 0
At p None = Unit {0}
At p (Some f) = address f ≡ p

pub zero_plus : (n : ℕ) → 0 + n ≡ n
zero_plus n = omega arith

-- one fact more in front
pub count_first : {X : Type 0} (p : X → Bool) (x : X) (xs : List X)
    → count_by p (x ∷ xs) ≡ cond (p x) 1 0 + count_by p xs
count_first p x xs = sum_by-append (λ z. cond (p z) 1 0) (x ∷ []) xs ∙ ap (λ n. n + count_by p xs)
    (zero_plus _)

-- the value of what is held, at its address and before it
held_here : (p : Address) (g : Option Fact) → At p g → fact_at (option_list g) p ≡ g
held_here p None e = fact_at-nil p
held_here p (Some g) e = alone-at g p e

held_off : (p a : Address) (g : Option Fact) → At p g → same_address p a ≡ false
    → fact_at (option_list g) a ≡ None
held_off p a None e n = fact_at-nil a
held_off p a (Some g) e n = alone-elsewhere g a (rw e n)

value_here : (p : Address) (G : List Fact) (g : Option Fact) → StandBefore p G → At p g
    → fact_at (G ++ option_list g) p ≡ g
value_here p G g s e = before_value p G _ s ∙ held_here p g e

-- and at other addresses
value_off : (p a : Address) (G : List Fact) (g : Option Fact) → At p g → same_address p a ≡ false
    → fact_at (G ++ option_list g) a ≡ fact_at G a
value_off p a G g e n = fact_at-append G _ a ∙ ap (joined a _) (held_off p a g e n) ∙ joined-none a
    _

-- how much one fact more counts
abbrev pub one : (Address → Bool) → (Option Fact → Fact → Bool) → Option Fact → Option Fact → ℕ
one q r None g = 0
one q r (Some f) g = cond (q (address f) && r g f) 1 0

-- one address more: the facts of both stand before it, and there both have these
pub record IsNext (p : Address) (F G : List Fact) (f g : Option Fact) : Type 0 where
  pub early : StandBefore p F
  pub early_others : StandBefore p G
  pub at : At p f
  pub at_others : At p g

swapped : {p : Address} {F G : List Fact} {f g : Option Fact} → IsNext p F G f g → IsNext p G F g f
swapped w =
    record { early = w.early_others; early_others = w.early; at = w.at_others; at_others = w.at }

module _ (q : Address → Bool) (r : Option Fact → Fact → Bool) where
  tally_before : (p : Address) (F G : List Fact) (g : Option Fact) → StandBefore p F → At p g
      → tally q r F (G ++ option_list g) ≡ tally q r F G
  tally_before p [] G g s e = refl
  tally_before p (f ∷ F) G g s e =
      count_first _ f F ∙ ap (λ v. cond (q (address f) && r v f) 1 0 + tally q r F (G ++ option_list g))
      (value_off p _ G g e (back _ p s.0))
      ∙ ap (λ n. cond (q (address f) && r (fact_at G (address f)) f) 1 0 + n)
      (tally_before p F G g s.1 e) ∙ sym (count_first _ f F)

  plus_zero : (n : ℕ) → n + 0 ≡ n
  plus_zero n = omega arith

  tally_held : (p : Address) (G : List Fact) (f g : Option Fact) → StandBefore p G → At p f → At p g
      → tally q r (option_list f) (G ++ option_list g) ≡ one q r f g
  tally_held p G None g s d e = refl
  tally_held p G (Some f) g s d e = count_first
      (λ f. q (address f) && r (fact_at (G ++ option_list g) (address f)) f) f [] ∙ plus_zero _ ∙ ap
      (λ v. cond (q (address f) && r v f) 1 0) (rw (← d) at (value_here p G g s e))

  module _ {p : Address} {F G : List Fact} {f g : Option Fact} (w : IsNext p F G f g) where
    pub tally_step : tally q r (F ++ option_list f) (G ++ option_list g)
        ≡ tally q r F G + one q r f g
    tally_step = sum_by-append
        (λ f. cond (q (address f) && r (fact_at (G ++ option_list g) (address f)) f) 1 0) F
        (option_list f) ∙ ap (λ n. n + tally q r (option_list f) (G ++ option_list g))
        (tally_before p F G g w.early w.at_others) ∙ ap (λ n. tally q r F G + n)
        (tally_held p G f g w.early_others w.at w.at_others)

  -- nothing is counted of other addresses
  pub one_off : (p : Address) (f g : Option Fact) → At p f → q p ≡ false → one q r f g ≡ 0
  one_off p None g d e = refl
  one_off p (Some f) g d e = ap (λ b. cond (b && r g f) 1 0) (rw (← d) at e)

  pub one_on : (p : Address) (f : Fact) (g : Option Fact) → address f ≡ p → q p ≡ true
      → one q r (Some f) g ≡ cond (r g f) 1 0
  one_on p f g d e = ap (λ b. cond (b && r g f) 1 0) (rw (← d) at e)

-- sides, by their counts
pub sides : (s t : Sides) → s.same ≡ t.same → s.differ ≡ t.differ → s.first ≡ t.first
    → s.second ≡ t.second → s ≡ t
sides s t a b c d = λ i. record { same = a i; differ = b i; first = c i; second = d i }

next : (n m : ℕ) → m ≡ 1 → capped (n + m) ≡ capped (capped n + 1)
next n m e = omega arith

still : (n m : ℕ) → m ≡ 0 → capped (n + m) ≡ capped n
still n m e = omega arith

-- a count there stays, or is one more
module _ (q : Address → Bool) (r : Option Fact → Fact → Bool) {p : Address} {F G : List Fact}
    {f g : Option Fact} (w : IsNext p F G f g) where
  stays : one q r f g ≡ 0
      → capped (tally q r (F ++ option_list f) (G ++ option_list g)) ≡ capped (tally q r F G)
  stays e = ap capped (tally_step q r w) ∙ still _ _ e

  grows : one q r f g ≡ 1 → capped (tally q r (F ++ option_list f) (G ++ option_list g))
      ≡ capped (capped (tally q r F G) + 1)
  grows e = ap capped (tally_step q r w) ∙ next _ _ e

module _ (q : Address → Bool) where
  pub sides_off : {p : Address} {F G : List Fact} {f g : Option Fact} → IsNext p F G f g
      → q p ≡ false → capped_sides (sides_of q (F ++ option_list f) (G ++ option_list g))
      ≡ capped_sides (sides_of q F G)
  sides_off {p} {F} {G} {f} {g} w n = sides _ _ (off is_alike) (off is_other) (off is_lone)
      (stays q is_lone (swapped w) (one_off q is_lone p g f w.at_others n))
    where
      off : (r : Option Fact → Fact → Bool)
          → capped (tally q r (F ++ option_list f) (G ++ option_list g)) ≡ capped (tally q r F G)
      off r = stays q r w (one_off q r p f g w.at n)

  -- at the address one side more is counted
  pub sides_on : {p : Address} {F G : List Fact} (f g : Option Fact) → IsNext p F G f g
      → q p ≡ true → (f ≡ None → g ≡ None → ⊥)
      → capped_sides (sides_of q (F ++ option_list f) (G ++ option_list g))
      ≡ more (capped_sides (sides_of q F G)) (side_of f g)
  sides_on None None w y n = absurd (n refl refl)
  sides_on {p} (Some f) None w y n = sides _ _ (stays q is_alike w (one_on q is_alike p f None w.at y))
      (stays q is_other w (one_on q is_other p f None w.at y))
      (grows q is_lone w (one_on q is_lone p f None w.at y)) (stays q is_lone (swapped w) refl)
  sides_on {p} None (Some g) w y n = sides _ _ (stays q is_alike w refl) (stays q is_other w refl)
      (stays q is_lone w refl)
      (grows q is_lone (swapped w) (one_on q is_lone p g None w.at_others y))
  sides_on {p} {F} {G} (Some f) (Some g) w y n = elim (cases_Bool (same_fact f g)) [
    | inl u ↦ rw u (sides _ _
        (grows q is_alike w (one_on q is_alike p f (Some g) w.at y ∙ ap (λ b. cond b 1 0) u))
        (stays q is_other w (one_on q is_other p f (Some g) w.at y ∙ ap (λ b. cond (not b) 1 0) u))
        lone lone_back)
    | inr u ↦ rw u (sides _ _
        (stays q is_alike w (one_on q is_alike p f (Some g) w.at y ∙ ap (λ b. cond b 1 0) u))
        (grows q is_other w (one_on q is_other p f (Some g) w.at y ∙ ap (λ b. cond (not b) 1 0) u))
        lone lone_back)
  ]
    where
      lone : capped (tally q is_lone (F ++ f ∷ []) (G ++ g ∷ [])) ≡ capped (tally q is_lone F G)
      lone = stays q is_lone w (one_on q is_lone p f (Some g) w.at y)

      lone_back : capped (tally q is_lone (G ++ g ∷ []) (F ++ f ∷ [])) ≡ capped (tally q is_lone G F)
      lone_back = stays q is_lone (swapped w) (one_on q is_lone p g (Some f) w.at_others y)

-- the row of an object, by what both have at the address of its information
rows_same : (r v : Row) → r.key ≡ v.key → r.information ≡ v.information → r.symbols ≡ v.symbols
    → r ≡ v
rows_same r v a b c = λ i. record { key = a i; information = b i; symbols = c i }

off : (a b : Bool) → a ≡ false → (a && b) ≡ false
off false b e = refl
off true b e = absurd cc

side_is : (f g : Option Fact) → (f ≡ None → g ≡ None → ⊥) → side_at f g ≡ Some (side_of f g)
side_is None None n = absurd (n refl refl)
side_is (Some f) None n = refl
side_is None (Some g) n = refl
side_is (Some f) (Some g) n = refl

-- addresses with another key, or another part
key_apart : (p a : Address) → same_key a.key p.key ≡ false → same_address p a ≡ false
key_apart p a n = elim (cases_Bool (same_address p a)) [
  | inl t ↦ absurd (false≢true (sym n ∙ ap (λ k. same_key a.key k) (ap (λ x. x.key) (address_same p a t))
      ∙ key_itself a.key))
  | inr m ↦ m
]

part_apart : (p : Address) (id : SymbolId) → p.part ≡ SymbolPart id
    → same_address p (info_address p.key) ≡ false
part_apart p id i = elim (cases_Bool _) [
  | inl t ↦ absurd (no_part (sym i ∙ ap (λ x. x.part) (address_same p (info_address p.key) t)))
  | inr m ↦ m
]
  where
    no_part : SymbolPart id ≡ InfoPart → ⊥
    no_part e = cc

pub at_information : (p : Address) → p.part ≡ InfoPart → p ≡ info_address p.key
at_information p i = λ j. record { key = p.key; part = i j }

module _ {p : Address} {F G : List Fact} {f g : Option Fact} (w : IsNext p F G f g) where
  -- what both have at other addresses stays
  side_off : (a : Address) → same_address p a ≡ false → side_at (fact_at (F ++ option_list f) a)
      (fact_at (G ++ option_list g) a) ≡ side_at (fact_at F a) (fact_at G a)
  side_off a n = rw (value_off p a F f w.at n, value_off p a G g w.at_others n)

  side_here : (f ≡ None → g ≡ None → ⊥) → side_at (fact_at (F ++ option_list f) p)
      (fact_at (G ++ option_list g) p) ≡ Some (side_of f g)
  side_here n = rw (value_here p F f w.early w.at, value_here p G g w.early_others w.at_others)
      (side_is f g n)

  -- the rows of other objects stay
  pub told_off : (k : Key) → same_key k p.key ≡ false
      → told_of (F ++ option_list f) (G ++ option_list g) k ≡ told_of F G k
  told_off k n = rows_same _ _ refl (side_off (info_address k) (key_apart p _ n))
      (sides_off (is_symbol_of k) w (off (same_key k p.key) (not (is_info p.part)) n))

  -- the row of this object counts one more
  pub told_here : (f ≡ None → g ≡ None → ⊥) → told_of (F ++ option_list f) (G ++ option_list g)
      p.key ≡ counted (told_of F G p.key) record { at = p; side = side_of f g }
  told_here n = by_part p.part refl
    where
      on : {x : Part} → p.part ≡ x → is_symbol_of p.key p ≡ not (is_info x)
      on i = ap (λ b. b && not (is_info p.part)) (key_itself p.key) ∙ ap (λ x. not (is_info x)) i

      by_part : (x : Part) → p.part ≡ x
          → told_of (F ++ option_list f) (G ++ option_list g) p.key
          ≡ counted_at (told_of F G p.key) p.part (side_of f g)
      by_part InfoPart i = rw i (rows_same _ _ refl
          (subst (λ a. side_at (fact_at (F ++ option_list f) a) (fact_at (G ++ option_list g) a)
          ≡ Some (side_of f g)) (at_information p i) (side_here n))
          (sides_off (is_symbol_of p.key) w (on i)))
      by_part (SymbolPart id) i = rw i (rows_same _ _ refl
          (side_off (info_address p.key) (part_apart p id i))
          (sides_on (is_symbol_of p.key) f g w (on i) n))

-- of an object that is not named nothing is counted
pub or_none : (a b : Bool) → (a || b) ≡ false → (a ≡ false) × (b ≡ false)
or_none false b e = (refl, e)
or_none true b e = absurd cc

none_counted : (k : Key) (r : Option Fact → Fact → Bool) (F G : List Fact)
    → is_named k F ≡ false → tally (is_symbol_of k) r F G ≡ 0
none_counted k r [] G n = refl
none_counted k r (f ∷ F) G n =
    let h = or_none (same_key k (address f).key) (is_named k F) n in
    count_first _ f F ∙ ap (λ b. cond ((b && not (is_info (address f).part)) && r (fact_at G (address f)) f) 1 0
    + tally (is_symbol_of k) r F G) h.0
    ∙ zero_plus (tally (is_symbol_of k) r F G)
    ∙ none_counted k r F G h.1

pub none_there : (a : Address) (F : List Fact) → is_named a.key F ≡ false → fact_at F a ≡ None
none_there a [] n = fact_at-nil a
none_there a (f ∷ F) n =
    let h = or_none _ _ n in
    fact_at-elsewhere f F a (key_apart _ a h.0) ∙ none_there a F h.1

zero_capped : (n : ℕ) → n ≡ 0 → capped n ≡ 0
zero_capped n e = omega arith

pub told_new : (k : Key) (F G : List Fact) → is_named k F ≡ false → is_named k G ≡ false
    → told_of F G k ≡ new_row k
told_new k F G m n =
    rows_same _ _ refl (rw (none_there (info_address k) F m, none_there (info_address k) G n))
    (sides _ _ (zero is_alike F G m) (zero is_other F G m) (zero is_lone F G m) (zero is_lone G F n))
  where
    zero : (r : Option Fact → Fact → Bool) (F G : List Fact) → is_named k F ≡ false
        → capped (tally (is_symbol_of k) r F G) ≡ 0
    zero r F G n = zero_capped _ (none_counted k r F G n)

-- counts of few facts are told as they are
small : (n m : ℕ) → n ≤ m → m < 2 ^ 64 → capped n ≡ n
small n m l h = omega arith

small_tally : (q : Address → Bool) (r : Option Fact → Fact → Bool) (F G : List Fact)
    → length F < 2 ^ 64 → capped (tally q r F G) ≡ tally q r F G
small_tally q r F G h = small _ _ (count_by-le-length _ F) h

pub told_few : (F G : List Fact) (k : Key) → length F < 2 ^ 64 → length G < 2 ^ 64
    → told_of F G k ≡ row_of F G k
told_few F G k m n =
    let q = is_symbol_of k in
    rows_same _ _ refl refl (sides _ _ (small_tally q is_alike F G m) (small_tally q is_other F G m)
    (small_tally q is_lone F G m) (small_tally q is_lone G F n))
