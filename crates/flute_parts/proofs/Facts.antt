-- Lemmas on fact_at (specs/Facts): the value of a list of facts, in any order and grouping.
use Rattle.std.proofs.Common.{rules}
use Rattle.std.proofs.Common.{◌≡◌, ℕ, zero, suc, ◌<◌, false, List, [], ◌∷◌}
use Rattle.std.proofs.Common.{◌++◌, length, get_or, Option, Some, None, refl, sym, ap}
use Rattle.std.proofs.Common.{◌∙◌, inl, inr, ◌⊎◌, arith}
use Rattle.std.specs.Prelude.{Contains}
use Rattle.std.proofs.lemmas.Bool.{cases_Bool}
use Rattle.flute_parts.specs.declared.address.Address.{Address}
use Rattle.flute_parts.specs.declared.fact.Fact.{Fact}
use Rattle.flute_parts.specs.Order.{same_address}
use Rattle.flute_parts.specs.Addresses.{address}
use Rattle.flute_parts.specs.Facts.{fact_at, Same, Below, SameMembers}
use Rattle.flute_parts.specs.Equality.{address_same}
use Rattle.flute_parts.proofs.Joined.{joined, joined-comm, joined-assoc, joined-itself, joined-none}
use Rattle.flute_parts.proofs.Joined.{fact_at-append}

-- membership

unfoldable pub Member : Fact → List Fact → Type 0
Member f [] = ⊥
Member f (g ∷ F) = (f ≡ g) ⊎ Member f F

Member-at : (F : List Fact) (f : Fact) (k : ℕ) → k < length F → get_or F k f ≡ f → Member f F
unfolding Member
Member-at [] f k l e = absurd (omega arith)
Member-at (g ∷ F) f zero l e = inl (sym e)
Member-at (g ∷ F) f (suc k) l e = inr (Member-at F f k (omega arith) e)

pub Member-from : (F : List Fact) (f : Fact) → Contains F f → Member f F
Member-from F f c = Member-at F f c.0 c.1 c.2

pub Contains-from : (F : List Fact) (f : Fact) → Member f F → Contains F f
unfolding Member
Contains-from [] f m = absurd m
Contains-from (g ∷ F) f (inl e) = (0, omega arith, sym e)
Contains-from (g ∷ F) f (inr m) = let c = Contains-from F f m in (suc c.0, omega (arith, c.1), c.2)

-- the value at an address, one fact at a time

abbrev pub alone : Address → Fact → Option Fact
alone a f = fact_at (f ∷ []) a

pub fact_at-cons : (f : Fact) (F : List Fact) (a : Address)
    → fact_at (f ∷ F) a ≡ joined a (alone a f) (fact_at F a)
fact_at-cons f F a = fact_at-append _ F a

pub fact_at-nil : (a : Address) → fact_at [] a ≡ None
unfolding fact_at
fact_at-nil a = refl

-- a member adds nothing
pub fact_at-member : (f : Fact) (F : List Fact) (a : Address) → Member f F
    → joined a (alone a f) (fact_at F a) ≡ fact_at F a
unfolding Member
fact_at-member f [] a m = absurd m
fact_at-member f (g ∷ F) a (inl e) = ap (λ x. joined a (alone a x) (fact_at (g ∷ F) a)) e ∙ ap
    (joined a (alone a g)) (fact_at-cons g F a) ∙ sym (joined-assoc a (alone a g) (alone a g) _) ∙
    ap (λ x. joined a x (fact_at F a)) (joined-itself a (alone a g)) ∙ sym (fact_at-cons g F a)
fact_at-member f (g ∷ F) a (inr m) = ap (joined a (alone a f)) (fact_at-cons g F a) ∙ sym
    (joined-assoc a (alone a f) (alone a g) (fact_at F a)) ∙ ap (λ x. joined a x (fact_at F a))
    (joined-comm a (alone a f) (alone a g)) ∙ joined-assoc a (alone a g) (alone a f) (fact_at F a) ∙
    ap (joined a (alone a g)) (fact_at-member f F a m) ∙ sym (fact_at-cons g F a)

-- facts that are all in G add nothing to it
pub fact_at-members : (F G : List Fact) (a : Address) → ((f : Fact) → Member f F → Member f G)
    → joined a (fact_at F a) (fact_at G a) ≡ fact_at G a
unfolding Member
fact_at-members [] G a h = ap (λ x. joined a x (fact_at G a)) (fact_at-nil a)
fact_at-members (f ∷ F) G a h = ap (λ x. joined a x (fact_at G a)) (fact_at-cons f F a) ∙
    joined-assoc a (alone a f) _ _ ∙ ap (joined a (alone a f))
    (fact_at-members F G a (λ g m. h g (inr m))) ∙ fact_at-member f G a (h f (inl refl))

pub Same-members : (F G : List Fact) → SameMembers F G → Same F G
Same-members F G h = record {
  each = λ a.
      sym (fact_at-members G F a (λ f m. Member-from F f ((h f).1 (Contains-from G f m))))
      ∙ joined-comm a _ (fact_at F a)
      ∙ fact_at-members F G a (λ f m. Member-from G f ((h f).0 (Contains-from F f m)));
}

pub Same-swap : (F G : List Fact) → Same (F ++ G) (G ++ F)
Same-swap F G = search (rules, fact_at-append, joined-comm)

pub Same-twice : (F : List Fact) → Same (F ++ F) F
Same-twice F = search (rules, fact_at-append, joined-itself)

-- the laws of `Same` and `Below`

pub Same-itself : (F : List Fact) → Same F F
Same-itself F = search rules

pub Same-sym : (F G : List Fact) → Same F G → Same G F
Same-sym F G h = search rules

pub Same-trans : (F G H : List Fact) → Same F G → Same G H → Same F H
Same-trans F G H h k = search rules

pub Same-append : (F G H K : List Fact) → Same F G → Same H K → Same (F ++ H) (G ++ K)
Same-append F G H K p q = search (rules, fact_at-append)

-- the value of the first joined with that of the second is that of the second
below : (F G : List Fact) → Below F G → (a : Address)
    → joined a (fact_at F a) (fact_at G a) ≡ fact_at G a
below F G h a = sym (fact_at-append F G a) ∙ h.each a

above : (F G : List Fact)
    → ((a : Address) → joined a (fact_at F a) (fact_at G a) ≡ fact_at G a) → Below F G
above F G h = search (rules, fact_at-append)

pub Below-itself : (F : List Fact) → Below F F
Below-itself F = above F F (λ a. joined-itself a _)

pub Below-trans : (F G H : List Fact) → Below F G → Below G H → Below F H
Below-trans F G H p q = above F H (λ a. ap (joined a (fact_at F a)) (sym (below G H q a)) ∙ sym
    (joined-assoc a (fact_at F a) _ _) ∙ ap (λ x. joined a x (fact_at H a))
    (below F G p a) ∙ below G H q a)

pub Below-append : (F G H K : List Fact) → Below F G → Below H K → Below (F ++ H) (G ++ K)
Below-append F G H K p q = above _ _ (λ a.
    ap (λ x. joined a x (fact_at (G ++ K) a)) (fact_at-append F H a)
    ∙ ap (joined a (joined a (fact_at F a) (fact_at H a))) (fact_at-append G K a)
    ∙ crossed a (fact_at F a) (fact_at H a) (fact_at G a) (fact_at K a)
    ∙ ap (λ x. joined a x (joined a (fact_at H a) (fact_at K a))) (below F G p a)
    ∙ ap (joined a _) (below H K q a)
    ∙ sym (fact_at-append G K a))
  where
    crossed : (a : Address) (w x y z : Option Fact)
        → joined a (joined a w x) (joined a y z) ≡ joined a (joined a w y) (joined a x z)
    crossed a w x y z =
        joined-assoc a w x _
        ∙ ap (joined a w) (sym (joined-assoc a x y z)
        ∙ ap (λ v. joined a v z) (joined-comm a x y) ∙ joined-assoc a y x z)
        ∙ sym (joined-assoc a w y _)

pub Same-from_Below : (F G : List Fact) → Below F G → Below G F → Same F G
Same-from_Below F G p q = record {
  each = λ a. sym (below G F q a) ∙ joined-comm a _ (fact_at F a) ∙ below F G p a;
}

pub Below-from_Same : (F G : List Fact) → Same F G → Below F G
Below-from_Same F G h = above F G
    (λ a. ap (λ x. joined a x (fact_at G a)) (h.each a) ∙ joined-itself a _)

-- which addresses are named

-- some fact of the list is at the address
abbrev pub Names : List Fact → Address → Type 0
Names G a = (g : Fact) × Member g G × (address g ≡ a)

pub alone-here : (f : Fact) → alone (address f) f ≡ Some f
unfolding fact_at
alone-here f = search rules

pub alone-elsewhere : (f : Fact) (a : Address) → same_address (address f) a ≡ false
    → alone a f ≡ None
unfolding fact_at
alone-elsewhere f a e = search rules

joined-some : (a : Address) (f : Fact) (y : Option Fact) → joined a (Some f) y ≡ None → ⊥
joined-some x0 x1 x2 x3 = search rules

pub fact_at-member_some : (f : Fact) (F : List Fact) → Member f F → fact_at F (address f) ≡ None → ⊥
fact_at-member_some f F m e = joined-some _ f _ (sym
    (ap (λ x. joined (address f) x (fact_at F (address f))) (alone-here f)) ∙ fact_at-member f F
    _ m ∙ e)

-- at an address without a fact, the value is `None`
pub fact_at-some_named : (F : List Fact) (a : Address) → Names F a ⊎ (fact_at F a ≡ None)
unfolding Member
fact_at-some_named [] a = inr (fact_at-nil a)
fact_at-some_named (f ∷ F) a = elim (cases_Bool (same_address (address f) a)) [
  | inl e ↦ inl (f, inl refl, address_same _ a e)
  | inr e ↦ elim (fact_at-some_named F a) [
    | inl n ↦ inl (n.0, inr n.1, n.2)
    | inr d ↦ inr (fact_at-cons f F a
        ∙ ap (λ x. joined a x (fact_at F a)) (alone-elsewhere f a e) ∙ d)
  ]
]

pub Names-below : (F G : List Fact) → Below F G → (f : Fact) → Member f F → Names G (address f)
Names-below F G h f m = elim (fact_at-some_named G (address f)) [
  | inl n ↦ n
  | inr e ↦ absurd (fact_at-member_some f F m
      (sym (joined-none _ _) ∙ ap (joined _ _) (sym e) ∙ below F G h _ ∙ e))
]

pub alone-at : (f : Fact) (a : Address) → address f ≡ a → alone a f ≡ Some f
alone-at f a e = search (rules, alone-here)

-- a fact and others, at its address and elsewhere
pub fact_at-here : (f : Fact) (F : List Fact) → fact_at F (address f) ≡ None
    → fact_at (f ∷ F) (address f) ≡ Some f
fact_at-here f F e = search (rules, fact_at-cons, joined-none, alone-here)

pub fact_at-elsewhere : (f : Fact) (F : List Fact) (a : Address)
    → same_address (address f) a ≡ false → fact_at (f ∷ F) a ≡ fact_at F a
fact_at-elsewhere f F a e = search (rules, fact_at-cons, alone-elsewhere)
