-- The value of a list of facts at an address, by the facts that the list contains.
use Rattle.std.proofs.Common.{rules}
use Rattle.std.proofs.Common.{◌≡◌, true, false, List, [], ◌∷◌, Option, Some, None, refl}
use Rattle.std.proofs.Common.{sym, ap, ◌∙◌, subst, inl, inr, ◌⊎◌}
use Rattle.std.specs.Prelude.{Contains}
use Rattle.std.proofs.lemmas.Bool.{cases_Bool}
use Rattle.flute_parts.specs.declared.key.Key.{Key}
use Rattle.flute_parts.specs.declared.address.Part.{Part}
use Rattle.flute_parts.specs.declared.address.Address.{Address}
use Rattle.flute_parts.specs.declared.fact.Fact.{Fact}
use Rattle.flute_parts.specs.Order.{same_address}
use Rattle.flute_parts.specs.Addresses.{address}
use Rattle.flute_parts.specs.Facts.{same_fact, conflict_in, conflict_at, fact_at}
use Rattle.flute_parts.specs.Equality.{fact_same, address_same}
use Rattle.flute_parts.proofs.Joined.{joined, joined-assoc, joined-itself, joined-same}
use Rattle.flute_parts.proofs.Joined.{joined-apart, joined-conflict_left}
use Rattle.flute_parts.proofs.Facts.{Member, Member-from, Contains-from, alone, alone-at}
use Rattle.flute_parts.proofs.Facts.{alone-elsewhere, fact_at-nil, fact_at-cons, fact_at-member}
use Rattle.flute_parts.proofs.Facts.{fact_at-member_some, fact_at-some_named}

pub fact_at-none : (F : List Fact) (a : Address)
    → ((f : Fact) → Contains F f → address f ≡ a → ⊥) → fact_at F a ≡ None
fact_at-none F a h = search (rules, fact_at-some_named, Contains-from)

pub none-at : (F : List Fact) (a : Address) → fact_at F a ≡ None → (f : Fact) → Contains F f
    → address f ≡ a → ⊥
none-at F a e f m p = fact_at-member_some f F (Member-from F f m) (rw p e)

one_or_none : (F : List Fact) (a : Address) (f : Fact)
    → ((g : Fact) → Member g F → address g ≡ a → g ≡ f)
    → (fact_at F a ≡ None) ⊎ (fact_at F a ≡ Some f)
unfolding Member
one_or_none [] a f h = inl (fact_at-nil a)
one_or_none (g ∷ F) a f h = elim (cases_Bool (same_address (address g) a)) [
  | inr e ↦ elim (one_or_none F a f (λ k m. h k (inr m))) [
    | inl n ↦ inl (fact_at-cons g F a ∙ ap (λ x. joined a x (fact_at F a))
        (alone-elsewhere g a e) ∙ n)
    | inr s ↦ inr (fact_at-cons g F a ∙ ap (λ x. joined a x (fact_at F a))
        (alone-elsewhere g a e) ∙ s)
  ]
  | inl e ↦ let p = address_same _ a e in
      let q = h g (inl refl) p in
      let here = fact_at-cons g F a ∙ ap (λ x. joined a x (fact_at F a))
      (alone-at g a p ∙ ap Some q) in elim (one_or_none F a f (λ k m. h k (inr m))) [
        | inl n ↦ inr (here ∙ ap (joined a (Some f)) n)
        | inr s ↦ inr (here ∙ ap (joined a (Some f)) s ∙ joined-itself a _)
      ]
]

pub fact_at-one : (F : List Fact) (a : Address) (f : Fact) → Contains F f → address f ≡ a
    → ((g : Fact) → Contains F g → address g ≡ a → g ≡ f) → fact_at F a ≡ Some f
fact_at-one F a f m p h = elim (one_or_none F a f (λ g n q. h g (Contains-from F g n) q)) [
  | inl n ↦ absurd (none-at F a n f m p)
  | inr s ↦ s
]

conflict_stays : (a : Address) (y : Option Fact)
    → joined a (Some (conflict_at a)) y ≡ Some (conflict_at a)
conflict_stays x0 x1 = search (rules, joined-conflict_left)

pub fact_at-two : (F : List Fact) {a : Address} {f g : Fact} → Contains F f → Contains F g → address
    f ≡ a → address g ≡ a → (f ≡ g → ⊥) → fact_at F a ≡ Some (conflict_at a)
fact_at-two F {a = a} {f = f} {g = g} m n p q h =
    let apart : same_fact f g ≡ false = elim (cases_Bool (same_fact f g)) [
      | inl e ↦ absurd (h (fact_same f g e))
      | inr e ↦ e
    ] in sym (fact_at-member f F a (Member-from F f m)) ∙ ap (joined a (alone a f))
    (sym (fact_at-member g F a (Member-from F g n))) ∙ sym
    (joined-assoc a (alone a f) (alone a g) _) ∙ ap
    (λ x. joined a (joined a x (alone a g)) (fact_at F a)) (alone-at f a p) ∙ ap
    (λ x. joined a (joined a (Some f) x) (fact_at F a)) (alone-at g a q) ∙ ap
    (λ x. joined a (Some x) (fact_at F a)) (joined-apart a f g apart) ∙ conflict_stays a _

-- the value at an address is a fact of that address

conflict-address : (key : Key) (part : Part)
    → address (conflict_in key part) ≡ record { key = key; part = part }
conflict-address x0 x1 = search rules

abbrev Stands : Address → Option Fact → Type 0
Stands a None = Unit {0}
Stands a (Some f) = address f ≡ a

joined-stands : (a : Address) (x y : Option Fact) → Stands a x → Stands a y
    → Stands a (joined a x y)
joined-stands a None y p q = q
joined-stands a (Some f) None p q = p
joined-stands a (Some f) (Some g) p q = elim (cases_Bool (same_fact f g)) [
  | inl e ↦ ap address (joined-same a f g (fact_same f g e)) ∙ p
  | inr e ↦ ap address (joined-apart a f g e) ∙ conflict-address _ _
]

fact_at-stands : (F : List Fact) (a : Address) → Stands a (fact_at F a)
fact_at-stands [] a = rw (fact_at-nil a) tt
fact_at-stands (f ∷ F) a =
    subst (Stands a) (sym (fact_at-cons f F a))
    (joined-stands a _ _
    (alone_stands (cases_Bool _)) (fact_at-stands F a))
  where
    alone_stands : ((same_address (address f) a ≡ true)
        ⊎ (same_address (address f) a ≡ false)) → Stands a (alone a f)
    alone_stands (inl e) = let p =
        address_same _ a e in rw (alone-at f a p) p
    alone_stands (inr e) = rw (alone-elsewhere f a e) tt

pub fact_at-address : (F : List Fact) (a : Address) (f : Fact) → fact_at F a ≡ Some f
    → address f ≡ a
fact_at-address F a f e = rw e at (fact_at-stands F a)

pub fact_at-conflict : (F : List Fact) (a : Address) → Contains F (conflict_at a)
    → fact_at F a ≡ Some (conflict_at a)
fact_at-conflict F a m = sym (fact_at-member _ F a (Member-from F _ m)) ∙ ap
    (λ x. joined a x (fact_at F a)) (alone-at _ a (conflict-address _ _)) ∙ conflict_stays a _
