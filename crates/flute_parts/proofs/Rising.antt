-- Lists of facts at rising addresses (specs/Facts: IsRising).
use Rattle.std.proofs.Common.{rules}
use Rattle.std.proofs.Common.{◌≡◌, false, List, [], ◌∷◌, Some, None, refl, sym, ap}
use Rattle.std.proofs.Common.{◌∙◌, subst, inl, inr}
use Rattle.std.specs.Prelude.{Contains}
use Rattle.std.specs.declared.cmp.Ordering.{Ordering}
use Rattle.std.specs.declared.cmp.Ordering.TheVariants.{Less, Equal, Greater}
use Rattle.std.specs.Ordering.{is_eq, ordering_reverse}
use Rattle.std.proofs.lemmas.Bool.{cases_Bool}
use Rattle.std.proofs.lemmas.Option.{same_Some, none-some}
use Rattle.flute_parts.specs.declared.address.Address.{Address}
use Rattle.flute_parts.specs.declared.fact.Fact.{Fact}
use Rattle.flute_parts.specs.Order.{address_cmp, same_address}
use Rattle.flute_parts.specs.Addresses.{address}
use Rattle.flute_parts.specs.Facts.{fact_at, Same, StandAfter, IsRising}
use Rattle.flute_parts.specs.Equality.{address_same}
use Rattle.flute_parts.specs.Totality.{address_total}
use Rattle.flute_parts.proofs.Facts.{Member, Member-from, fact_at-nil, fact_at-here}
use Rattle.flute_parts.proofs.Facts.{fact_at-elsewhere}

-- facts after an address are after each address before it
pub StandAfter-before : (a b : Address) (F : List Fact) → address_cmp a b ≡ Less
    → StandAfter b F → StandAfter a F
StandAfter-before a b [] l s = tt
StandAfter-before a b (f ∷ F) l s = (address_total.trans a b _ l s.0, StandAfter-before a b F l s.1)

-- the values of rising lists

before_is_other : (a b : Address) → address_cmp a b ≡ Less → same_address b a ≡ false
before_is_other a b l = ap is_eq (address_total.antisymm b a ∙ ap ordering_reverse l)

-- facts after an address have no value at it
pub fact_at-after : (a : Address) (F : List Fact) → StandAfter a F → fact_at F a ≡ None
fact_at-after a [] s = fact_at-nil a
fact_at-after a (f ∷ F) s =
    fact_at-elsewhere f F a (before_is_other a _ s.0) ∙ fact_at-after a F s.1

fact_at-first : (f : Fact) (F : List Fact) → StandAfter (address f) F
    → fact_at (f ∷ F) (address f) ≡ Some f
fact_at-first f F s = fact_at-here f F (fact_at-after _ F s)

pub member-after : (a : Address) (f : Fact) (F : List Fact) → StandAfter a F → Member f F
    → address_cmp a (address f) ≡ Less
unfolding Member
member-after a f [] s m = absurd m
member-after a f (g ∷ F) s (inl e) = ap (λ x. address_cmp a (address x)) e ∙ s.0
member-after a f (g ∷ F) s (inr m) = member-after a f F s.1 m

-- the value of a rising list at the address of one of its facts is that fact
fact_at-rising : (F : List Fact) (f : Fact) → IsRising F → Member f F
    → fact_at F (address f) ≡ Some f
unfolding Member
fact_at-rising [] f r m = absurd m
fact_at-rising (g ∷ F) f r (inl e) = search (rules, fact_at-first)
fact_at-rising (g ∷ F) f r (inr m) = search
    (rules, fact_at-elsewhere, member-after, fact_at-rising F f r.1 m)

pub rising_tells : (F : List Fact) (f : Fact) → IsRising F → Contains F f
    → fact_at F (address f) ≡ Some f
rising_tells F f r c = fact_at-rising F f r (Member-from F f c)

pub rising_has_one : (F : List Fact) (f g : Fact) → IsRising F → Contains F f → Contains F g
    → address f ≡ address g → f ≡ g
rising_has_one F f g r c d e =
    same_Some f g (sym (rising_tells F f r c) ∙ ap (fact_at F) e ∙ rising_tells F g r d)

-- after the first fact, which both lists begin with, their values are the same
rest_same : (f : Fact) (F G : List Fact) → StandAfter (address f) F → StandAfter (address f) G
    → ((a : Address) → fact_at (f ∷ F) a ≡ fact_at (f ∷ G) a) → (a : Address)
    → fact_at F a ≡ fact_at G a
rest_same f F G p q h a = elim (cases_Bool (same_address (address f) a)) [
  | inl t ↦ let e = address_same (address f) a t in
      rw e at (fact_at-after (address f) F p ∙ sym (fact_at-after (address f) G q))
  | inr n ↦ sym (fact_at-elsewhere f F a n) ∙ h a ∙ fact_at-elsewhere f G a n
]

-- a list that begins later has no value at the address of the first fact
first_alone : (f g : Fact) (F G : List Fact) → IsRising (f ∷ F) → IsRising (g ∷ G) → address_cmp
    (address f) (address g) ≡ Less → fact_at (f ∷ F) (address f) ≡ fact_at (g ∷ G) (address f) → ⊥
first_alone f g F G r s l h = search
    (rules, none-some, fact_at-after, StandAfter-before, fact_at-first)

-- two rising lists with the same value at each address are one
rising_same : (F G : List Fact) → IsRising F → IsRising G
    → ((a : Address) → fact_at F a ≡ fact_at G a) → F ≡ G
rising_same [] [] r s h = refl
rising_same [] (g ∷ G) r s h =
    absurd (none-some g (sym (fact_at-nil _) ∙ h _ ∙ fact_at-first g G s.0))
rising_same (f ∷ F) [] r s h = absurd
    (none-some f (sym (fact_at-nil _) ∙ sym (h _) ∙ fact_at-first f F r.0))
rising_same (f ∷ F) (g ∷ G) r s h =
    by_order (rising_same F G r.1 s.1) _ refl
  where
    by_order : (((a : Address) → fact_at F a ≡ fact_at G a) → F ≡ G) → (o : Ordering)
        → address_cmp (address f) (address g) ≡ o → f ∷ F ≡ g ∷ G
    by_order tail Less l = absurd (first_alone f g F G r s l (h _))
    by_order tail Greater l =
        let m =
        address_total.antisymm (address g) (address f) ∙ ap ordering_reverse l in
        absurd (first_alone g f G F s r m (sym (h (address g))))
    by_order tail Equal l =
        let p = address_same (address f) (address g) (ap is_eq l) in
        let e : f ≡ g =
        same_Some f g (sym (fact_at-first f F r.0) ∙ h (address f)
        ∙ ap (fact_at (g ∷ G)) p ∙ fact_at-first g G s.0) in
        let s' = rw (← e) at s.0 in
        let h' : (a : Address) → fact_at (f ∷ F) a ≡ fact_at (f ∷ G) a =
        λ a. h a ∙ ap (λ x. fact_at (x ∷ G) a) (sym e) in
        let t = tail (rest_same f F G r.0 s' h') in
        λ i. e i ∷ t i

pub rising_unique : (F G : List Fact) → IsRising F → IsRising G → Same F G → F ≡ G
rising_unique F G r s h = rising_same F G r s h.each
