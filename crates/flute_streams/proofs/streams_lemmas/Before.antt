-- Facts that stand before an address (specs/Behind).
use Rattle.flute_streams.proofs.Common.{◌≡◌, false, List, [], ◌∷◌, ◌++◌, Option, Some, None}
use Rattle.flute_streams.proofs.Common.{ap, sym, ◌∙◌, address, Address, Fact, address_of}
use Rattle.flute_streams.proofs.Common.{address_same, address_total, Equal}
use Rattle.flute_streams.proofs.Common.{fact_at, fact_at-append, fact_at-elsewhere, fact_at-nil}
use Rattle.flute_streams.proofs.Common.{joined, IsRising, StandAfter, address_cmp, same_address}
use Rattle.flute_streams.proofs.Common.{Less, Greater}
use Rattle.std.proofs.Common.{is_eq}
use Rattle.std.specs.Ordering.{ordering_reverse}
use Rattle.flute_streams.specs.Behind.{Behind, StandBefore}

pub back : (a b : Address) → address_cmp a b ≡ Less → same_address b a ≡ false
back a b l = ap is_eq (address_total.antisymm b a ∙ ap ordering_reverse l)

pub turned : (a b : Address) → address_cmp a b ≡ Greater → address_cmp b a ≡ Less
turned a b l = address_total.antisymm b a ∙ ap ordering_reverse l

-- nothing is told there by facts before an address
pub before_none : (a : Address) (F : List Fact) → StandBefore a F → fact_at F a ≡ None
before_none a [] s = fact_at-nil a
before_none a (f ∷ F) s = fact_at-elsewhere f F a (ap is_eq s.0) ∙ before_none a F s.1

pub before_value : (a : Address) (F R : List Fact) → StandBefore a F
    → fact_at (F ++ R) a ≡ fact_at R a
before_value a F R s = fact_at-append F R a ∙ ap (λ x. joined a x (fact_at R a)) (before_none a F s)

-- they stand before any later address too
pub before_later : (a b : Address) (F : List Fact) → address_cmp a b ≡ Less → StandBefore a F
    → StandBefore b F
before_later a b [] l s = tt
before_later a b (f ∷ F) l s = (address_total.trans _ a b s.0 l, before_later a b F l s.1)

pub before_more : (a : Address) (f : Fact) (F : List Fact) → address_cmp (address f) a ≡ Less
    → StandBefore a F → StandBefore a (F ++ f ∷ [])
before_more a f [] l s = (l, tt)
before_more a f (x ∷ F) l s = (s.0, before_more a f F l s.1)

pub behind_new : (held : Option Fact) → Behind held []
behind_new None = tt
behind_new (Some f) = tt

-- of rising facts
pub rising_after : (F : List Fact) (x : Fact) (R : List Fact) → IsRising ((F ++ x ∷ []) ++ R)
    → StandAfter (address x) R
rising_after [] x R r = r.0
rising_after (f ∷ F) x R r = rising_after F x R r.1

last_after : (a : Address) (F : List Fact) (f : Fact) → StandAfter a (F ++ f ∷ [])
    → address_cmp a (address f) ≡ Less
last_after a [] f s = s.0
last_after a (g ∷ F) f s = last_after a F f s.1

pub rising_before : (F : List Fact) (f : Fact) → IsRising (F ++ f ∷ []) → StandBefore (address f) F
rising_before [] f r = tt
rising_before (g ∷ F) f r = (last_after _ F f r.0, rising_before F f r.1)

-- two places that compare equal are one
pub same_place : {a p : Address} (held other : Option Fact) → Some a ≡ address_of held
    → Some p ≡ address_of other → address_cmp a p ≡ Equal → address_of held ≡ address_of other
same_place {a} {p} held other e h o = sym e ∙ ap Some (address_same a p (ap is_eq o)) ∙ h
