-- The facts of one object among the facts of a journal.
use Rattle.std.proofs.lemmas.Grind.{common_steps}
use Rattle.std.proofs.Common.{rules}
use Rattle.std.proofs.Common.{◌≡◌, false, List, [], ◌∷◌, ◌++◌, inl, inr}
use Rattle.std.proofs.Common.{refl, ◌∙◌, subst, append_assoc, arith}
use Rattle.std.specs.Prelude.{Contains, ◌==◌, ◌&&◌}
use Rattle.std.specs.List.{AllByRecursion}
use Rattle.std.specs.declared.cmp.Ordering.TheVariants.{Less, Greater}
use Rattle.std.specs.Ordering.{eq_by_cmp}
use Rattle.std.proofs.lemmas.Bool.{false≢true}
use Rattle.std.proofs.lemmas.List.Elements.{Contains-append_right, Contains-append_cases}
use Rattle.std.proofs.lemmas.Option.{none-some}
use Rattle.flute_parts.specs.Addresses.{address, info_address}
use Rattle.flute_parts.specs.Equality.{key_same, address_itself}
use Rattle.flute_parts.specs.Facts.{StandAfter, IsRising}
use Rattle.flute_parts.specs.Order.{object_cmp, key_cmp, address_cmp}
use Rattle.flute_parts.specs.Totality.{key_total}
use Rattle.flute_parts.specs.declared.address.Part.TheVariants.{Info as InfoPart}
use Rattle.flute_parts.specs.declared.address.Part.TheVariants.{Symbol as SymbolPart}
use Rattle.flute_parts.specs.declared.fact.Fact.{Fact}
use Rattle.flute_parts.specs.declared.fact.Fact.TheVariants.{InfoConflict}
use Rattle.flute_parts.specs.declared.key.Key.{Key}
use Rattle.flute_parts.specs.declared.symbol_id.SymbolId.{SymbolId}
use Rattle.flute_parts.proofs.Public.{before-next, fact_at-none, key-before, Member, member-after}
use Rattle.flute_parts.proofs.Public.{Member-from, rising-front, rising_tells, tied}
use Rattle.flute_store.specs.Found.{IsUnheard}
use Rattle.flute_store.specs.GapAnswers.{LacksInformation, HasConflict}
use Rattle.flutejoin.specs.ObjectWriters.{Settled, IsOther}

pub rising-back : (F G : List Fact) → IsRising (F ++ G) → IsRising G
rising-back [] G r = r
rising-back (f ∷ F) G r = rising-back F G r.1

pub here : (P rest : List Fact) (f : Fact) → Contains (P ++ f ∷ rest) f
here P rest f = search (rules, Contains-append_right)

-- what follows is one fact more and then the others
pub settled-more : (P : List Fact) (f : Fact) (X : List Fact → Type 0) → Settled P X
    → Settled (P ++ f ∷ []) X
settled-more P f X h = grind (arith, common_steps)

others-none : (key : Key) (P : List Fact) → AllByRecursion (IsOther key) P → (f : Fact)
    → Member f P → (address f).key ≡ key → ⊥
unfolding Member
others-none _ [] h f m e = m
others-none _ (g ∷ P) h f (inl s) e = h.0 (cc)
others-none key (g ∷ P) h f (inr m) e = others-none _ P h.1 f m e

-- an object has no value at any address if all facts are of other objects
pub unheard : (key : Key) (P : List Fact) → AllByRecursion (IsOther key) P → IsUnheard P key
unheard key P h = λ part. fact_at-none P _ (λ f c e. others-none _ P h f (Member-from P f c) (cc))

-- two values of its information were read, whatever follows
pub conflict-told : (key : Key) (P : List Fact)
    → Settled (P ++ InfoConflict key ∷ []) (λ F. HasConflict F key)
conflict-told key P = λ F rest e r. rising_tells F _ r (rw (e ∙ append_assoc P (InfoConflict key ∷ []) rest) (here P _ _))

symbol-last : (key : Key) (id : SymbolId)
    → address_cmp (record { key = key; part = SymbolPart id }) (info_address key) ≡ Less → ⊥
symbol-last key id e = search rules

not-here : {key : Key} (f : Fact) {id : SymbolId} (rest : List Fact) (g : Fact)
    → StandAfter (address f) rest → address f ≡ record { key = key; part = SymbolPart id }
    → address g ≡ info_address key → Member g (f ∷ rest) → ⊥
unfolding Member
not-here f {id} rest g after at same (inl s) = let e : SymbolPart id ≡ InfoPart =
    search rules in cc
not-here {key} f {id} rest g after at same (inr m) = symbol-last key id (subst
    (λ a. address_cmp a (info_address key) ≡ Less) at (rw same at (member-after _ g _ after m)))

-- a symbol was read before any information, and none can follow it
pub symbol-told : (key : Key) (P : List Fact) (f : Fact) (id : SymbolId)
    → AllByRecursion (IsOther key) P → address f ≡ record { key = key; part = SymbolPart id }
    → Settled (P ++ f ∷ []) (λ F. LacksInformation F key)
symbol-told key P f id others at = λ F rest e r. let is = e ∙ append_assoc P (f ∷ []) rest in
    let told = rising_tells F f r (rw is (here P _ f)) in
    let after = (rising-back P _ (rw is at r)).0 in
    let none : (g : Fact) → Contains F g → address g ≡ info_address key → ⊥ = λ g c same. elim
    (Contains-append_cases P _ g (rw is at c)) [
      | inl m ↦ others-none _ P others g (Member-from P g m) (cc)
      | inr m ↦ not-here f _ g after at same (Member-from _ g m)
    ] in ((SymbolPart id, λ empty. none-some f (cc)), fact_at-none F _ none)

-- The facts of an object are adjacent: once its information and then a fact of another object were
-- read, no fact of it follows.
pub together : (before symbols after : List Fact) (i f : Fact)
    → (address f).key ≡ (address i).key → AllByRecursion (IsOther (address i).key) after
    → IsRising ((before ++ (i ∷ symbols ++ after)) ++ f ∷ []) → after ≡ []
together _ _ [] i f _ _ r = refl
together before symbols (g ∷ after) i f same others r =
    let key = (address i).key in
    let P = before ++ (i ∷ symbols ++ g ∷ after) in
    let within = Contains-append_right before (i ∷ symbols ++ g ∷ after) g
    (Contains-append_right (i ∷ symbols) (g ∷ after) g (0, omega arith, refl)) in
    let low = member-after _ g _
    (rising-back before (i ∷ symbols ++ g ∷ after) (rising-front P (f ∷ []) r)).0
    (Member-from _ g (here _ _ g)) in
    let high = before-next P f g r (Member-from P g within) in
    let q : key_cmp key (address g).key ≡ Greater → ⊥ = λ e. key-before (address i) (address g) low
    e in
    let p : key_cmp (address g).key key ≡ Greater → ⊥ = λ e. key-before (address g) (address f) high
    (cc) in absurd (others.0
    (key_same (address g).key key (cc (tied _ _ (key_total.antisymm (address g).key key) p q))))

-- and its information is read at most once
pub information-once : (key : Key) (P : List Fact) (i f : Fact) → Contains P i
    → address i ≡ address f → IsRising (P ++ f ∷ []) → ⊥
information-once _ P i f c e r =
    let low = before-next P f i r (Member-from P i c) in
    let same = address_itself (address f) in
    false≢true (cc)

-- keys that a test finds unequal are not equal
pub not-same : (k l : Key) → false ≡ (((k.session.sender == l.session.sender) &&
    (k.session.tsi == l.session.tsi)) && eq_by_cmp object_cmp k.object l.object) → k ≡ l → ⊥
not-same k l e s = search rules
