-- What is left of facts, as the streams of a Minus take turns (specs/MinusStreams).
use Rattle.std.proofs.Common.{◌≡◌, true, false, cond, not, List, [], ◌∷◌, ◌++◌}
use Rattle.std.proofs.Common.{refl, sym, ap, ◌∙◌, inl, inr, ◌⊎◌}
use Rattle.std.proofs.Common.{Option, Some, None, append-nil, length}
use Rattle.std.proofs.Common.{is_eq}
use Rattle.std.proofs.lemmas.Bool.{cases_Bool}
use Rattle.std.proofs.lemmas.List.Elements.{filter-append}
use Rattle.std.specs.declared.cmp.Ordering.{Ordering}
use Rattle.std.specs.declared.cmp.Ordering.TheVariants.{Less, Equal, Greater}
use Rattle.flute_parts.specs.Addresses.{address}
use Rattle.flute_parts.specs.Equality.{address_same}
use Rattle.flute_parts.specs.Facts.{IsRising, StandAfter}
use Rattle.flute_parts.specs.Order.{address_cmp}
use Rattle.flute_parts.specs.Totality.{address_total}
use Rattle.flute_parts.specs.declared.fact.Fact.{Fact}
use Rattle.flute_parts.proofs.Public.{alone, alone-at, alone-elsewhere, fact_at-append, fact_at-nil}
use Rattle.flute_parts.proofs.Public.{fact_at-after, joined, joined-none}
use Rattle.flute_parts.proofs.Public.{StandAfter-before}
use Rattle.flute_streams.specs.Streams.{option_list}
use Rattle.flute_streams.specs.declared.streams.minus.Turn.TheVariants.{Stay, First, Second}
use Rattle.flute_streams.specs.declared.streams.minus.Turn.{Turn}
use Rattle.std.proofs.Common.{subst}
use Rattle.flute_streams.specs.Behind.{Behind, UpTo}
use Rattle.flute_streams.proofs.streams_lemmas.Before.{back, before_later, before_more}
use Rattle.flute_streams.proofs.streams_lemmas.Before.{before_value, rising_after}
use Rattle.flute_streams.proofs.streams_lemmas.Before.{turned}
use Rattle.flute_streams.specs.Minus.{has, changes, minus}
use Rattle.flute_streams.specs.MinusStreams.{turn_at, turn_of}

-- order

abbrev Before : Fact → Fact → Type 0
Before f g = address_cmp (address f) (address g) ≡ Less

-- values, by whose turn it is

abbrev InTurn : Fact → Fact → Turn → Type 0
InTurn f g Stay = (not (has (alone (address f) g) f) ≡ true) × (Before f g ⊎ (address f ≡ address g))
InTurn f g First = (not (has (alone (address f) g) f) ≡ false) × (address f ≡ address g)
InTurn f g Second = Before g f

in_turn_at : (f g : Fact) (o : Ordering) → address_cmp (address f) (address g) ≡ o
    → InTurn f g (turn_at o (has (Some g) f))
in_turn_at f g Less l =
    (ap (λ x. not (has x f)) (alone-elsewhere g _ (back _ (address g) l)), inl l)
in_turn_at f g Equal l =
    let p = address_same (address f) (address g) (ap is_eq l) in
    elim (cases_Bool (has (Some g) f)) [
      | inl h ↦ rw h (ap (λ x. not (has x f)) (alone-at g _ (sym p)) ∙ ap not h, p)
      | inr n ↦ rw n (ap (λ x. not (has x f)) (alone-at g _ (sym p)) ∙ ap not n, inr p)
    ]
in_turn_at f g Greater l = turned (address f) (address g) l

in_turn : (f g : Fact) {turn : Turn} → turn_of (Some f) (Some g) ≡ turn → InTurn f g turn
in_turn f g e = subst (InTurn f g) e (in_turn_at f g (address_cmp (address f) (address g)) refl)

stay_changes : (f : Fact) (G : List Fact) (held : Option Fact) → Behind (Some f) G
    → turn_of (Some f) held ≡ Stay → changes (G ++ option_list held) f ≡ true
stay_changes f G None s t = ap (λ x. not (has x f)) (before_value _ G [] s ∙ fact_at-nil _)
stay_changes f G (Some g) s t = ap (λ x. not (has x f)) (before_value _ G (g ∷ []) s) ∙
    (in_turn f g t).0

first_keeps : (f : Fact) (G : List Fact) (held : Option Fact) → Behind (Some f) G
    → turn_of (Some f) held ≡ First → changes (G ++ option_list held) f ≡ false
first_keeps f G None s t = absurd cc
first_keeps f G (Some g) s t = ap (λ x. not (has x f)) (before_value _ G (g ∷ []) s) ∙
    (in_turn f g t).0

-- what is left

-- facts behind what was held change nothing of what is left of facts up to it
pub untouched : (g : Fact) (F X R : List Fact) → UpTo (Some g) F → StandAfter (address g) R
    → minus F (X ++ R) ≡ minus F X
untouched g [] X R u s = refl
untouched g (f ∷ F) X R u s =
    let a = address f in
    let after : StandAfter a R = elim u.0 [ inl l ↦ StandAfter-before a _ R l s | inr e ↦ rw e s ]
    in
    let e = ap (λ x. not (has x f))
    (fact_at-append X R a ∙ ap (joined a _) (fact_at-after a R after) ∙ joined-none a _) in ap
    (λ b. cond b (f ∷ minus F (X ++ R)) (minus F (X ++ R))) e ∙ ap
    (λ l. cond (changes X f) (f ∷ l) l) (untouched g F X R u.1 s)

pub with_held : (held other : Option Fact) (F all others : List Fact) → F ≡ minus all
    (others ++ option_list other) → Behind held others → turn_of held other ≡ Stay → F ++
    option_list held ≡ minus (all ++ option_list held) (others ++ option_list other)
with_held None other F all others e s t =
    append-nil F ∙ e ∙ ap (λ l. minus l (others ++ option_list other)) (sym (append-nil _))
with_held (Some f) other F all others e s t =
    let C = others ++ option_list other in
    ap (λ l. l ++ f ∷ []) e ∙ ap (λ l. minus all C ++ l)
    (sym (ap (λ b. cond b (f ∷ []) []) (stay_changes f _ _ s t))) ∙ sym
    (filter-append (changes C) all (f ∷ []))

pub without_held : (held other : Option Fact) (F all others : List Fact) → F ≡ minus all
    (others ++ option_list other) → Behind held others → turn_of held other ≡ First → F ≡ minus
    (all ++ option_list held) (others ++ option_list other)
without_held None None F all others e s t = absurd cc
without_held None (Some g) F all others e s t = absurd cc
without_held (Some f) other F all others e s t =
    let C = others ++ option_list other in
    e ∙ sym (append-nil _) ∙ ap (λ l. minus all C ++ l)
    (sym (ap (λ b. cond b (f ∷ []) []) (first_keeps f _ _ s t))) ∙ sym
    (filter-append (changes C) all (f ∷ []))

-- rising facts

pub up_to_none : (held : Option Fact) → UpTo held []
up_to_none None = tt
up_to_none (Some g) = tt

up_to_next : (g h : Fact) (F : List Fact) → Before g h → UpTo (Some g) F → UpTo (Some h) F
up_to_next g h [] l u = tt
up_to_next g h (f ∷ F) l u = (
  elim u.0 [
    | inl m ↦ inl (address_total.trans (address f) (address g) (address h) m l)
    | inr e ↦ inl (rw e l)
  ],
  up_to_next g h F l u.1,
)

up_to_more : (g f : Fact) (F : List Fact) → Before f g ⊎ (address f ≡ address g)
    → UpTo (Some g) F → UpTo (Some g) (F ++ f ∷ [])
up_to_more g f [] o u = (o, tt)
up_to_more g f (x ∷ F) o u = (u.0, up_to_more g f F o u.1)

-- once the first stream goes on
pub up_to_stay : (held other : Option Fact) (F : List Fact) → turn_of held other ≡ Stay
    → UpTo other F → UpTo other (F ++ option_list held)
up_to_stay held None F t u = tt
up_to_stay None (Some g) F t u = absurd cc
up_to_stay (Some f) (Some g) F t u = up_to_more g f F ((in_turn f g t).1) u

pub up_to_first : (held other : Option Fact) (F : List Fact) → turn_of held other ≡ First
    → UpTo other F → UpTo other (F ++ option_list held)
up_to_first held None F t u = tt
up_to_first None (Some g) F t u = absurd cc
up_to_first (Some f) (Some g) F t u = up_to_more g f F (inr (in_turn f g t).1) u

pub behind_goes : (held next : Option Fact) (F G : List Fact) → (held ≡ None → ⊥)
    → IsRising ((F ++ option_list held) ++ option_list next) → Behind held G → Behind next G
behind_goes held None F G n r s = tt
behind_goes None (Some h) F G n r s = absurd (n refl)
behind_goes (Some f) (Some h) F G n r s = before_later _ _ G (rising_after F f _ r).0 s

-- once the second goes on
pub up_to_goes : (other next : Option Fact) (F G : List Fact) → (other ≡ None → ⊥)
    → IsRising ((G ++ option_list other) ++ option_list next) → UpTo other F → UpTo next F
up_to_goes other None F G n r u = tt
up_to_goes None (Some h) F G n r u = absurd (n refl)
up_to_goes (Some g) (Some h) F G n r u = up_to_next g h F (rising_after G g _ r).0 u

pub behind_second : (held other : Option Fact) (G : List Fact) → turn_of held other ≡ Second
    → Behind held G → Behind held (G ++ option_list other)
behind_second None other G t s = tt
behind_second (Some f) None G t s = absurd cc
behind_second (Some f) (Some g) G t s = before_more _ g G (in_turn f g t) s

module _ (next : Option Fact) (F all G : List Fact) where
  pub left_second : (other : Option Fact) → (other ≡ None → ⊥) → IsRising
      ((G ++ option_list other) ++ option_list next) → UpTo other all → F ≡ minus all
      (G ++ option_list other) → F ≡ minus all ((G ++ option_list other) ++ option_list next)
  left_second None n r u e = absurd (n refl)
  left_second (Some g) n r u e = e ∙ sym (untouched g _ _ _ u (rising_after G g _ r))

pub first_holds : (held other : Option Fact) → turn_of held other ≡ First → held ≡ None → ⊥
first_holds None None t e = cc
first_holds None (Some g) t e = cc
first_holds (Some f) other t e = cc

pub second_holds : (held other : Option Fact) → turn_of held other ≡ Second → other ≡ None → ⊥
second_holds None None t e = cc
second_holds (Some f) None t e = cc
second_holds held (Some g) t e = cc

pub stay_ended : (held other : Option Fact) → turn_of held other ≡ Stay → held ≡ None → other ≡ None
stay_ended None None t e = refl
stay_ended None (Some g) t e = absurd cc
stay_ended (Some f) other t e = absurd cc

pub some_length : (held : Option Fact) → (held ≡ None → ⊥) → length (option_list held) ≡ 1
some_length None n = absurd (n refl)
some_length (Some f) n = refl
