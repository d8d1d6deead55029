-- Lemmas on Leads (specs/Leads): the stream that holds a fact below those of all others.
use Rattle.std.proofs.Common.{rules}
use Rattle.flute_streams.proofs.Common.{◌≡◌, ℕ, zero, suc, ◌+◌, ◌<◌, ◌≤◌}
use Rattle.flute_streams.proofs.Common.{true, eqb, List, [], ◌∷◌}
use Rattle.flute_streams.proofs.Common.{◌++◌, length, Option, Some, None, Ok, Err, refl, sym}
use Rattle.flute_streams.proofs.Common.{ap}
use Rattle.flute_streams.proofs.Common.{◌∙◌, inl, inr, arith, set, cases_Bool}
use Rattle.flute_streams.proofs.Common.{eqb-true}
use Rattle.flute_streams.proofs.Common.{eqb-false, slice_get_within, same_Some, ◌≢◌, IfSome}
use Rattle.flute_streams.proofs.Common.{slice_get, is_lt, AllByRecursion}
use Rattle.flute_streams.proofs.Common.{Ordering}
use Rattle.flute_streams.proofs.Common.{Less, Greater, address_cmp, address, StandAfter}
use Rattle.flute_streams.proofs.Common.{address_total, Address, Fact, joined, fact_at-append}
use Rattle.flute_streams.proofs.Common.{alone-at, fact_at-cons, fact_at-after, LoadFault, Behaviour}
use Rattle.flute_streams.proofs.Common.{Advances, GoesOn, StopsAt, option_list, address_of, heads}
use Rattle.flute_streams.proofs.Common.{GoOnAt, StopAt, IsBelowNext, NoneBefore, Leads, StandsAt}
use Rattle.flute_streams.proofs.Common.{lower_of, lower_next, IsNotBefore, Lowest, IsLowest}
use Rattle.flute_journal.proofs.Public.{all_append}
use Rattle.flute_streams.proofs.merge_lemmas.GoingOn.{item_at}
use Rattle.flute_streams.proofs.merge_lemmas.LowestFacts.{up_to_itself, up_to_turned, up_to_less}
use Rattle.flute_streams.proofs.merge_lemmas.LowestFacts.{up_to-trans, less_up_to}

-- The next address: the lowest of the other streams.

pub lower-first : (next : Option Address) (p : Address) (o : Option Address)
    → NoneBefore next o → NoneBefore (Some (lower_of next p)) o
lower-first next p None h = tt
lower-first None p (Some q) h = absurd h
lower-first (Some a) p (Some q) h = elim (cases_Bool (is_lt (address_cmp a p))) [
  | inl e ↦ search rules
  | inr e ↦ rw e (up_to-trans p a q refl refl (up_to_turned a p (address_cmp a p) refl e) h)
]

pub lower-second : (next : Option Address) (p : Address)
    → NoneBefore (Some (lower_of next p)) (Some p)
lower-second None p = up_to_itself p
lower-second (Some a) p = elim (cases_Bool (is_lt (address_cmp a p))) [
  | inl e ↦ rw e
      (less (address_cmp a p) refl e)
  | inr e ↦ rw e (up_to_itself p)
]
  where
    less : (o : Ordering) → address_cmp a p ≡ o → is_lt o ≡ true
        → address_cmp a p ≢ Greater
    less Less e h k = cc
    less o e h k = absurd cc

-- none of the streams but that one, of the first k, holds a fact before that address
pub record FirstsFrom {S : Type 0} (b : Behaviour S) (number k : ℕ) (streams : List S)
    (next : Option Address) : Type 0 where
  pub none_before : (j : ℕ) (s : S) → j < k → slice_get streams j ≡ Some s → j ≢ number
      → NoneBefore next (address_of (b.held s))

module _ {S : Type 0} (b : Behaviour S) {number k : ℕ} {streams : List S}
    {next : Option Address} where
  pub firsts_more : (o : Option Address) →
      ((s : S) → slice_get streams k ≡ Some s → o ≡ address_of (b.held s)) → FirstsFrom b number k
      streams next → FirstsFrom b number (k + 1) streams (lower_next next o)
  firsts_more o held h = record {
    none_before = λ j s l i n. elim (cases_Bool (eqb j k)) [
      | inl e ↦ rw (← held s (rw (eqb-true j k e) at i)) (next-held o)
      | inr e ↦ lowered o (address_of (b.held s))
          (h.none_before j s (omega (arith, l, eqb-false j k e)) i n)
    ];
  }
    where
      next-held : (o : Option Address) → NoneBefore (lower_next next o) o
      next-held None = tt
      next-held (Some p) = lower-second next p

      lowered : (o x : Option Address) → NoneBefore next x → NoneBefore (lower_next next o) x
      lowered o x h = grind (arith, lower-first)

  -- once all streams were looked at, this one leads
  pub lead-new : (o : Option Address) → number < length streams → length streams ≤ k →
      ((s : S) → slice_get streams number ≡ Some s → o ≡ address_of (b.held s)) → FirstsFrom b
      number k streams next → IsBelowNext o next → Leads b streams number next
  lead-new o within all held h below =
      let x = item_at _ _ within in
      record {
        stream = x.0;
        is = x.1;
        below = search rules;
        others = λ j s i n. h.none_before j s (let p = slice_get_within _ j s i in omega arith) i n;
      }

  pub firsts_passed : k ≡ number → FirstsFrom b number k streams next
      → FirstsFrom b number (k + 1) streams next
  firsts_passed = search rules

-- What lies above the fact that the leading stream holds.

abbrev IsOver : Fact → Option Fact → Type 0
IsOver g o = IfSome o (λ f. address_cmp (address g) (address f) ≡ Less)

over : (g : Fact) (next : Option Address) (o : Option Fact)
    → IsBelowNext (Some (address g)) next → NoneBefore next (address_of o) → IsOver g o
over g next None l h = tt
over g None (Some f) l h = absurd h
over g (Some a) (Some f) l h = search (rules, less_up_to)

over_list : (g : Fact) (o : Option Fact) → IsOver g o → StandAfter (address g) (option_list o)
over_list = grind arith

over_place : (g : Fact) (o : Option Fact) → IsOver g o → address_of o ≢ Some (address g)
over_place g None h e = cc
over_place g (Some f) h e =
    let p = same_Some _ _ e in
    up_not (rw p at h)
  where
    up_not : address_cmp (address g) (address g) ≡ Less → ⊥
    up_not l = let m = address_total.antisymm (address g) (address g) in absurd cc

after-append : (a : Address) (F G : List Fact) → StandAfter a F → StandAfter a G
    → StandAfter a (F ++ G)
after-append a [] G s t = t
after-append a (f ∷ F) G s t = (s.0, after-append a F G s.1 t)

not_before : (a : Address) (fs : List Fact) → StandAfter a fs → AllByRecursion (IsNotBefore a) fs
not_before a [] h = tt
not_before a (f ∷ fs) h = (up_to_less _ h.0, not_before a fs h.1)

suc_is : (j k : ℕ) → suc j ≡ suc k → j ≡ k
suc_is j k e = omega arith

zero_apart : (k : ℕ) → suc k ≢ zero
zero_apart k e = absurd cc

apart_zero : (k : ℕ) → zero ≢ suc k
apart_zero k e = absurd cc

module _ {S : Type 0} (b : Behaviour S) where
  -- all streams but one hold what is above g
  abbrev OthersOver : Fact → ℕ → List S → Type 0
  OthersOver g k streams =
      (j : ℕ) (s : S) → slice_get streams j ≡ Some s → j ≢ k → IsOver g (b.held s)

  abbrev AllOver : Fact → List S → Type 0
  AllOver g streams = (j : ℕ) (s : S) → slice_get streams j ≡ Some s → IsOver g (b.held s)

  behind_zero : (g : Fact) (s : S) (streams : List S) → OthersOver g zero (s ∷ streams)
      → AllOver g streams
  behind_zero g s streams h j t e = h _ t e (zero_apart j)

  behind_suc : (g : Fact) (k : ℕ) (s : S) (streams : List S)
      → OthersOver g (suc k) (s ∷ streams) → OthersOver g k streams
  behind_suc g k s streams h j t e n = h _ t e (λ q. n (suc_is j k q))

  all_after : (g : Fact) (streams : List S) → AllOver g streams
      → StandAfter (address g) (heads b streams)
  all_after g [] h = tt
  all_after g (s ∷ streams) h = after-append _ _ _
      (over_list g _ (h 0 s refl)) (all_after g streams (λ j t e. h (suc j) t e))

  -- the fact that it holds is the lowest
  lowest_first : (g : Fact) (fs : List Fact) → StandAfter (address g) fs → Lowest (g ∷ fs) g
  lowest_first g fs h =
      grind (arith, fact_at-cons, joined, alone-at, fact_at-after, up_to_itself, not_before)

  lowest_behind : (g : Fact) (es fs : List Fact) → StandAfter (address g) es → Lowest fs g
      → Lowest (es ++ fs) g
  lowest_behind g es fs h l =
      grind (arith, fact_at-append, joined, fact_at-after, all_append, not_before)

  lead_lowest : (g : Fact) (k : ℕ) (s : S) (streams : List S) → slice_get streams k ≡ Some s
      → b.held s ≡ Some g → OthersOver g k streams → Lowest (heads b streams) g
  lead_lowest g k s [] e held h = absurd cc
  lead_lowest g zero s (t ∷ streams) e held h =
      let p : option_list (b.held t) ≡ g ∷ [] = search rules in
      rw p (lowest_first g (heads b streams) (all_after g streams (behind_zero g t streams h)))
  lead_lowest g (suc k) s (t ∷ streams) e held h =
      lowest_behind g (option_list (b.held t)) (heads b streams)
      (over_list g (b.held t) (first_over h))
      (lead_lowest g k s streams e held (behind_suc g k t streams h))
    where
      first_over : OthersOver g (suc k) (t ∷ streams) → IsOver g (b.held t)
      first_over h = h zero t refl (apart_zero k)

  pub lead-lowest : (streams : List S) (number : ℕ) (next : Option Address) (o : Option Fact) →
      (l : Leads b streams number next) → o ≡ b.held l.stream → IsLowest (heads b streams) o
  lead-lowest streams number next None l e = absurd (rw (← e) at l.below)
  lead-lowest streams number next (Some g) l e =
      lead_lowest g number l.stream streams l.is (sym e) (others_over g (sym e))
    where
      others_over : (g : Fact) → b.held l.stream ≡ Some g → OthersOver g number streams
      others_over g e j s i n =
          over g next (b.held s) (rw e at l.below) (l.others j s i n)

  -- Only the leading stream is advanced.

  all_stay : (a : Option Address) (streams : List S)
      → ((j : ℕ) (s : S) → slice_get streams j ≡ Some s → address_of (b.held s) ≢ a)
      → GoOnAt b a streams streams
  all_stay a [] h = tt
  all_stay a (s ∷ streams) h = (inr (h 0 s refl, refl), all_stay a streams (λ j t e. h (suc j) t e))

  abbrev OthersElsewhere : Option Address → ℕ → List S → Type 0
  OthersElsewhere a k streams = (j : ℕ) (s : S) → slice_get streams j ≡ Some s → j ≢ k → address_of
      (b.held s) ≢ a

  goes : {a : Option Address} (k : ℕ) (streams : List S) {x y : S}
      → slice_get streams k ≡ Some x → address_of (b.held x) ≡ a → GoesOn b x y
      → OthersElsewhere a k streams → GoOnAt b a streams (set streams k y)
  goes k [] e p g h = absurd cc
  goes {a} zero (s ∷ streams) {x} {y} e p g h =
      let q = same_Some s x e in (
        inl (ap (λ t. address_of (b.held t)) q ∙ p, rw q g),
        all_stay a _
            (λ j t i. h _ t i (zero_apart j)),
      )
  goes (suc k) (s ∷ streams) e p g h = (
    inr (h 0 s refl (apart_zero k), refl),
    goes k streams e p g
        (λ j t i n. h _ t i (λ q. n (suc_is j k q))),
  )

  stops : {a : Option Address} (k : ℕ) {f : LoadFault} (streams : List S) {x : S} (y : S) →
      slice_get streams k ≡ Some x → address_of (b.held x) ≡ a → StopsAt b x y f → OthersElsewhere a
      k streams → StopAt b a k f streams (set streams k y)
  stops k [] y e p g h = absurd cc
  stops zero (s ∷ streams) y e p g h = grind arith
  stops (suc k) (s ∷ streams) y e p g h = (
    inr (h 0 s refl (apart_zero k), refl),
    stops k streams y
        e p g (λ j t i n. h _ t i (λ q. n (suc_is j k q))),
  )

  elsewhere : (streams : List S) (number : ℕ) (next : Option Address) (a : Address)
      → Leads b streams number next → StandsAt b (Some a) streams number
      → OthersElsewhere (Some a) number streams
  elsewhere streams number next a l at = by_held _ refl
    where
      by_held : (o : Option Fact) → b.held l.stream ≡ o → OthersElsewhere (Some a) number streams
      by_held None e = absurd (rw e at l.below)
      by_held (Some g) e = λ j s i n.
          let p = ap address_of (sym e) ∙ at l.stream l.is in
          rw (← p)
          (over_place g _ (over g _ _
          (rw e at l.below) (l.others j s i n)))

  pub lead-goes : {streams new : List S} {number : ℕ} {next : Option Address} (a : Address)
      → Leads b streams number next → StandsAt b (Some a) streams number
      → Advances b number streams new (Ok tt) → GoOnAt b (Some a) streams new
  lead-goes {streams} {number} {next} a l at v = rw v.now (goes _ _ v.was (at v.before v.was)
      v.goes_on (elsewhere streams number next a l at))

  pub lead-stops : {streams new : List S} {number : ℕ} {next : Option Address} (a : Address)
      {f : LoadFault} → Leads b streams number next → StandsAt b (Some a) streams number → Advances
      b number streams new (Err f) → StopAt b (Some a) number f streams new
  lead-stops {streams} {number} {next} a {f} l at v = rw v.now (stops _ _ _ v.was
      (at v.before v.was) v.stops (elsewhere _ _ _ a l at))

  pub set_here : (streams : List S) (k : ℕ) (x y : S) → slice_get streams k ≡ Some x
      → slice_get (set streams k y) k ≡ Some y
  set_here [] k x y e = absurd cc
  set_here (s ∷ streams) zero x y e = refl
  set_here (s ∷ streams) (suc k) x y e = set_here streams k x y e

  pub set_elsewhere : (streams : List S) (k j : ℕ) (y : S) → j ≢ k
      → slice_get (set streams k y) j ≡ slice_get streams j
  set_elsewhere [] k j y n = refl
  set_elsewhere (s ∷ streams) zero zero y n = absurd (n refl)
  set_elsewhere (s ∷ streams) (suc k) (suc j) y n = set_elsewhere streams k j y (λ e. n (ap suc e))
  set_elsewhere (s ∷ streams) k j y n = refl

  -- it still leads, where what it holds is below the next address
  pub still-leads : {streams new : List S} {number : ℕ} {next : Option Address} {o : Option Address}
      → Leads b streams number next → Advances b number streams new (Ok tt) →
      ((s : S) → slice_get new number ≡ Some s → o ≡ address_of (b.held s)) → IsBelowNext o next →
      Leads b new number next
  still-leads = grind (arith, set_here, set_elsewhere)

-- one stream more was looked at, or the one that leads was passed over
pub ruleset firsts = (firsts_more, firsts_passed)
