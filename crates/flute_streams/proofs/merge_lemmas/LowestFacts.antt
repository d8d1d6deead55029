-- Lemmas on Lowest (specs/Lowest): the lowest address of facts and its value, fact by fact.
use Rattle.flute_streams.proofs.Common.{Bool, Info, InfoConflict, Symbol, SymbolConflict}
use Rattle.flute_streams.proofs.Common.{bytes_eq, Address, AllByRecursion, Behaviour}
use Rattle.flute_streams.proofs.Common.{Equal}
use Rattle.flute_streams.proofs.Common.{Fact, Greater, IsNotBefore, Less, List, Lowest}
use Rattle.flute_streams.proofs.Common.{Ordering, Some, StandAfter, [], address, address_cmp}
use Rattle.flute_streams.proofs.Common.{address_same, address_total, alone-at}
use Rattle.flute_streams.proofs.Common.{alone-elsewhere, ap, append-nil, arith}
use Rattle.flute_streams.proofs.Common.{conflict_at, fact_at, fact_at-after}
use Rattle.flute_streams.proofs.Common.{fact_at-append, fact_same, false, get_or}
use Rattle.flute_streams.proofs.Common.{get_or_from_slice_get, heads, is_eq, is_lt, joined}
use Rattle.flute_streams.proofs.Common.{joined-apart, joined-none, joined-same, length, option_list}
use Rattle.flute_streams.proofs.Common.{refl, rules, same_fact, sym, take}
use Rattle.flute_streams.proofs.Common.{take_more, true, ℕ, ◌++◌, ◌+◌, ◌<◌, ◌∙◌}
use Rattle.flute_streams.proofs.Common.{◌∷◌, ◌≡◌, ◌≢◌}
use Rattle.flute_journal.proofs.Public.{all_append, all_map}
use Rattle.flute_streams.proofs.merge_lemmas.GoingOn.{item_at}
use Rattle.flute_streams.specs.Lowest.{held_at, held_in}
use Rattle.flute_parts.specs.{Facts.{same_information}, Order.{same_key}}

-- The order of addresses.

-- the first of two is not above the second
abbrev pub IsUpTo : Ordering → Type 0
IsUpTo o = o ≢ Greater

pub up_to_less : (o : Ordering) → o ≡ Less → IsUpTo o
up_to_less o e h = cc

pub up_to-trans : (a b c : Address) {o p : Ordering} → address_cmp a b ≡ o
    → address_cmp b c ≡ p → IsUpTo o → IsUpTo p → IsUpTo (address_cmp a c)
up_to-trans a b c {o = Less} {p = Less} e f h k =
    up_to_less (address_cmp a c) (address_total.trans a b c e f)
up_to-trans a b c {o = Less} {p = Equal} e f h k = up_to_less (address_cmp a c)
    (rw (address_same b c (ap is_eq f)) at e)
up_to-trans a b c {o = Equal} e f h k = rw (address_same a b (ap is_eq e), f) k
up_to-trans a b c {o = Less} {p = Greater} e f h k = absurd (k refl)
up_to-trans a b c {o = Greater} e f h k = absurd (h refl)

pub up_to_itself : (a : Address) → IsUpTo (address_cmp a a)
up_to_itself = search rules

-- the second is not above the first, where the first isn't below it
pub up_to_turned : (a b : Address) (o : Ordering) → address_cmp a b ≡ o → is_lt o ≡ false
    → IsUpTo (address_cmp b a)
up_to_turned a b Less e h = absurd cc
up_to_turned a b other e h = λ k. let r = address_total.antisymm b a in absurd cc

-- what is held, stream by stream

pub heads-append : {S : Type 0} (b : Behaviour S) (xs ys : List S)
    → heads b (xs ++ ys) ≡ heads b xs ++ heads b ys
heads-append b [] ys = refl
heads-append b (x ∷ xs) ys = search (rules, heads-append b xs ys)

-- what is held by one stream more
pub heads-more : {S : Type 0} (b : Behaviour S) (xs : List S) (k : ℕ) → k < length xs
    → heads b (take (k + 1) xs) ≡ heads b (take k xs) ++ option_list (held_at b xs k)
heads-more b xs k within =
    let x = item_at xs k within in
    ap (heads b) (take_more xs k x.0 within) ∙ heads-append b (take k xs) (get_or xs k x.0 ∷ []) ∙
    ap (λ s. heads b (take k xs) ++ (option_list (b.held s) ++ []))
    (get_or_from_slice_get xs k x.0 x.0 x.1) ∙ ap (λ l. heads b (take k xs) ++ l)
    (append-nil (option_list (b.held x.0))) ∙ ap
    (λ s. heads b (take k xs) ++ option_list (held_in b s)) (sym x.1)

pub less_up_to : (a b c : Address) (o : Ordering) → address_cmp a b ≡ Less
    → address_cmp b c ≡ o → IsUpTo o → address_cmp a c ≡ Less
less_up_to a b c Less l e h = address_total.trans a b c l e
less_up_to a b c Equal l e h = rw (← address_same b c (ap is_eq e)) l
less_up_to a b c Greater l e h = absurd (h refl)

stand_after : (a b : Address) (facts : List Fact) → address_cmp a b ≡ Less
    → AllByRecursion (IsNotBefore b) facts → StandAfter a facts
stand_after a b [] less h = tt
stand_after a b (f ∷ facts) less h = search (rules, less_up_to, stand_after a b facts less h.1)

pub conflict-place : (a : Address) → address (conflict_at a) ≡ a
conflict-place = search rules

-- the value at the lowest address, with one more fact

-- the fact alone is the lowest
pub lowest_alone : (facts : List Fact) (f : Fact) → facts ≡ [] → Lowest (facts ++ f ∷ []) f
lowest_alone = search (rules, alone-at, up_to_itself)

module _ (facts : List Fact) (f g : Fact) (h : Lowest facts g) where
  -- that fact is below the others, and becomes the lowest
  pub lowest_turns : address_cmp (address f) (address g) ≡ Less → Lowest (facts ++ f ∷ []) f
  lowest_turns less = search (
    rules,
    stand_after,
    fact_at-append,
    fact_at-after,
    alone-at,
    all_append,
    all_map,
    up_to-trans,
    up_to_less,
    up_to_itself,
  )

  -- that fact is above the lowest, which remains
  pub lowest_stays : address_cmp (address f) (address g) ≡ Greater → Lowest (facts ++ f ∷ []) g
  lowest_stays greater =
      let a = address g in
      record {
        comes = fact_at-append _ _ a ∙ ap (joined a _) (alone-elsewhere f a (ap is_eq greater)) ∙
            joined-none a _ ∙ h.comes;
        first = all_append _ _ _ h.first (up_to_turned _ a _ greater refl, tt);
      }

  -- a fact at the lowest address is joined with its value
  with_more : address f ≡ address g
      → fact_at (facts ++ f ∷ []) (address g) ≡ joined (address g) (Some g) (Some f)
  with_more = grind (arith, fact_at-append, joined, alone-at)

  first_more : address f ≡ address g → AllByRecursion (IsNotBefore (address g)) (facts ++ f ∷ [])
  first_more = search (rules, all_append, up_to_itself)

  -- that fact has the same value, which remains
  pub lowest_same : address_cmp (address f)
      (address g) ≡ Equal → same_fact g f ≡ true → Lowest (facts ++ f ∷ []) g
  lowest_same equal same =
      let e = address_same (address f) (address g) (ap is_eq equal) in
      record {
        comes = with_more e ∙ ap Some (joined-same _ g f (fact_same g f same));
        first = first_more e;
      }

  -- that fact has another value: the result is a conflict
  pub lowest_apart : address_cmp (address f)
      (address g) ≡ Equal → same_fact g f ≡ false → Lowest (facts ++ f ∷ []) (conflict_at (address f))
  lowest_apart equal apart =
      let e = address_same (address f) (address g) (ap is_eq equal) in
      let is = conflict-place _ ∙ e in
      record {
        comes = ap (fact_at (facts ++ f ∷ [])) is ∙ with_more e ∙ ap Some
            (joined-apart _ g f apart ∙ ap conflict_at (sym e));
        first = rw is (first_more e);
      }

-- the value of two facts at one address

-- two facts of one address have the same value
abbrev pub same_value : Fact → Fact → Bool
same_value (Info k i) (Info l j) = same_information i j
same_value (InfoConflict k) (InfoConflict l) = true
same_value (Symbol k i b) (Symbol l j c) = bytes_eq b c
same_value (SymbolConflict k i) (SymbolConflict l j) = true
same_value _ _ = false

same_keys : (f g : Fact) → address f ≡ address g → same_key (address f).key (address g).key ≡ true
same_keys = search rules

pub same_at : (f g : Fact) → address f ≡ address g → same_fact f g ≡ same_value f g
same_at (Info k i) (Info l j) e = search rules
same_at (InfoConflict k) (InfoConflict l) e = same_keys (InfoConflict k) (InfoConflict l) e
same_at (Symbol k i b) (Symbol l j c) e = search rules
same_at (SymbolConflict k i) (SymbolConflict l j) e = search rules
same_at f g e = refl
