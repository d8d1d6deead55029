-- Lemmas on Ranks (specs/Ranks): the rank of a part, and the value at the address with a rank.
use Rattle.std.proofs.lemmas.Grind.{common_steps}
use Rattle.std.proofs.Common.{rules}
use Rattle.flute_streams.proofs.Common.{◌≡◌, ◌≢◌, ℕ, zero, suc, ◌+◌}
use Rattle.flute_streams.proofs.Common.{◌*◌, ◌/◌, ◌%◌, ◌<◌, ◌≤◌, true}
use Rattle.flute_streams.proofs.Common.{false, List, [], ◌∷◌, ◌++◌, Option, Some, None}
use Rattle.flute_streams.proofs.Common.{◌⊎◌, refl, sym, ap, ◌∙◌}
use Rattle.flute_streams.proofs.Common.{arith}
use Rattle.flute_streams.proofs.Common.{is_eq, Ordering, Less, Equal, Greater, AllByRecursion}
use Rattle.flute_streams.proofs.Common.{Address, Fact, address, address_cmp, address_total}
use Rattle.flute_streams.proofs.Common.{alone-at, alone-elsewhere, conflict_at, fact_at}
use Rattle.flute_streams.proofs.Common.{fact_at-append, fact_at-nil, fact_same, joined}
use Rattle.flute_streams.proofs.Common.{joined-apart, joined-none, joined-same, same_fact}
use Rattle.flute_streams.proofs.Common.{option_list, address_of, same_Some}
use Rattle.flute_streams.proofs.Common.{IfSome, IsNotBefore, Lowest}
use Rattle.flute_journal.proofs.Public.{all_append}
use Rattle.flute_streams.proofs.merge_lemmas.LowestFacts.{conflict-place, up_to_itself, up_to_less}
use Rattle.std.specs.{Ordering.{nat_cmp, ordering_then}}
use Rattle.flute_parts.specs.{Order.{part_cmp}}
use Rattle.flute_parts.specs.declared.{
  key.Key.{Key},
  address.Part.{Part},
  address.Part.TheVariants.{Info as InfoPart, Symbol as SymbolPart},
}
use Rattle.flute_streams.specs.Lowest.{ComesTo}
use Rattle.flute_streams.specs.Ranks.{AllFrom, StandsFrom, IsFrom, part_at, place_at_rank}

-- the part with a rank

abbrev symbol_part : ℕ → ℕ → Part
symbol_part sbn esi = SymbolPart (record { sbn = sbn; esi = esi })

part_suc : (n : ℕ) → part_at (suc n) ≡ symbol_part (n / 65536) (n % 65536)
unfolding part_at
part_suc n = refl

pub rank-info : part_at 0 ≡ InfoPart
unfolding part_at
rank-info = refl

same_symbol : (s t e f : ℕ) → s ≡ t → e ≡ f → symbol_part s e ≡ symbol_part t f
same_symbol s t e f p q = cc

pub rank-symbol : (sbn esi : ℕ) → esi < 65536
    → part_at (1 + sbn * 65536 + esi) ≡ symbol_part sbn esi
rank-symbol sbn esi h =
    let n = sbn * 65536 + esi in
    let e : 1 + sbn * 65536 + esi ≡ suc n = omega arith in
    ap part_at e ∙ part_suc n ∙ same_symbol _ _ _ _ (omega arith) (omega arith)

-- parts rise with their ranks

less : (x y : ℕ) → x < y → nat_cmp x y ≡ Less
less = search rules

then_equal : (o p : Ordering) → o ≡ Equal → ordering_then o p ≡ p
then_equal = search rules

then_rise : (a b c d : ℕ) → (a < b) ⊎ ((a ≡ b) × (c < d))
    → ordering_then (nat_cmp a b) (nat_cmp c d) ≡ Less
then_rise = search rules

digits_rise : (m n : ℕ) → m < n
    → (m / 65536 < n / 65536) ⊎ ((m / 65536 ≡ n / 65536) × (m % 65536 < n % 65536))
digits_rise = search rules

parts_rise : (m n : ℕ) → m < n → part_cmp (part_at m) (part_at n) ≡ Less
parts_rise m zero h = absurd (omega (arith, h))
parts_rise zero (suc n) h = search (rules, part_at, part_suc, rank-info)
parts_rise (suc m) (suc n) h = search (rules, part_at, part_suc, then_rise, digits_rise) steps
    400000

place_rises : (key : Key) (m n : ℕ) → m < n
    → address_cmp (place_at_rank key m) (place_at_rank key n) ≡ Less
place_rises key m n h = search (rules, then_equal, part_at, parts_rise)

-- a place is that of the part with a rank
pub from-part : (key : Key) (rank : ℕ) (a : Address) → a ≡ place_at_rank key rank
    → StandsFrom key rank (Some a)
from-part key rank a e = search (rules, place_rises, up_to_itself)

abbrev at_part : Key → Part → Address
at_part key part = record { key = key; part = part }

pub same_place : (a : Address) (key : Key) (rank : ℕ) → a.key ≡ key
    → part_at rank ≡ a.part → a ≡ place_at_rank key rank
same_place = search rules

-- what is held at a higher rank stands elsewhere

apart : (a : Address) (f : Fact) → address_cmp a (address f) ≡ Less
    → is_eq (address_cmp (address f) a) ≡ false
apart a f less =
    let r = address_total.antisymm (address f) a in
    let g : address_cmp (address f) a ≡ Greater = cc in
    ap is_eq g

behind : (a : Address) (key : Key) (rank higher : ℕ) (f : Fact) → a ≡ place_at_rank key rank
    → rank < higher → IsFrom key higher (address f) → address_cmp a (address f) ≡ Less
behind = search rules

pub elsewhere : (a : Address) (key : Key) (rank higher : ℕ) (o : Option Fact) → a ≡ place_at_rank
    key rank → rank < higher → AllFrom key higher (address_of o) → address_of o ≢ Some a
elsewhere x0 x1 x2 x3 x4 x5 x6 x7 = search rules

-- what stands at a lower rank stands elsewhere
pub lower-elsewhere : (a : Address) (key : Key) (rank lower : ℕ) {place : Option Address}
    → a ≡ place_at_rank key rank → lower < rank → rank ≤ 4294967296
    → StandsFrom key lower place → place ≢ Some a
lower-elsewhere a key rank lower e l few from p = search (rules, same_Some, place_rises) steps
    400000

-- the value at an address, and one fact more

pub comes-none : (a : Address) → ComesTo a [] None
comes-none a = search (rules, fact_at-nil)

comes_with : (a : Address) (facts : List Fact) (g f : Fact) → fact_at facts a ≡ Some g
    → address f ≡ a → fact_at (facts ++ f ∷ []) a ≡ joined a (Some g) (Some f)
comes_with a facts g f h e = grind (arith, fact_at-append, joined, alone-at)

comes_alone : (a : Address) (facts : List Fact) (f : Fact) → fact_at facts a ≡ None
    → address f ≡ a → fact_at (facts ++ f ∷ []) a ≡ Some f
comes_alone a facts f h e = grind (arith, fact_at-append, joined, alone-at)

-- once all facts are joined, their value is the lowest
pub comes-lowest : (a : Address) (facts : List Fact) (o : Option Fact) → ComesTo a facts o
    → IfSome o (Lowest facts)
comes-lowest = search rules

module _ (a : Address) (facts : List Fact) where
  first_more : (f : Fact) → IsNotBefore a f → AllByRecursion (IsNotBefore a) facts
      → AllByRecursion (IsNotBefore a) (facts ++ f ∷ [])
  first_more f n h = search (rules, all_append)

  -- a fact that is elsewhere: the value is unchanged
  pub comes-elsewhere : (v : Option Fact) (f : Fact) → is_eq (address_cmp (address f) a) ≡ false →
      IsNotBefore a f → ComesTo a facts v → ComesTo a (facts ++ f ∷ []) v
  comes-elsewhere v f e n h = search
      (rules, fact_at-append, alone-elsewhere, joined-none, first_more)

  -- the first fact at the address is the value
  pub comes-first : (f : Fact) → address f ≡ a → IsNotBefore a f → ComesTo a facts None
      → ComesTo a (facts ++ f ∷ []) (Some f)
  comes-first f e n h = search (rules, comes_alone, first_more)

  -- a fact equal to the value: the value is unchanged
  pub comes-same : (g f : Fact) → address f ≡ a → IsNotBefore a f → same_fact g f ≡ true
      → ComesTo a facts (Some g) → ComesTo a (facts ++ f ∷ []) (Some g)
  comes-same g f e n same h = record {
    comes = comes_with a facts g f h.comes e ∙ ap Some (joined-same a g f (fact_same g f same));
    place = h.place;
    first = first_more f n h.first;
  }

  -- a fact with another value: the value is a conflict
  pub comes-apart : (g f : Fact) → address f ≡ a → IsNotBefore a f → same_fact g f ≡ false → ComesTo
      a facts (Some g) → ComesTo a (facts ++ f ∷ []) (Some (conflict_at (address f)))
  comes-apart g f e n apart h = record {
    comes = comes_with a facts g f h.comes e ∙ ap Some
        (joined-apart a g f apart ∙ ap conflict_at (sym e));
    place = conflict-place (address f) ∙ e;
    first = first_more f n h.first;
  }

  -- what is held at a higher rank changes nothing
  pub comes-behind : {v : Option Fact} (key : Key) (rank higher : ℕ) (o : Option Fact)
      → a ≡ place_at_rank key rank → rank < higher → AllFrom key higher (address_of o)
      → ComesTo a facts v → ComesTo a (facts ++ option_list o) v
  comes-behind {v} key rank higher None e l from h = grind (arith, common_steps)
  comes-behind {v} key rank higher (Some f) e l from h = search
      (rules, behind, comes-elsewhere, apart, up_to_less)
