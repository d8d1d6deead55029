-- The value of facts at the lowest of their addresses.
use Rattle.std.specs.Prelude.{◌≡◌, ◌≢◌, ℕ, List, [], Option, Some, None, IfSome, slice_get}
use Rattle.std.specs.Prelude.{if◌then◌else◌, true, false}
use Rattle.std.specs.List.{AllByRecursion}
use Rattle.std.specs.declared.cmp.Ordering.TheVariants.{Greater}
use Rattle.flute_parts.specs.Order.{address_cmp}
use Rattle.flute_parts.specs.Addresses.{address}
use Rattle.flute_parts.specs.Facts.{conflict_at, fact_at, same_fact}
use Rattle.flute_parts.specs.declared.address.Address.{Address}
use Rattle.flute_parts.specs.declared.fact.Fact.{Fact}
use Rattle.flute_journal.specs.HeldEntries.{IsSpelling}
use Rattle.flute_streams.specs.Streams.{Behaviour, address_of}
use Rattle.flute_streams.specs.declared.merge.lowest.LowestValue.{LowestValue}

-- the fact is not before that address
abbrev pub IsNotBefore : Address → Fact → Type 0
IsNotBefore a f = address_cmp a (address f) ≢ Greater

-- the value of the facts at the address of g is g, and none of them is before that
pub record Lowest (facts : List Fact) (g : Fact) : Type 0 where
  pub comes : fact_at facts (address g) ≡ Some g
  pub first : AllByRecursion (IsNotBefore (address g)) facts

-- the fact is one at the lowest address of these, or there are none
abbrev pub IsLowest : List Fact → Option Fact → Type 0
IsLowest facts None = facts ≡ []
IsLowest facts (Some g) = Lowest facts g

-- the bytes of the entry that each holds, if they lie in memory
abbrev pub AreSpelled : {S : Type 0} → Behaviour S → List S → Type 0
AreSpelled b streams = AllByRecursion (λ s. IsSpelling (b.spelled s) (b.held s)) streams

-- what the stream with that number holds, which is the first there
abbrev pub first_at : ℕ → LowestValue
first_at number = record { number = number; conflict = false }

-- the conflict at the address of what is held
abbrev pub conflict_of : Option Fact → Option Fact
conflict_of None = None
conflict_of (Some f) = Some (conflict_at (address f))

module _ {S : Type 0} (b : Behaviour S) where
  -- the fact at which a stream is, if there is a stream
  abbrev pub held_in : Option S → Option Fact
  held_in None = None
  held_in (Some s) = b.held s

  -- what the stream with that number holds
  abbrev pub held_at : List S → ℕ → Option Fact
  held_at streams k = held_in (slice_get streams k)

  -- where the stream with its number is
  abbrev pub place_at : List S → LowestValue → Option Address
  place_at streams l = address_of (held_at streams l.number)

  -- the value there: what that stream holds, or a conflict
  abbrev pub value_at : List S → LowestValue → Option Fact
  value_at streams l =
      let held = held_at streams l.number in if l.conflict then conflict_of held else held

  -- the value that the streams have together at the lowest address
  abbrev pub value_of : List S → Option LowestValue → Option Fact
  value_of streams None = None
  value_of streams (Some l) = value_at streams l

  -- it is somewhere
  abbrev pub Stands : List S → LowestValue → Type 0
  Stands streams l = (a : Address) × (place_at streams l ≡ Some a)

  -- it is at that address
  abbrev pub StandsOn : Address → List S → LowestValue → Type 0
  StandsOn a streams l = place_at streams l ≡ Some a

  -- r has the value of l and of what one stream more holds there
  pub record Joins (streams : List S) (l : LowestValue) (k : ℕ) (r : LowestValue) : Type 0 where
    pub number : r.number ≡ l.number
    pub same : (g f : Fact) → value_at streams l ≡ Some g → held_at streams k ≡ Some f
        → same_fact g f ≡ true → value_at streams r ≡ Some g
    pub apart : (g f : Fact) → value_at streams l ≡ Some g → held_at streams k ≡ Some f
        → same_fact g f ≡ false → value_at streams r ≡ Some (conflict_at (address f))

-- the facts have this value at that address, and none of them is before it
pub record ComesTo (a : Address) (facts : List Fact) (value : Option Fact) : Type 0 where
  pub comes : fact_at facts a ≡ value
  pub place : IfSome value (λ g. address g ≡ a)
  pub first : AllByRecursion (IsNotBefore a) facts
