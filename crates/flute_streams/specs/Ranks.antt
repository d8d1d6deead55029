-- Ranks of streams: where each stands among the parts of one object.
use Rattle.std.specs.Prelude.{◌≡◌, ◌≢◌, true, false, ◌≤◌, ◌<◌, ℕ, zero, suc, ◌/◌}
use Rattle.std.specs.Prelude.{◌%◌, List, length, Option, Some, None, IfSome, slice_get}
use Rattle.std.specs.Prelude.{slice_index}
use Rattle.std.specs.declared.cmp.Ordering.TheVariants.{Greater, Less}
use Rattle.flute_parts.specs.Order.{address_cmp}
use Rattle.flute_parts.specs.declared.address.Address.{Address}
use Rattle.flute_parts.specs.declared.address.Part.{Part}
use Rattle.flute_parts.specs.declared.address.Part.TheVariants.{Info as InfoPart}
use Rattle.flute_parts.specs.declared.address.Part.TheVariants.{Symbol as SymbolPart}
use Rattle.flute_parts.specs.declared.key.Key.{Key}
use Rattle.flute_streams.specs.declared.merge.leading.Lead.{Lead}
use Rattle.flute_streams.specs.declared.merge.ranks.Ranks.{Ranks}
use Rattle.flute_streams.specs.Leads.{Leads}
use Rattle.flute_streams.specs.Streams.{Behaviour, address_of}

-- the part of an object with this rank: the information, and then each symbol there may be
unfoldable pub part_at : ℕ → Part
part_at zero = InfoPart
part_at (suc n) = SymbolPart (record { sbn = n / 65536; esi = n % 65536 })

-- its address
abbrev pub place_at_rank : Key → ℕ → Address
place_at_rank key rank = record { key = key; part = part_at rank }

-- a place is above all parts of an object before this rank, and not before the one that has it
pub record IsFrom (key : Key) (rank : ℕ) (a : Address) : Type 0 where
  pub above : (n : ℕ) → n < rank → address_cmp (place_at_rank key n) a ≡ Less
  pub not_before : address_cmp (place_at_rank key rank) a ≢ Greater

-- so is the place of a stream, if it has one
abbrev pub AllFrom : Key → ℕ → Option Address → Type 0
AllFrom key rank None = Unit {0}
AllFrom key rank (Some a) = IsFrom key rank a

-- and if that is the rank of a part, the stream stands there
pub record StandsFrom (key : Key) (rank : ℕ) (place : Option Address) : Type 0 where
  pub from : AllFrom key rank place
  pub exact : rank ≤ 4294967296 → place ≡ Some (place_at_rank key rank)

-- the ranks from one number on, up to another, are above this
abbrev pub AreAbove : ℕ → ℕ → ℕ → List ℕ → Type 0
AreAbove rank from to ranks = (k : ℕ) → from ≤ k → k < to → rank < slice_index ranks k

-- the lowest rank that is kept of each block of eight is none above theirs
abbrev pub AreLow : List ℕ → List ℕ → Type 0
AreLow lows ranks = (k : ℕ) → k < 128 → slice_index lows (k / 8) ≤ slice_index ranks k

-- so of the ranks from one number on
abbrev pub AreLowFrom : ℕ → List ℕ → List ℕ → Type 0
AreLowFrom from lows ranks =
    (k : ℕ) → from ≤ k → k < 128 → slice_index lows (k / 8) ≤ slice_index ranks k

-- so of all ranks but those of one block below that number
abbrev pub AreLowBut : ℕ → ℕ → List ℕ → List ℕ → Type 0
AreLowBut block from lows ranks =
    (k : ℕ) → k < 128 → (k / 8 ≡ block → from ≤ k)
    → slice_index lows (k / 8) ≤ slice_index ranks k

module _ {S : Type 0} (b : Behaviour S) where
  -- what stream k of at most 128 holds is not before the part with rank number k
  pub record AreRanked (streams : List S) (key : Key) (ranks lows : List ℕ) : Type 0 where
    pub few : length streams ≤ 128
    pub low : AreLow lows ranks
    pub from : (k : ℕ) (s : S) → slice_get streams k ≡ Some s
        → StandsFrom key (slice_index ranks k) (address_of (b.held s))

  -- the streams are ranked, if there are ranks
  abbrev pub IsRanking : List S → Ranks → Type 0
  IsRanking streams ranks =
      IfSome ranks.key (λ key. AreRanked streams key ranks.ranks ranks.lows)

  -- a stream leads, or the streams may have ranks
  pub record IsLed (streams : List S) (lead : Lead) (ranks : Ranks) : Type 0 where
    pub leads : lead.known ≡ true → Leads b streams lead.number lead.next
    pub ranking : lead.known ≡ false → IsRanking streams ranks
    pub unranked : lead.known ≡ true → ranks.key ≡ None
