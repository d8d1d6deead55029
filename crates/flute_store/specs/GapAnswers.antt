-- What a store returns as the gaps of an object.
use Rattle.std.specs.Prelude.{◌≡◌, ◌≢◌, ◌+◌, ◌↔◌, false, List, length, Contains, Some, None}
use Rattle.std.specs.List.Sorted.{IsStrictlySortedBy}
use Rattle.flute_parts.specs.Information.{Information, sizes}
use Rattle.flute_parts.specs.Addresses.{info_address, symbol_address}
use Rattle.flute_parts.specs.Order.{symbol_id_cmp}
use Rattle.flute_parts.specs.declared.symbol_id.SymbolId.{SymbolId}
use Rattle.flute_parts.specs.Facts.{fact_at}
use Rattle.flute_parts.specs.Limits.{symbols}
use Rattle.flute_parts.specs.declared.key.Key.{Key}
use Rattle.flute_parts.specs.declared.fact.Fact.{Fact}
use Rattle.flute_parts.specs.declared.fact.Fact.TheVariants.{Info, InfoConflict}
use Rattle.flute_store.specs.declared.gaps.GapFault.{GapFault}
use Rattle.flute_store.specs.declared.gaps.GapFault.TheVariants.{NoObject, NoInformation}
use Rattle.flute_store.specs.declared.gaps.GapFault.TheVariants.{ConflictingInformation}
use Rattle.flute_store.specs.Objects.{gaps}
use Rattle.flute_store.specs.Found.{IsUnheard}
use Rattle.flute_store.specs.Held.{HoldsObject}
use Rattle.flute_store.specs.GapsLeft.{GapsLeft}

-- all the gaps; the held symbols in their order, none of them passed, and no block begun;
-- none of the ticks, and at most one for each block, for each held symbol and for the end
pub record GivesGaps (F : List Fact) (key : Key) (left : GapsLeft) : Type 0 where
  pub info : Information
  pub information : fact_at F (info_address key) ≡ Some (Info key info)
  pub gaps_are : left.gaps ≡ gaps F key info
  pub rising : IsStrictlySortedBy symbol_id_cmp left.held
  pub held_are : (id : SymbolId)
      → Contains left.held id ↔ (fact_at F (symbol_address key id) ≢ None)
  pub begun_is : left.begun ≡ 0
  pub blocks_are : left.blocks ≡ length (sizes info)
  pub ended_is : left.ended ≡ false
  pub ticks_are : left.ticks ≡ 0
  pub bound_is : left.bound ≡ length (sizes info) + length (symbols F key) + 1

-- something of the object is held, and no transmission information, or two values of it
abbrev pub LacksInformation : List Fact → Key → Type 0
LacksInformation F key = HoldsObject F key × (fact_at F (info_address key) ≡ None)

-- two values of the object's transmission information came
abbrev pub HasConflict : List Fact → Key → Type 0
HasConflict F key = fact_at F (info_address key) ≡ Some (InfoConflict key)

-- why no gaps of an object are given is so of the facts
abbrev pub TellsGapFault : List Fact → Key → GapFault → Type 0
TellsGapFault F key NoObject = IsUnheard F key
TellsGapFault F key NoInformation = LacksInformation F key
TellsGapFault F key ConflictingInformation = HasConflict F key
