-- What a list of facts makes of an object.
use Rattle.std.specs.Prelude.{◌≡◌, ℕ, Bool, true, false, ◌+◌, ◌-◌, ◌≤◌}
use Rattle.std.specs.Prelude.{◌==◌, ◌&&◌, if◌then◌else◌, List, [], ◌∷◌, length}
use Rattle.std.specs.Prelude.{map, take, flat_map, filter_map, Contains, Option, Some, None}
use Rattle.std.specs.Prelude.{option_map}
use Rattle.std.specs.List.{range_with_len}
use Rattle.flute_parts.specs.Information.{Information}
use Rattle.flute_parts.specs.Addresses.{info_address, symbol_address}
use Rattle.flute_parts.specs.Facts.{fact_at}
use Rattle.flute_parts.specs.Partition.{ids, fits, symbol_id}
use Rattle.flute_parts.specs.declared.key.Key.{Key}
use Rattle.flute_parts.specs.declared.symbol_id.SymbolId.{SymbolId}
use Rattle.flute_parts.specs.declared.fact.Fact.{Fact}
use Rattle.flute_parts.specs.declared.fact.Fact.TheVariants.{Info, Symbol}
use Rattle.flute_store.specs.declared.gap.Reason.{Reason}
use Rattle.flute_store.specs.declared.gap.Reason.TheVariants.{Missing, Conflicting, Misfit}
use Rattle.flute_store.specs.declared.gap.Gap.{Gap}

-- the symbol is held as one fitting value
pub record IsHeld (F : List Fact) (key : Key) (info : Information) (id : SymbolId) : Type 0 where
  pub bytes : List ℕ
  pub value : fact_at F (symbol_address key id) ≡ Some (Symbol key id bytes)
  pub fitting : fits info id (length bytes) ≡ true

-- the object has this one information, and each symbol of its partition is held
-- as one fitting value
pub record Whole (F : List Fact) (key : Key) (info : Information) : Type 0 where
  pub information : fact_at F (info_address key) ≡ Some (Info key info)
  pub each : (id : SymbolId) → Contains (ids info) id → IsHeld F key info id

-- the bytes of a fact, if it is one value of a symbol
abbrev pub value_bytes : Option Fact → List ℕ
value_bytes (Some (Symbol key id bytes)) = bytes
value_bytes _ = []

-- the symbols in the order of the partition, cut to the transfer length (RFC 5052, 9.1)
unfoldable pub object : List Fact → Key → Information → List ℕ
object F key info =
    take info.transfer_length
    (flat_map (λ id. value_bytes (fact_at F (symbol_address key id))) (ids info))

-- why a symbol of the partition is wanted, if it is
abbrev pub want : Information → SymbolId → Option Fact → Option Reason
want info id None = Some Missing
want info id (Some (Symbol key _ bytes)) = if fits info id (length bytes) then None else Some Misfit
want info id (Some _) = Some Conflicting

-- the wanted symbols in the order of the partition, each with its reason
unfoldable pub wants : List Fact → Key → Information → List (SymbolId × Reason)
wants F key info =
    filter_map
    (λ id. option_map (λ reason. (id, reason)) (want info id (fact_at F (symbol_address key id))))
    (ids info)

-- whether two reasons are the same
abbrev pub same_reason : Reason → Reason → Bool
same_reason Missing Missing = true
same_reason Conflicting Conflicting = true
same_reason Misfit Misfit = true
same_reason _ _ = false

-- the second gap continues the first, in the same block and for the same reason
abbrev pub goes_on : Gap → Gap → Bool
goes_on g h = (g.sbn == h.sbn) && ((g.last + 1 == h.first) && same_reason g.reason h.reason)

-- the gap of one wanted symbol
abbrev pub one : SymbolId × Reason → Gap
one (id, reason) = record { sbn = id.sbn; first = id.esi; last = id.esi; reason = reason }

-- a gap put before others, as one with the first of them if that continues it
abbrev pub before : Gap → List Gap → List Gap
before g [] = g ∷ []
before g (h ∷ gaps) = if goes_on g h then record h { first = g.first } ∷ gaps else (g ∷ h ∷ gaps)

-- wanted symbols, as maximal runs
unfoldable pub runs : List (SymbolId × Reason) → List Gap
runs [] = []
runs (w ∷ ws) = before (one w) (runs ws)

-- the gaps of an object
abbrev pub gaps : List Fact → Key → Information → List Gap
gaps F key info = runs (wants F key info)

-- the symbols of a gap, each with its reason
abbrev pub listed : Gap → List (SymbolId × Reason)
listed g = map (λ i. (symbol_id g.sbn i, g.reason)) (range_with_len g.first (g.last + 1 - g.first))

-- the first of the others does not continue the gap
abbrev pub IsApart : Gap → List Gap → Type 0
IsApart g [] = Unit {0}
IsApart g (h ∷ gaps) = goes_on g h ≡ false

-- each gap has a symbol, and none is continued by the next one
unfoldable pub AreRuns : List Gap → Type 0
AreRuns [] = Unit {0}
AreRuns (g ∷ gaps) = (g.first ≤ g.last) × IsApart g gaps × AreRuns gaps
