-- What a list of facts contains of an object.
use Rattle.std.specs.Prelude.{◌≡◌, ℕ, List, length, Option, Some, None}
use Rattle.flute_join.specs.JoinMap.{value_at}
use Rattle.flute_join.specs.declared.cell.Cell.{Cell}
use Rattle.flute_join.specs.declared.cell.Cell.TheVariants.{Absent, One, Conflict}
use Rattle.flute_parts.specs.Order.{symbol_id_cmp}
use Rattle.flute_parts.specs.Addresses.{info_address, symbol_address}
use Rattle.flute_parts.specs.Facts.{fact_at}
use Rattle.flute_parts.specs.Limits.{symbols}
use Rattle.flute_parts.specs.declared.key.Key.{Key}
use Rattle.flute_parts.specs.declared.symbol_id.SymbolId.{SymbolId}
use Rattle.flute_parts.specs.declared.address.Part.{Part}
use Rattle.flute_parts.specs.declared.fact.Fact.{Fact}
use Rattle.flute_parts.specs.declared.fact.Fact.TheVariants.{Info, InfoConflict, Symbol}
use Rattle.flute_parts.specs.declared.fact.Fact.TheVariants.{SymbolConflict}
use Rattle.flute_store.specs.Held.{HoldsObject}
use Rattle.flute_store.specs.declared.object.Object.{Object}
use Rattle.flute_store.specs.WellFormed.{IsObject}

-- no fact has an address of the object
abbrev pub IsUnheard : List Fact → Key → Type 0
IsUnheard F key = (part : Part) → fact_at F (record { key = key; part = part }) ≡ None

-- the fact of a cell
abbrev pub cell_fact : {T : Type 0} → (T → Fact) → Fact → Cell T → Option Fact
cell_fact told clash Absent = None
cell_fact told clash (One value) = Some (told value)
cell_fact told clash Conflict = Some clash

-- the fact that a symbol's cell holds, if it is there
abbrev pub symbol_fact : Key → SymbolId → Option (Cell (List ℕ)) → Option Fact
symbol_fact key id None = None
symbol_fact key id (Some cell) = cell_fact (Symbol key id) (SymbolConflict key id) cell

-- x is all that the facts contain of the object
pub record IsTold {n : ℕ} (F : List Fact) (key : Key) (x : Object n) : Type 0 where
  pub heard : HoldsObject F key
  pub info : fact_at F (info_address key) ≡ cell_fact (Info key) (InfoConflict key) x.info
  pub each : (id : SymbolId)
      → fact_at F (symbol_address key id) ≡ symbol_fact key id (value_at symbol_id_cmp x.symbols id)
  pub count : length (symbols F key) ≡ length x.symbols
  pub object : IsObject x
