-- The facts of a store, in the order of their addresses.
use Rattle.std.specs.Prelude.{ℕ, List, [], ◌∷◌, ◌++◌, flat_map}
use Rattle.flute_join.specs.declared.cell.Cell.{Cell}
use Rattle.flute_join.specs.declared.cell.Cell.TheVariants.{Absent, One, Conflict}
use Rattle.flute_parts.specs.Information.{Information}
use Rattle.flute_parts.specs.Session.{Session}
use Rattle.flute_parts.specs.declared.object_key.ObjectName.{ObjectName}
use Rattle.flute_parts.specs.declared.key.Key.{Key}
use Rattle.flute_parts.specs.declared.symbol_id.SymbolId.{SymbolId}
use Rattle.flute_parts.specs.declared.fact.Fact.{Fact}
use Rattle.flute_parts.specs.declared.fact.Fact.TheVariants.{Info, InfoConflict, Symbol}
use Rattle.flute_parts.specs.declared.fact.Fact.TheVariants.{SymbolConflict}
use Rattle.flute_store.specs.declared.object.Object.{Object}

-- the object of this name in a session
abbrev pub key_in : Session → ObjectName → Key
key_in session object = record { session = session; object = object }

-- the facts of a cell, given the fact of a value and the fact of a conflict
abbrev pub cell_facts : {T : Type 0} → (T → Fact) → Fact → Cell T → List Fact
cell_facts told clash Absent = []
cell_facts told clash (One value) = told value ∷ []
cell_facts told clash Conflict = clash ∷ []

-- what a cell of transmission information holds, as a list of at most one fact
abbrev pub info_cell_facts : Key → Cell Information → List Fact
info_cell_facts key = cell_facts (Info key) (InfoConflict key)

-- what a symbol's cell holds, as a list of at most one fact
abbrev pub symbol_cell_facts : Key → SymbolId → Cell (List ℕ) → List Fact
symbol_cell_facts key id = cell_facts (Symbol key id) (SymbolConflict key id)

-- what a map of symbols holds, as facts
abbrev pub symbols_facts : Key → List (SymbolId × Cell (List ℕ)) → List Fact
symbols_facts key symbols = flat_map (λ e. symbol_cell_facts key e.0 e.1) symbols

module _ {n : ℕ} where
  -- an object's transmission information comes before its symbols
  abbrev pub object_facts : Key → Object n → List Fact
  object_facts key x = info_cell_facts key x.info ++ symbols_facts key x.symbols

  -- what a map of objects holds, as facts of one session
  abbrev pub session_facts : Session → List (ObjectName × Object n) → List Fact
  session_facts session objects = flat_map (λ e. object_facts (key_in session e.0) e.1) objects

  -- what a map of sessions holds, as facts: all that a store contains
  abbrev pub content : List (Session × List (ObjectName × Object n)) → List Fact
  content sessions = flat_map (λ e. session_facts e.0 e.1) sessions
