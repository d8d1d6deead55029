-- What the maps of a store hold: of an object, of a session, and of them all.
use Rattle.std.specs.Prelude.{ℕ, List, Option}
use Rattle.std.specs.Borrow.{Bor}
use Rattle.flute_join.specs.declared.cell.Cell.{Cell}
use Rattle.flute_parts.specs.declared.symbol_id.SymbolId.{SymbolId}
use Rattle.flute_parts.specs.declared.object_key.ObjectName.{ObjectName}
use Rattle.flute_parts.specs.Session.{Session}
use Rattle.flute_store.specs.declared.object.Object.{Object}

-- a symbol, and what is known of it
abbrev pub Entry : Type 0
Entry = SymbolId × Cell (List ℕ)

-- a held symbol, and how long its one value is
abbrev pub Held : Type 0
Held = SymbolId × Option ℕ

-- a held symbol, and the bytes of its one value
abbrev pub HeldBytes : Type 0
HeldBytes = SymbolId × Option (Bor (List ℕ))

-- the objects of a session, and the sessions of a store
abbrev pub Objects : ℕ → Type 0
Objects n = List (ObjectName × Object n)

abbrev pub Sessions : ℕ → Type 0
Sessions n = List (Session × Objects n)
