-- An update of an object, as an object.
use Rattle.std.specs.Prelude.{◌≡◌, ◌≢◌, ℕ, List, [], ◌∷◌, ◌++◌, Option, Some, None, IsSome}
use Rattle.flute_join.specs.declared.cell.Cell.{Cell}
use Rattle.flute_join.specs.declared.cell.Cell.TheVariants.{Absent, One, Conflict}
use Rattle.flute_join.specs.JoinMap.{value_at}
use Rattle.flute_parts.specs.Order.{session_cmp, object_cmp, symbol_id_cmp}
use Rattle.flute_parts.specs.SymbolBytes.{HasSymbolSize}
use Rattle.flute_parts.specs.Session.{Session}
use Rattle.flute_parts.specs.declared.object_key.ObjectName.{ObjectName}
use Rattle.flute_parts.specs.declared.key.Key.{Key}
use Rattle.flute_parts.specs.declared.symbol_id.SymbolId.{SymbolId}
use Rattle.flute_parts.specs.declared.fact.Fact.{Fact}
use Rattle.flute_store.specs.ObjectJoin.{session_join, store_join}
use Rattle.flute_store.specs.Content.{info_cell_facts, symbols_facts}
use Rattle.flute_store.specs.declared.update.SymbolUpdate.{SymbolUpdate}
use Rattle.flute_store.specs.declared.update.SymbolUpdate.TheVariants.{Bytes as BytesUpdate}
use Rattle.flute_store.specs.declared.update.SymbolUpdate.TheVariants.{Conflict as ConflictUpdate}
use Rattle.flute_store.specs.declared.update.Update.{Update}
use Rattle.flute_store.specs.declared.object.Object.{Object}

-- what an update holds of a symbol, as a cell
abbrev pub update_cell : SymbolUpdate → Cell (List ℕ)
update_cell (BytesUpdate bytes) = One bytes.now
update_cell ConflictUpdate = Conflict

-- the symbol of an update, as a map of at most one
abbrev pub update_symbols : Option (SymbolId × SymbolUpdate) → List (SymbolId × Cell (List ℕ))
update_symbols None = []
update_symbols (Some (id, update)) = (id, update_cell update) ∷ []

-- the object of which nothing else is known
abbrev pub update_object : {n : ℕ} → Update → Object n
update_object update = record { info = update.info; symbols = update_symbols update.symbol }

-- the bytes of the update are a symbol's
abbrev pub HasSize : SymbolUpdate → Type 0
HasSize (BytesUpdate bytes) = HasSymbolSize bytes.now
HasSize ConflictUpdate = Unit {0}

-- the symbol of an update has a length that symbols may have
abbrev pub HasSizes : Option (SymbolId × SymbolUpdate) → Type 0
HasSizes None = Unit {0}
HasSizes (Some (id, update)) = HasSize update

-- the update has something, and its bytes can be a symbol's
pub record IsUpdate (update : Update) : Type 0 where
  pub some : update.info ≡ Absent → update.symbol ≢ None
  pub sizes : HasSizes update.symbol

-- the update, as facts
abbrev pub update_facts : Key → Update → List Fact
update_facts key update =
    info_cell_facts key update.info ++ symbols_facts key (update_symbols update.symbol)

-- something is known already at each address of the update
abbrev pub IsHeldSymbol : List (SymbolId × Cell (List ℕ)) → Option (SymbolId × SymbolUpdate)
    → Type 0
IsHeldSymbol symbols None = Unit {0}
IsHeldSymbol symbols (Some (id, update)) = IsSome (value_at symbol_id_cmp symbols id)

-- the object of this name already holds the symbol that the update would add
abbrev pub IsHeldObject : {n : ℕ} → List (ObjectName × Object n) → ObjectName → Update → Type 0
IsHeldObject {n} os object update =
    (x : Object n) × (value_at object_cmp os object ≡ Some x) × IsHeldSymbol x.symbols update.symbol

-- the object of this key already holds the symbol that the update would add
abbrev pub IsHeldSession : {n : ℕ} → List (Session × List (ObjectName × Object n)) → Key → Update
    → Type 0
IsHeldSession {n} m key update =
    (os : List (ObjectName × Object n)) × (value_at session_cmp m key.session ≡ Some os)
    × IsHeldObject os key.object update

-- the update, joined into a session and into a store
abbrev pub with_object : {n : ℕ} → List (ObjectName × Object n) → ObjectName → Update
    → List (ObjectName × Object n)
with_object os object update = session_join os ((object, update_object update) ∷ [])

-- a store after an update of one object
abbrev pub with_session : {n : ℕ} → List (Session × List (ObjectName × Object n)) → Key → Update
    → List (Session × List (ObjectName × Object n))
with_session m key update =
    store_join m ((key.session, (key.object, update_object update) ∷ []) ∷ [])
