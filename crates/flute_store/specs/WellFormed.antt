-- The nested maps of a store.
use Rattle.std.specs.Prelude.{◌≡◌, ◌≢◌, ◌≤◌, ℕ, List, [], length}
use Rattle.flute_join.specs.Cell.{IsKnown}
use Rattle.flute_join.specs.JoinMap.{IsOrdered, IsSound, EachValue}
use Rattle.flute_join.specs.declared.cell.Cell.{Cell}
use Rattle.flute_join.specs.declared.cell.Cell.TheVariants.{Absent}
use Rattle.flute_parts.specs.declared.symbol_id.SymbolId.{SymbolId}
use Rattle.flute_parts.specs.Order.{session_cmp, object_cmp, symbol_id_cmp}
use Rattle.flute_parts.specs.Session.{Session}
use Rattle.flute_parts.specs.declared.object_key.ObjectName.{ObjectName}
use Rattle.flute_store.specs.declared.object.Object.{Object}

-- the symbols ascend and are within the limit, and something is known of each
pub record AreSymbols (limit : ℕ) (symbols : List (SymbolId × Cell (List ℕ))) : Type 0 where
  pub ordered : IsOrdered symbol_id_cmp symbols
  pub within : length symbols ≤ limit
  pub each : EachValue IsKnown symbols

module _ {symbols : ℕ} where
  -- something is known of the object
  pub record IsObject (x : Object symbols) : Type 0 where
    pub symbols_are : AreSymbols symbols x.symbols
    pub some : x.info ≡ Absent → x.symbols ≢ []

  -- a session has an object
  abbrev pub IsSession : ℕ → List (ObjectName × Object symbols) → Type 0
  IsSession objects = IsSound object_cmp objects IsObject

  -- the sessions ascend and are within the limit
  pub record IsStore (sessions objects : ℕ)
      (m : List (Session × List (ObjectName × Object symbols))) : Type 0 where
    pub ordered : IsOrdered session_cmp m
    pub within : length m ≤ sessions
    pub each : EachValue (IsSession objects) m
