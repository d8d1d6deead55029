-- What facts show of the symbols of an object.
use Rattle.std.specs.Prelude.{ℕ, if◌then◌else◌, List, [], ◌∷◌, ◌++◌}
use Rattle.flute_join.specs.declared.cell.Cell.{Cell}
use Rattle.flute_join.specs.declared.cell.Cell.TheVariants.{One, Conflict}
use Rattle.flute_parts.specs.Order.{same_key}
use Rattle.flute_parts.specs.declared.key.Key.{Key}
use Rattle.flute_parts.specs.declared.symbol_id.SymbolId.{SymbolId}
use Rattle.flute_parts.specs.declared.fact.Fact.{Fact}
use Rattle.flute_parts.specs.declared.fact.Fact.TheVariants.{Symbol, SymbolConflict}

-- what a fact adds to the symbols of an object
abbrev pub shown_by : Key → Fact → List (SymbolId × Cell (List ℕ))
shown_by key (Symbol k id bytes) = if same_key k key then (id, One bytes) ∷ [] else []
shown_by key (SymbolConflict k id) = if same_key k key then (id, Conflict) ∷ [] else []
shown_by key _ = []

-- the symbols that have a fact, in the order of the facts
unfoldable pub shown : Key → List Fact → List (SymbolId × Cell (List ℕ))
shown key [] = []
shown key (f ∷ F) = shown_by key f ++ shown key F
