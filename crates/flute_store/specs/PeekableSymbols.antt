-- The held symbols of an object that are left.
use Rattle.std.specs.Prelude.{◌≡◌, ℕ, List, [], ◌∷◌, Option, Some, None}
use Rattle.std.specs.Borrow.{Bor}
use Rattle.flute_join.specs.declared.cell.Cell.{Cell}
use Rattle.flute_parts.specs.declared.symbol_id.SymbolId.{SymbolId}

-- the first one, if there is one, and the others
abbrev pub entries : Option (Bor SymbolId × Bor (Cell (List ℕ))) → List (SymbolId × Cell (List ℕ))
    → List (SymbolId × Cell (List ℕ))
entries None rest = rest
entries (Some e) rest = (e.0.now, e.1.now) ∷ rest

-- without a first one there are no others
abbrev pub AreLast : Option (Bor SymbolId × Bor (Cell (List ℕ))) → List (SymbolId × Cell (List ℕ))
    → Type 0
AreLast None rest = rest ≡ []
AreLast (Some e) rest = Unit {0}

-- the first one of these
abbrev pub ShowsFirst : List (SymbolId × Cell (List ℕ)) → Option (SymbolId × Bor (Cell (List ℕ)))
    → Type 0
ShowsFirst held None = held ≡ []
ShowsFirst held (Some e) = (rest : List (SymbolId × Cell (List ℕ))) × (held ≡ (e.0, e.1.now) ∷ rest)
