-- What is held already.
use Rattle.std.specs.Prelude.{◌≢◌, List, None}
use Rattle.flute_parts.specs.declared.key.Key.{Key}
use Rattle.flute_parts.specs.declared.address.Part.{Part}
use Rattle.flute_parts.specs.declared.fact.Fact.{Fact}
use Rattle.flute_parts.specs.declared.fact.Fact.TheVariants.{Info, InfoConflict, Symbol}
use Rattle.flute_parts.specs.declared.fact.Fact.TheVariants.{SymbolConflict}
use Rattle.flute_parts.specs.Addresses.{symbol_address}
use Rattle.flute_parts.specs.Facts.{fact_at}

-- something of the object is held
abbrev pub HoldsObject : List Fact → Key → Type 0
HoldsObject F key = (part : Part) × (fact_at F (record { key = key; part = part }) ≢ None)

-- the fact needs no new session, object or symbol: its symbol is held, or, of transmission
-- information, something of its object
abbrev pub HasCell : List Fact → Fact → Type 0
HasCell F (Info key info) = HoldsObject F key
HasCell F (InfoConflict key) = HoldsObject F key
HasCell F (Symbol key id bytes) = fact_at F (symbol_address key id) ≢ None
HasCell F (SymbolConflict key id) = fact_at F (symbol_address key id) ≢ None
