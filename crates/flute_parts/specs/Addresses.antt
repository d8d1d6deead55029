-- The addresses of facts.
use Rattle.std.specs.Prelude.{ℕ, List, []}
use Rattle.flute_parts.specs.declared.key.Key.{Key}
use Rattle.flute_parts.specs.declared.symbol_id.SymbolId.{SymbolId}
use Rattle.flute_parts.specs.declared.address.Part.TheVariants.{Info as InfoPart}
use Rattle.flute_parts.specs.declared.address.Part.TheVariants.{Symbol as SymbolPart}
use Rattle.flute_parts.specs.declared.address.Address.{Address}
use Rattle.flute_parts.specs.declared.fact.Fact.{Fact}
use Rattle.flute_parts.specs.declared.fact.Fact.TheVariants.{Info, InfoConflict, Symbol}
use Rattle.flute_parts.specs.declared.fact.Fact.TheVariants.{SymbolConflict}
use Rattle.flute_parts.specs.declared.fact.FactRef.{FactRef}
use Rattle.flute_parts.specs.declared.fact.FactRef.TheVariants.{Info as InfoRef}
use Rattle.flute_parts.specs.declared.fact.FactRef.TheVariants.{InfoConflict as InfoConflictRef}
use Rattle.flute_parts.specs.declared.fact.FactRef.TheVariants.{Symbol as SymbolRef}
use Rattle.flute_parts.specs.declared.fact.FactRef.TheVariants.{SymbolConflict as SymbolConflictRef}

-- the address of the transmission information of an object, and of a symbol of it
abbrev pub info_address : Key → Address
info_address key = record { key = key; part = InfoPart }

-- the address of a symbol of an object
abbrev pub symbol_address : Key → SymbolId → Address
symbol_address key id = record { key = key; part = SymbolPart id }

-- the address of a fact
abbrev pub address : Fact → Address
address (Info key info) = info_address key
address (InfoConflict key) = info_address key
address (Symbol key id bytes) = symbol_address key id
address (SymbolConflict key id) = symbol_address key id

-- a fact whose bytes are borrowed, as a fact
abbrev pub fact_of : FactRef → Fact
fact_of (InfoRef key info) = Info key info
fact_of (InfoConflictRef key) = InfoConflict key
fact_of (SymbolRef key id bytes) = Symbol key id bytes.now
fact_of (SymbolConflictRef key id) = SymbolConflict key id

-- the bytes of a symbol, and none of another fact
abbrev pub bytes_of : Fact → List ℕ
bytes_of (Symbol key id bytes) = bytes
bytes_of _ = []
