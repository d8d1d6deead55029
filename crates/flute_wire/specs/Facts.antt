-- The facts of a packet from a sender.
use Rattle.std.specs.Prelude.{ℕ, List, [], ◌∷◌, ◌++◌, Option, Some, None}
use Rattle.flute_parts.specs.Session.{session}
use Rattle.flute_parts.specs.Information.{Information}
use Rattle.flute_parts.specs.declared.symbol_id.SymbolId.{SymbolId}
use Rattle.flute_parts.specs.declared.object_key.ObjectName.{ObjectName}
use Rattle.flute_parts.specs.declared.object_key.ObjectName.TheVariants.{Instance, File}
use Rattle.flute_parts.specs.declared.key.Key.{Key}
use Rattle.flute_parts.specs.declared.fact.Fact.{Fact}
use Rattle.flute_parts.specs.declared.fact.Fact.TheVariants.{Info, Symbol}
use Rattle.flute_wire.specs.Content.{Content}

-- an FDT Instance by its ID, or a file by its TOI (RFC 6726, 3.4)
abbrev pub object_named : ℕ → Option ℕ → ObjectName
object_named toi (Some instance) = Instance instance
object_named toi None = File toi

-- a session is named by its sender and its TSI (RFC 5651, 5.1)
abbrev pub key_of : ℕ → Content → Key
key_of sender c = record { session = session sender c.tsi; object = object_named c.toi c.instance }

-- the fact of a packet's transmission information, if it has any
abbrev pub info_facts : Key → Option Information → List Fact
info_facts key None = []
info_facts key (Some info) = Info key info ∷ []

-- the fact of a packet's symbol, if it has one
abbrev pub symbol_facts : Key → Option (SymbolId × List ℕ) → List Fact
symbol_facts key None = []
symbol_facts key (Some symbol) = Symbol key symbol.0 symbol.1 ∷ []

-- the transmission information of its object, if there is any, and then the symbol, if there is one
abbrev pub facts_of : ℕ → Content → List Fact
facts_of sender c = info_facts (key_of sender c) c.info ++ symbol_facts (key_of sender c) c.symbol
