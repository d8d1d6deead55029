-- What is written of a fact after the fixed part of its entry.
use Rattle.std.specs.Prelude.{ℕ, List, []}
use Rattle.flute_parts.specs.declared.fact.Fact.{Fact}
use Rattle.flute_parts.specs.declared.fact.Fact.TheVariants.{Symbol}

-- the bytes of the symbol, which end an entry
abbrev pub symbol_value : Fact → List ℕ
symbol_value (Symbol key id bytes) = bytes
symbol_value f = []
