-- What a walk has left.
use Rattle.std.specs.Prelude.{List, [], flat_map, Option, Some, None, IfSome}
use Rattle.std.specs.Iterator.{YieldsFirstBy}
use Rattle.std.specs.Borrow.{Bor}
use Rattle.flute_join.specs.declared.cell.Cell.{Cell}
use Rattle.flute_parts.specs.Information.{Information}
use Rattle.flute_parts.specs.declared.fact.Fact.{Fact}
use Rattle.flute_parts.specs.declared.fact.Fact.TheVariants.{Symbol}
use Rattle.flute_parts.specs.declared.fact.FactRef.{FactRef}
use Rattle.flute_parts.specs.SymbolBytes.{HasSymbolSize}
use Rattle.flute_parts.specs.declared.key.Key.{Key}
use Rattle.flute_parts.specs.Addresses.{fact_of}
use Rattle.flute_store.specs.Content.{info_cell_facts}

-- the fact of transmission information, if that is left
abbrev pub info_left : Key → Option (Bor (Cell Information)) → List Fact
info_left key None = []
info_left key (Some info) = info_cell_facts key info.now

-- what is left of an iterator, if there is one
abbrev pub option_rest : {X : Type 0} → Option (List X) → List X
option_rest None = []
option_rest (Some rest) = rest

-- the facts of these objects, given those of one
abbrev pub facts_in : {O : Type 0} → (Key → O → List Fact) → List (Key × O) → List Fact
facts_in facts_of objects = flat_map (λ e. facts_of e.0 e.1) objects

-- the bytes of a symbol are as many as one has; the types of all other parts have their ranges
abbrev pub IsSized : Fact → Type 0
IsSized (Symbol key id bytes) = HasSymbolSize bytes
IsSized _ = Unit {0}

-- the next fact is given, with bytes of a symbol's size, and the others are left
abbrev pub YieldsFact : {S : Type 0} → (S → List Fact) → S → Option FactRef → S → Type 0
YieldsFact rest s r t = YieldsFirstBy fact_of rest s r t × IfSome r (λ fact. IsSized (fact_of fact))
