-- A stream of a store's facts: what is held, and its address.
use Rattle.std.specs.Prelude.{Option, Some, None}
use Rattle.flute_parts.specs.Addresses.{fact_of}
use Rattle.flute_parts.specs.declared.address.Address.{Address}
use Rattle.flute_parts.specs.declared.fact.Fact.{Fact}
use Rattle.flute_parts.specs.declared.fact.FactRef.{FactRef}

-- the fact at which a walk over a store is
abbrev pub held_fact : Option (Address × FactRef) → Option Fact
held_fact None = None
held_fact (Some held) = Some (fact_of held.1)

-- the address at which a walk over a store is
abbrev pub held_place : Option (Address × FactRef) → Option Address
held_place None = None
held_place (Some held) = Some held.0
