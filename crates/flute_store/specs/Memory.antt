-- What asks for memory.
use Rattle.std.specs.Prelude.{◌≡◌, List, None, Contains}
use Rattle.flute_parts.specs.declared.fact.Fact.{Fact}
use Rattle.flute_parts.specs.Addresses.{address}
use Rattle.flute_parts.specs.Facts.{fact_at}

-- some fact of the second list has an address that none of the first has
abbrev pub HasNew : List Fact → List Fact → Type 0
HasNew F G = (fact : Fact) × Contains G fact × (fact_at F (address fact) ≡ None)
