-- How many bytes of memory held facts are counted for, which `--memory` bounds.
use Rattle.std.specs.Prelude.{ℕ, ◌+◌, List, [], ◌∷◌, length, Option, Some, None, if◌then◌else◌}
use Rattle.flute_parts.specs.Addresses.{address}
use Rattle.flute_parts.specs.Order.{same_object, same_session}
use Rattle.flute_parts.specs.declared.key.Key.{Key}
use Rattle.flute_parts.specs.declared.fact.Fact.{Fact}
use Rattle.flute_parts.specs.declared.fact.Fact.TheVariants.{Symbol}
use Rattle.flutejoin.specs.declared.join.held_size.TheConstants.{FACT, OBJECT, SESSION}

-- a fact, with the bytes of its symbol
abbrev pub fact_size : Fact → ℕ
fact_size (Symbol key id bytes) = FACT + length bytes
fact_size f = FACT

-- and once for its object and for its session, if the fact before is of another
abbrev pub begun_size : Option Key → Key → ℕ
begun_size None key = OBJECT + SESSION
begun_size (Some last) key =
    if same_session last.session key.session
    then (if same_object last.object key.object then 0 else OBJECT)
    else (OBJECT + SESSION)

-- facts in the order of their addresses, after one of the last object
unfoldable pub size_after : Option Key → List Fact → ℕ
size_after last [] = 0
size_after last (f ∷ F) =
    begun_size last (address f).key + fact_size f + size_after (Some (address f).key) F

-- each fact, each object and each session
abbrev pub held_size : List Fact → ℕ
held_size F = size_after None F
