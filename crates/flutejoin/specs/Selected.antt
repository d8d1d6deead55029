-- The entries of a journal that a command takes of it.
use Rattle.std.specs.Prelude.{Bool, ◌&&◌, List, Option, filter}
use Rattle.std.specs.BTreeSet.{BTreeSet}
use Rattle.flute_parts.specs.Addresses.{address}
use Rattle.flute_parts.specs.declared.fact.Fact.{Fact}
use Rattle.flute_parts.specs.declared.key.Key.{Key}
use Rattle.flute_streams.specs.Selections.{is_listed, selects}
use Rattle.flute_streams.specs.declared.choice.selection.Selection.{Selection}

-- those of the facts that are selected, in their order
abbrev pub selected : Selection → List Fact → List Fact
selected s facts = filter (selects s) facts

-- a fact is picked that is picked otherwise, and whose object is listed if there is a list
abbrev pub picks_listed : Option (BTreeSet Key) → (Fact → Bool) → Fact → Bool
picks_listed listed picks fact = is_listed listed (address fact).key && picks fact
