-- Laws of lists of facts, of partitions and of transmission information.
use Rattle.std.specs.Prelude.{◌≡◌, ℕ, ◌+◌, ◌-◌, ◌<◌, ◌⊎◌, true, length}
use Rattle.std.specs.Prelude.{slice_get, slice_index, List, ◌++◌, Contains, ◌↔◌, Some}
use Rattle.std.specs.Prelude.{None}
use Rattle.std.specs.declared.cmp.Ordering.TheVariants.{Less}
use Rattle.flute_parts.specs.Information.{Information, sizes, IsValid, info_fault, symbol_count}
use Rattle.flute_parts.specs.Order.{symbol_id_cmp}
use Rattle.flute_parts.specs.Partition.{symbol_id, ids, place, fits, last_length}
use Rattle.flute_parts.specs.Addresses.{address}
use Rattle.flute_parts.specs.Facts.{conflict_at, fact_at, Same, SameMembers, Below, IsRising}
use Rattle.flute_parts.specs.Limits.{Over}
use Rattle.flute_parts.specs.declared.address.Address.{Address}
use Rattle.flute_parts.specs.declared.symbol_id.SymbolId.{SymbolId}
use Rattle.flute_parts.specs.declared.fact.Fact.{Fact}

-- only the members of a list matter, so neither order nor repeats do
abbrev pub MembersDecide : Type 0
MembersDecide = (F G : List Fact) → SameMembers F G → Same F G

-- lists of facts contain the same in any order
abbrev pub OrderIsFree : Type 0
OrderIsFree = (F G : List Fact) → Same (F ++ G) (G ++ F)

-- a list twice contains the same as once
abbrev pub RepeatsAreFree : Type 0
RepeatsAreFree = (F : List Fact) → Same (F ++ F) F

-- lists stay the same, or one below the other, if such lists are appended to both
abbrev pub AppendKeepsSame : Type 0
AppendKeepsSame = (F G H K : List Fact) → Same F G → Same H K → Same (F ++ H) (G ++ K)

-- appending lists that are below two others gives one below both of these
abbrev pub AppendKeepsBelow : Type 0
AppendKeepsBelow = (F G H K : List Fact) → Below F G → Below H K → Below (F ++ H) (G ++ K)

-- each list is below itself
abbrev pub BelowIsReflexive : Type 0
BelowIsReflexive = (F : List Fact) → Below F F

-- what is below a list is below all above that
abbrev pub BelowIsTransitive : Type 0
BelowIsTransitive = (F G H : List Fact) → Below F G → Below G H → Below F H

-- lists that are below each other contain the same
abbrev pub BelowBothWays : Type 0
BelowBothWays = (F G : List Fact) → Below F G → Below G F → Same F G

-- limits that are passed stay passed
abbrev pub OverIsMonotone : Type 0
OverIsMonotone = (F G : List Fact) (s o y : ℕ) → Below F G → Over F s o y → Over G s o y

-- the value at an address is nothing, the one value of the facts there, or the conflict of two
abbrev pub AbsentWhereNoneStands : Type 0
AbsentWhereNoneStands =
    (F : List Fact) (a : Address)
    → (fact_at F a ≡ None) ↔ ((f : Fact) → Contains F f → address f ≡ a → ⊥)

-- an address has one value if all facts there agree
abbrev pub ValueWhereAllAgree : Type 0
ValueWhereAllAgree =
    (F : List Fact) (a : Address) (f : Fact) → Contains F f → address f ≡ a
    → ((g : Fact) → Contains F g → address g ≡ a → g ≡ f) → fact_at F a ≡ Some f

-- an address has a conflict if two facts there differ
abbrev pub ConflictWhereTwoDiffer : Type 0
ConflictWhereTwoDiffer =
    (F : List Fact) (a : Address) (f g : Fact) → Contains F f → Contains F g → address f ≡ a
    → address g ≡ a → (f ≡ g → ⊥) → fact_at F a ≡ Some (conflict_at a)

-- a conflict stays one, whatever other facts there are
abbrev pub ConflictWhereOneIsTold : Type 0
ConflictWhereOneIsTold =
    (F : List Fact) (a : Address) → Contains F (conflict_at a) → fact_at F a ≡ Some (conflict_at a)

-- what a look-up finds at an address is of that address
abbrev pub AnswersStandThere : Type 0
AnswersStandThere = (F : List Fact) (a : Address) (f : Fact) → fact_at F a ≡ Some f → address f ≡ a

-- a rising list has one fact at an address, which is its value there, and no two of them
-- have the same values
abbrev pub RisingHasOneFact : Type 0
RisingHasOneFact =
    (F : List Fact) (f g : Fact) → IsRising F → Contains F f → Contains F g → address f ≡ address g
    → f ≡ g

-- a list of rising addresses has its own fact at each
abbrev pub RisingTellsItsFacts : Type 0
RisingTellsItsFacts =
    (F : List Fact) (f : Fact) → IsRising F → Contains F f → fact_at F (address f) ≡ Some f

-- of the lists that contain the same one alone has rising addresses
abbrev pub RisingIsUnique : Type 0
RisingIsUnique = (F G : List Fact) → IsRising F → IsRising G → Same F G → F ≡ G

-- the place of a symbol is where the listing has it
abbrev pub PlacesAreInverse : Type 0
PlacesAreInverse =
    (info : Information) (id : SymbolId) (k : ℕ)
    → (place info id ≡ Some k) ↔ (slice_get (ids info) k ≡ Some id)

-- the symbols of a partition rise
abbrev pub IdsRise : Type 0
IdsRise =
    (info : Information) (j k : ℕ) (a b : SymbolId) → j < k → slice_get (ids info) j ≡ Some a
    → slice_get (ids info) k ≡ Some b → symbol_id_cmp a b ≡ Less

-- and those of a block follow one another
abbrev pub IdsFollow : Type 0
IdsFollow =
    (info : Information) (k : ℕ) (id : SymbolId) → slice_get (ids info) k ≡ Some id
    → id.esi + 1 < slice_index (sizes info) id.sbn
    → slice_get (ids info) (k + 1) ≡ Some (symbol_id id.sbn (id.esi + 1))

-- valid transmission information gives as many symbols as its transfer length needs
abbrev pub IdsAreCounted : Type 0
IdsAreCounted = (info : Information) → IsValid info → length (ids info) ≡ symbol_count info

-- a symbol fits if it is of the partition and has the full length, or is the last and has
-- its length without padding
abbrev pub FitsMeans : Type 0
FitsMeans =
    (info : Information) (id : SymbolId) (n : ℕ) → IsValid info
    → (fits info id n ≡ true)
    ↔ (Contains (ids info) id
    × ((n ≡ info.symbol_length)
    ⊎ ((slice_get (ids info) (length (ids info) - 1) ≡ Some id) × (n ≡ last_length info))))

-- transmission information is valid exactly if it has no fault
abbrev pub ValidHasNoFault : Type 0
ValidHasNoFault = (info : Information) → IsValid info ↔ (info_fault info ≡ None)
