-- Laws of objects and of their gaps.
use Rattle.std.specs.Prelude.{◌≡◌, List, [], length, flat_map, ◌↔◌, Some}
use Rattle.flute_parts.specs.Information.{Information, IsValid}
use Rattle.flute_parts.specs.Addresses.{info_address}
use Rattle.flute_parts.specs.Facts.{fact_at, Same}
use Rattle.flute_parts.specs.declared.key.Key.{Key}
use Rattle.flute_parts.specs.declared.fact.Fact.{Fact}
use Rattle.flute_parts.specs.declared.fact.Fact.TheVariants.{Info}
use Rattle.flute_store.specs.declared.gap.Gap.{Gap}
use Rattle.flute_store.specs.Objects.{Whole, object, wants, gaps, listed, AreRuns}

-- lists with the same value at each address have the same whole objects, bytes and gaps
abbrev pub SameWhole : Type 0
SameWhole =
    (F G : List Fact) (key : Key) (info : Information) → Same F G → Whole F key info
    → Whole G key info

-- the same facts make the same object
abbrev pub SameObject : Type 0
SameObject =
    (F G : List Fact) (key : Key) (info : Information) → Same F G
    → object F key info ≡ object G key info

-- the same facts leave the same gaps
abbrev pub SameGaps : Type 0
SameGaps =
    (F G : List Fact) (key : Key) (info : Information) → Same F G
    → gaps F key info ≡ gaps G key info

-- gaps are maximal runs that list the wanted symbols, and nothing else is
abbrev pub GapsListWants : Type 0
GapsListWants =
    (F : List Fact) (key : Key) (info : Information)
    → flat_map listed (gaps F key info) ≡ wants F key info

-- each gap is a longest run of one block and one reason
abbrev pub GapsAreRuns : Type 0
GapsAreRuns = (F : List Fact) (key : Key) (info : Information) → AreRuns (gaps F key info)

-- no other list of runs has the symbols that are wanted
abbrev pub GapsAreUnique : Type 0
GapsAreUnique =
    (F : List Fact) (key : Key) (info : Information) (others : List Gap)
    → flat_map listed others ≡ wants F key info → AreRuns others → others ≡ gaps F key info

-- an object with one information is whole exactly if it has no gap
abbrev pub WholeHasNoGap : Type 0
WholeHasNoGap =
    (F : List Fact) (key : Key) (info : Information)
    → fact_at F (info_address key) ≡ Some (Info key info)
    → Whole F key info ↔ (gaps F key info ≡ [])

-- a whole object has as many bytes as its transfer length says
abbrev pub WholeHasItsLength : Type 0
WholeHasItsLength =
    (F : List Fact) (key : Key) (info : Information) → IsValid info → Whole F key info
    → length (object F key info) ≡ info.transfer_length
