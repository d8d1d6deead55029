-- Objects, their gaps and what is held of them, computed for objects of a few symbols.
use Rattle.std.specs.Prelude.{◌≡◌, ℕ, refl, List, [], ◌∷◌, ◌++◌, length}
use Rattle.flute_parts.specs.declared.key.Key.{Key}
use Rattle.flute_parts.specs.declared.object_key.ObjectName.TheVariants.{File}
use Rattle.flute_parts.specs.declared.fact.Fact.{Fact}
use Rattle.flute_parts.specs.declared.fact.Fact.TheVariants.{Info, Symbol, SymbolConflict}
use Rattle.flute_parts.specs.Session.{session}
use Rattle.flute_parts.specs.Information.{Information, information, sizes}
use Rattle.flute_parts.specs.Partition.{symbol_id, ids, place, fits}
use Rattle.flute_parts.specs.Facts.{fact_at}
use Rattle.flute_store.specs.declared.gap.Reason.{Reason}
use Rattle.flute_store.specs.declared.gap.Reason.TheVariants.{Missing, Conflicting, Misfit}
use Rattle.flute_store.specs.declared.gap.Gap.{Gap}
use Rattle.flute_store.specs.Objects.{object, wants, runs, gaps}

abbrev gap : ℕ → ℕ → ℕ → Reason → Gap
gap n i j r = record { sbn = n; first = i; last = j; reason = r }

abbrev key : Key
key = record { session = session 0 7; object = File 1 }

-- a file of two symbols
abbrev two : Information
two = information 5 4 2

abbrev hell : List ℕ
hell = 104 ∷ 101 ∷ 108 ∷ 108 ∷ []

abbrev first : List Fact
first = Info key two ∷ Symbol key (symbol_id 0 0) hell ∷ []

abbrev last : List ℕ → Fact
last = Symbol key (symbol_id 0 1)

-- the last symbol without its padding and with it
whole_object : (object (first ++ last (111 ∷ []) ∷ []) key two ≡ hell ++ 111 ∷ [])
    × (gaps (first ++ last (111 ∷ []) ∷ []) key two ≡ [])
unfolding sizes ids place fits fact_at object wants runs
whole_object = (refl, refl)

padded_object : (object (first ++ last (111 ∷ 0 ∷ 0 ∷ 0 ∷ []) ∷ []) key two ≡ hell ++ 111 ∷ [])
    × (gaps (first ++ last (111 ∷ 0 ∷ 0 ∷ 0 ∷ []) ∷ []) key two ≡ [])
unfolding sizes ids place fits fact_at object wants runs
padded_object = (refl, refl)

-- nothing of the last symbol, or both forms of it, or a value of another length
one_gap : (gaps first key two ≡ gap 0 1 1 Missing ∷ [])
    × (gaps (first ++ last (111 ∷ []) ∷ last (111 ∷ 0 ∷ 0 ∷ 0 ∷ []) ∷ []) key two
    ≡ gap 0 1 1 Conflicting ∷ [])
    × (gaps (first ++ last (111 ∷ 33 ∷ []) ∷ []) key two ≡ gap 0 1 1 Misfit ∷ [])
unfolding sizes ids place fits fact_at wants runs
one_gap = (refl, refl, refl)

-- ten symbols of one byte, in blocks of four, three and three
abbrev ten : Information
ten = information 10 1 4

-- a symbol of the partition, and one that it does not have
abbrev stray : List Fact
stray =
    Info key ten ∷ Symbol key (symbol_id 0 3) (97 ∷ []) ∷ Symbol key (symbol_id 1 3) (97 ∷ []) ∷ []

stray_gaps : (length (wants stray key ten) ≡ 9)
    × (gaps stray key ten ≡ gap 0 0 2 Missing ∷ gap 1 0 2 Missing ∷ gap 2 0 2 Missing ∷ [])
unfolding sizes ids place fits fact_at wants runs
stray_gaps = (refl, refl)

-- gaps of each reason side by side
abbrev mixed : List Fact
mixed =
    Info key ten ∷ Symbol key (symbol_id 0 0) (97 ∷ []) ∷ Symbol key (symbol_id 2 2) (97 ∷ [])
    ∷ SymbolConflict key (symbol_id 0 1) ∷ Symbol key (symbol_id 0 2) (97 ∷ 98 ∷ []) ∷ []

mixed_gaps : (length (wants mixed key ten) ≡ 8)
    × (gaps mixed key ten
    ≡ gap 0 1 1 Conflicting ∷ gap 0 2 2 Misfit ∷ gap 0 3 3 Missing ∷ gap 1 0 2 Missing
    ∷ gap 2 0 1 Missing ∷ [])
unfolding sizes ids place fits fact_at wants runs
mixed_gaps = (refl, refl)
