-- What replicas that add, merge and reopen know, computed for three of a small object.
use Rattle.std.specs.Prelude.{◌≡◌, ◌==◌, ℕ, refl, codes, true, false, if◌then◌else◌, List, []}
use Rattle.std.specs.Prelude.{◌∷◌, Option, Some, None, count_by}
use Rattle.flute_parts.specs.Session.{session}
use Rattle.flute_parts.specs.Information.{information}
use Rattle.flute_parts.specs.Addresses.{info_address, symbol_address}
use Rattle.flute_parts.specs.Facts.{fact_at}
use Rattle.flute_parts.specs.declared.key.Key.{Key}
use Rattle.flute_parts.specs.declared.object_key.ObjectName.TheVariants.{File}
use Rattle.flute_parts.specs.declared.symbol_id.SymbolId.{SymbolId}
use Rattle.flute_parts.specs.declared.fact.Fact.{Fact}
use Rattle.flute_parts.specs.declared.fact.Fact.TheVariants.{Info, Symbol, SymbolConflict}
use Rattle.flute_wire.specs.Reading.{packet, extensions_in, facts}
use Rattle.flutejoin_replicas.specs.declared.steps.Step.{Step}
use Rattle.flutejoin_replicas.specs.declared.steps.Step.TheVariants.{Take, Load, Add, Merge, Reopen}
use Rattle.flutejoin_replicas.specs.Steps.{held_by}
use Rattle.flutejoin_replicas.specs.Known.{nothing_held, known_after, known_of_done, known_by}
use Rattle.flutejoin_replicas.specs.Counts.{is_refused_take}

-- file 1 of session 7, of 5 bytes in symbols of 4 bytes and blocks of at most 2 symbols
abbrev key : Key
key = record { session = session 0 7; object = File 1 }

abbrev id : ℕ → SymbolId
id n = record { sbn = 0; esi = n }

abbrev info : Fact
info = Info key (information 5 4 2)

abbrev hell : Fact
hell = Symbol key (id 0) (codes "hell")

abbrev letter_o : Fact
letter_o = Symbol key (id 1) (codes "o")

abbrev padded_o : Fact
padded_o = Symbol key (id 1) (0x6F ∷ 0 ∷ 0 ∷ 0 ∷ [])

-- the values of the facts at its information and its two symbols
abbrev told : List Fact → List (Option Fact)
told F =
    fact_at F (info_address key) ∷ fact_at F (symbol_address key (id 0))
    ∷ fact_at F (symbol_address key (id 1)) ∷ []

abbrev whole : List (Option Fact)
whole = Some info ∷ Some hell ∷ Some letter_o ∷ []

abbrev none : ℕ → List Fact
none k = []

-- three replicas, each given a part, merged in a ring
abbrev ring : List Step
ring = Add 0 info ∷ Add 0 hell ∷ Add 1 letter_o ∷ Add 1 info ∷ Add 2 hell
    ∷ Merge 0 1 ∷ Merge 1 2 ∷ Merge 2 0 ∷ Merge 0 2 ∷ Merge 0 0 ∷ Reopen 0 ∷ []

pub ring_first : told (known_by 3 ring none 0) ≡ whole
unfolding known_after fact_at
ring_first = refl

pub ring_second : told (known_by 3 ring none 1) ≡ whole
unfolding known_after fact_at
ring_second = refl

pub ring_third : told (known_by 3 ring none 2) ≡ whole
unfolding known_after fact_at
ring_third = refl

-- a replica that loads a journal of three facts, of which it has one
abbrev loaded : ℕ → List Fact
loaded k = if k == 1 then info ∷ hell ∷ letter_o ∷ [] else []

pub loading : told (known_by 1 (Add 0 hell ∷ Load 0 [] ∷ []) loaded 0) ≡ whole
unfolding known_after fact_at
loading = refl

-- two values are a conflict, and stay one; steps that name no replica give nothing
pub conflicting :
    told (known_by 1
    (Add 0 letter_o ∷ Add 0 padded_o ∷ Add 0 letter_o ∷ Add 7 hell ∷ Merge 0 7 ∷ Merge 7 0
    ∷ [])
    none 0)
    ≡ (None ∷ None ∷ Some (SymbolConflict key (id 1)) ∷ [])
unfolding known_after fact_at
conflicting = refl

-- if some steps are refused, what the others gave
pub stopping :
    told (held_by
    (known_of_done (nothing_held 1) (Add 0 hell ∷ Merge 0 1 ∷ Load 0 [] ∷ Add 0 letter_o
    ∷ [])
    (true ∷ false ∷ false ∷ true ∷ []) loaded)
    0)
    ≡ (None ∷ Some hell ∷ Some letter_o ∷ [])
unfolding known_after fact_at
stopping = refl

-- a datagram with the first symbol, and one of three bytes, which is refused and counted
abbrev taking : List Step
taking =
    Take 0 0 (0x10 ∷ 0xA0 ∷ 0x04 ∷ 0x00 ∷ 0x00 ∷ 0x00 ∷ 0x00 ∷ 0x00 ∷ 0x00 ∷ 0x00
    ∷ 0x00 ∷ 0x07 ∷ 0x00 ∷ 0x00 ∷ 0x00 ∷ 0x01 ∷ 0x00 ∷ 0x00 ∷ 0x00 ∷ 0x00
    ∷ 0x68 ∷ 0x65 ∷ 0x6C ∷ 0x6C ∷ []) ∷ Take 0 0 (0x10 ∷ 0xA0 ∷ 0x00 ∷ [])
    ∷ Merge 1 0 ∷ []

pub taken : known_by 2 taking none 1 ≡ (hell ∷ [])
unfolding known_after facts packet extensions_in
taken = refl

pub refused : (count_by (is_refused_take 0) taking ∷ count_by (is_refused_take 1) taking ∷ [])
    ≡ (1 ∷ 0 ∷ [])
unfolding packet extensions_in
refused = refl
