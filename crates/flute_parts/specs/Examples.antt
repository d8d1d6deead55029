-- Partitions, values at addresses, limits and the order of addresses, computed.
use Rattle.std.specs.Prelude.{◌≡◌, ◌^◌, true, false, refl, List, [], ◌∷◌, ◌++◌}
use Rattle.std.specs.Prelude.{length, slice_get, Some, None}
use Rattle.std.specs.declared.cmp.Ordering.TheVariants.{Less}
use Rattle.flute_parts.specs.declared.info.InfoFault.TheVariants.{Length, SymbolLength, BlockLength}
use Rattle.flute_parts.specs.declared.info.InfoFault.TheVariants.{TooManyBlocks, BlockTooLong}
use Rattle.flute_parts.specs.declared.object_key.ObjectName.{ObjectName}
use Rattle.flute_parts.specs.declared.object_key.ObjectName.TheVariants.{Instance, File}
use Rattle.flute_parts.specs.declared.key.Key.{Key}
use Rattle.flute_parts.specs.declared.fact.Fact.{Fact}
use Rattle.flute_parts.specs.declared.fact.Fact.TheVariants.{Info, InfoConflict, Symbol}
use Rattle.flute_parts.specs.declared.fact.Fact.TheVariants.{SymbolConflict}
use Rattle.flute_parts.specs.Session.{session}
use Rattle.flute_parts.specs.Information.{Information, information, info_fault, sizes}
use Rattle.flute_parts.specs.Order.{address_cmp}
use Rattle.flute_parts.specs.Addresses.{info_address, symbol_address}
use Rattle.flute_parts.specs.Partition.{symbol_id, ids, place, fits}
use Rattle.flute_parts.specs.Facts.{fact_at, IsRising}
use Rattle.flute_parts.specs.Limits.{sessions, objects, symbols}
use Rattle.flute_parts.specs.Tally.{last_key}

-- ten symbols of one byte, in blocks of at most four
abbrev ten : Information
ten = information 10 1 4

ten-sizes : sizes ten ≡ 4 ∷ 3 ∷ 3 ∷ []
unfolding sizes
ten-sizes = refl

ten-places : (place ten (symbol_id 0 3) ≡ Some 3) × (place ten (symbol_id 1 0) ≡ Some 4)
    × (place ten (symbol_id 2 2) ≡ Some 9) × (place ten (symbol_id 1 3) ≡ None)
    × (place ten (symbol_id 3 0) ≡ None)
unfolding sizes ids place
ten-places = (refl, refl, refl, refl, refl)

ten-ids : (slice_get (ids ten) 9 ≡ Some (symbol_id 2 2)) × (slice_get (ids ten) 10 ≡ None)
unfolding sizes ids
ten-ids = (refl, refl)

-- three blocks of one symbol of four bytes, the last of which is short
abbrev short : Information
short = information 10 4 1

short-sizes : sizes short ≡ 1 ∷ 1 ∷ 1 ∷ []
unfolding sizes
short-sizes = refl

short-fits : (fits short (symbol_id 2 0) 4 ≡ true) × (fits short (symbol_id 2 0) 2 ≡ true)
    × (fits short (symbol_id 2 0) 3 ≡ false) × (fits short (symbol_id 0 0) 2 ≡ false)
    × (fits short (symbol_id 0 0) 4 ≡ true) × (fits short (symbol_id 0 1) 4 ≡ false)
unfolding sizes ids place fits
short-fits = (refl, refl, refl, refl, refl, refl)

faults : (info_fault (information 65536 1 4294967295) ≡ None)
    × (info_fault (information 65537 1 4294967295) ≡ Some BlockTooLong)
    × (info_fault (information 65536 1 1) ≡ None)
    × (info_fault (information 65537 1 1) ≡ Some TooManyBlocks)
    × (info_fault (information (2 ^ 48) 0 0) ≡ Some Length)
    × (info_fault (information 1 0 0) ≡ Some SymbolLength)
    × (info_fault (information 1 1 0) ≡ Some BlockLength) × (info_fault (information 0 0 0) ≡ None)
faults = (refl, refl, refl, refl, refl, refl, refl, refl)

one_block : sizes (information 65536 1 4294967295) ≡ 65536 ∷ []
unfolding sizes
one_block = refl

no_block : sizes (information 0 0 0) ≡ []
unfolding sizes
no_block = refl

abbrev key_of : ObjectName → Key
key_of object = record { session = session 0 7; object = object }

abbrev key : Key
key = key_of (File 1)

-- a file of two symbols
abbrev two : Information
two = information 5 4 2

abbrev first : Fact
first = Symbol key (symbol_id 0 0) (104 ∷ 101 ∷ 108 ∷ 108 ∷ [])

abbrev second : Fact
second = Symbol key (symbol_id 0 1) (111 ∷ [])

-- the second symbol with its padding
abbrev padded : Fact
padded = Symbol key (symbol_id 0 1) (111 ∷ 0 ∷ 0 ∷ 0 ∷ [])

abbrev known : List Fact
known = Info key two ∷ first ∷ Info key two ∷ second ∷ []

known-facts : (fact_at known (info_address key) ≡ Some (Info key two))
    × (fact_at known (symbol_address key (symbol_id 0 0)) ≡ Some first)
    × (fact_at known (symbol_address key (symbol_id 0 1)) ≡ Some second)
    × (fact_at known (symbol_address key (symbol_id 1 0)) ≡ None)
unfolding fact_at
known-facts = (refl, refl, refl, refl)

-- the short form of a symbol and the padded one are two values
two_forms-conflict : fact_at (known ++ padded ∷ []) (symbol_address key (symbol_id 0 1))
    ≡ Some (SymbolConflict key (symbol_id 0 1))
unfolding fact_at
two_forms-conflict = refl

-- a conflict stays one when the first value comes again
information-conflict :
    (fact_at (Info key two ∷ Info key (information 5 4 3) ∷ []) (info_address key)
    ≡ Some (InfoConflict key))
    × (fact_at (Info key two ∷ Info key (information 5 4 3) ∷ Info key two ∷ []) (info_address key)
    ≡ Some (InfoConflict key))
    × (fact_at (InfoConflict key ∷ Info key two ∷ []) (info_address key) ≡ Some (InfoConflict key))
    × (fact_at (Info key two ∷ Info key two ∷ []) (info_address key) ≡ Some (Info key two))
unfolding fact_at
information-conflict = (refl, refl, refl, refl)

-- what limits count: sessions, the objects of one and the symbols of one object
limits : (length (sessions known) ≡ 1)
    × (objects (known ++ InfoConflict (key_of (Instance 3)) ∷ []) (session 0 7)
    ≡ File 1 ∷ Instance 3 ∷ [])
    × (symbols (known ++ padded ∷ []) key ≡ symbol_id 0 0 ∷ symbol_id 0 1 ∷ [])
unfolding sessions objects symbols
limits = (refl, refl, refl)

-- a tally continues from the object of the last fact
last_objects :
    (last_key [] ≡ None) × (last_key (InfoConflict (key_of (Instance 3)) ∷ known) ≡ Some key)
last_objects = (refl, refl)

-- an FDT Instance is before every file, and information before symbols
ordered :
    (address_cmp (symbol_address (key_of (Instance 9)) (symbol_id 5 5)) (info_address key) ≡ Less)
    × (address_cmp (info_address key) (symbol_address key (symbol_id 0 0)) ≡ Less)
    × (address_cmp (symbol_address key (symbol_id 0 9)) (symbol_address key (symbol_id 1 0)) ≡ Less)
ordered = (refl, refl, refl)

rising : IsRising (Info key two ∷ first ∷ second ∷ [])
rising = ((refl, (refl, tt)), ((refl, tt), (tt, tt)))
