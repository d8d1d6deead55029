-- Journals and datagram files of a few entries, and their faults, computed.
use Rattle.std.specs.Prelude.{◌≡◌, refl, ℕ, ◌+◌, ◌*◌, ◌^◌, List, [], ◌∷◌}
use Rattle.std.specs.Prelude.{◌++◌, length, replicate, Option, Some, None}
use Rattle.flute_parts.specs.Session.{session}
use Rattle.flute_parts.specs.Information.{information}
use Rattle.flute_parts.specs.Facts.{IsRising, fact_at}
use Rattle.flute_parts.specs.declared.info.InfoFault.TheVariants.{SymbolLength}
use Rattle.flute_parts.specs.declared.object_key.ObjectName.TheVariants.{File}
use Rattle.flute_parts.specs.declared.key.Key.{Key}
use Rattle.flute_parts.specs.declared.symbol_id.SymbolId.{SymbolId}
use Rattle.flute_parts.specs.declared.address.Part.TheVariants.{Symbol as SymbolPart}
use Rattle.flute_parts.specs.declared.fact.Fact.{Fact}
use Rattle.flute_parts.specs.declared.fact.Fact.TheVariants.{Info, InfoConflict, Symbol}
use Rattle.flute_parts.specs.declared.fact.Fact.TheVariants.{SymbolConflict}
use Rattle.flute_journal.specs.declared.fault.ReadFault.{ReadFault}
use Rattle.flute_journal.specs.declared.fault.ReadFault.TheVariants as faults
use Rattle.flute_journal.specs.declared.format.version.Version.TheVariants.{One, Two}
use Rattle.flute_journal.specs.Format.{sender_size, header, header_in, key_bytes, spelling_in}
use Rattle.flute_journal.specs.Format.{spelling}
use Rattle.flute_journal.specs.Faults.{header_fault, version_in, next_fault}
use Rattle.flute_journal.specs.JournalFraming.{before}

-- file 1 of session 7, of 5 bytes in symbols of 4 bytes and blocks of at most 2 symbols
abbrev key : Key
key = record { session = session 0 7; object = File 1 }

-- the same of the sender with the IPv4 address 10.0.0.1
abbrev other_key : Key
other_key = record { session = session (65535 * 2 ^ 32 + 0x0A000001) 7; object = File 1 }

abbrev symbol_id : ℕ → SymbolId
symbol_id n = record { sbn = 0; esi = n }

-- facts of that object: its information, symbols that fit it and one outside its partition
abbrev info : Fact
info = Info key (information 5 4 2)

abbrev hell : Fact
hell = Symbol key (symbol_id 0) (0x68 ∷ 0x65 ∷ 0x6C ∷ 0x6C ∷ [])

abbrev letter_o : Fact
letter_o = Symbol key (symbol_id 1) (0x6F ∷ [])

abbrev padded_o : Fact
padded_o = Symbol key (symbol_id 1) (0x6F ∷ 0 ∷ 0 ∷ 0 ∷ [])

abbrev letter_x : Fact
letter_x = Symbol key (symbol_id 2) (0x78 ∷ [])

-- the bytes of the key in an entry of a journal, in version 1
abbrev k : List ℕ
k = 0 ∷ 0 ∷ 0 ∷ 0 ∷ 0 ∷ 7 ∷ 1 ∷ 0 ∷ 0 ∷ 0 ∷ 0 ∷ 0 ∷ 0 ∷ 0 ∷ 0 ∷ 0 ∷ 0 ∷ 0 ∷ 0 ∷ 0 ∷ 1 ∷ []

-- the same in version 2, and that of the other sender
abbrev k₂ : List ℕ
k₂ = replicate 16 0 ++ k

abbrev other_k : List ℕ
other_k = replicate 10 0 ++ 0xFF ∷ 0xFF ∷ 10 ∷ 0 ∷ 0 ∷ 1 ∷ k

key-bytes : (key_bytes One key ≡ k) × (key_bytes Two key ≡ k₂) × (key_bytes Two other_key ≡ other_k)
unfolding sender_size
key-bytes = (refl, refl, refl)

-- what follows the key of an entry
abbrev info_rest : List ℕ
info_rest = 0 ∷ 0 ∷ 0 ∷ 0 ∷ 0 ∷ 5 ∷ 0 ∷ 4 ∷ 0 ∷ 0 ∷ 0 ∷ 2 ∷ []

abbrev hell_rest : List ℕ
hell_rest = 0 ∷ 0 ∷ 0 ∷ 0 ∷ 0 ∷ 4 ∷ 0x68 ∷ 0x65 ∷ 0x6C ∷ 0x6C ∷ []

abbrev letter_o_rest : List ℕ
letter_o_rest = 0 ∷ 0 ∷ 0 ∷ 1 ∷ 0 ∷ 1 ∷ 0x6F ∷ []

abbrev padded_o_rest : List ℕ
padded_o_rest = 0 ∷ 0 ∷ 0 ∷ 1 ∷ 0 ∷ 4 ∷ 0x6F ∷ 0 ∷ 0 ∷ 0 ∷ []

abbrev letter_x_rest : List ℕ
letter_x_rest = 0 ∷ 0 ∷ 0 ∷ 2 ∷ 0 ∷ 1 ∷ 0x78 ∷ []

abbrev end_bytes : ℕ → List ℕ
end_bytes n = 0xFF ∷ replicate 7 0 ++ n ∷ []

-- The journals of no fact, of a whole object, of a conflict, of other symbols of the object,
-- and of the two joined.

-- First as they were written in version 1.

abbrev old : List Fact → List ℕ
old entries = spelling_in One entries

nothing-old : old [] ≡ 0x46 ∷ 0x4C ∷ 0x4A ∷ 0x4E ∷ 0 ∷ 1 ∷ 0xFF ∷ 0 ∷ 0 ∷ 0 ∷ 0 ∷ 0 ∷ 0 ∷ 0 ∷ 0 ∷ []
nothing-old = refl

whole-old : old (info ∷ hell ∷ letter_o ∷ []) ≡ 0x46 ∷ 0x4C ∷ 0x4A ∷ 0x4E ∷ 0 ∷ 1
    ∷ 1 ∷ k ++ info_rest ++ 3 ∷ k ++ hell_rest ++ 3 ∷ k ++ letter_o_rest ++ end_bytes 3
unfolding sender_size
whole-old = refl

conflict-old : old (InfoConflict key ∷ []) ≡ header_in One ++ 2 ∷ k ++ end_bytes 1
unfolding sender_size
conflict-old = refl

others-old : old (hell ∷ padded_o ∷ letter_x ∷ [])
    ≡ header_in One ++ 3 ∷ k ++ hell_rest ++ 3 ∷ k ++ padded_o_rest ++ 3 ∷ k ++ letter_x_rest
    ++ end_bytes 3
unfolding sender_size
others-old = refl

-- Then as they are written.

nothing :
    spelling [] ≡ 0x46 ∷ 0x4C ∷ 0x4A ∷ 0x4E ∷ 0 ∷ 2 ∷ 0xFF ∷ 0 ∷ 0 ∷ 0 ∷ 0 ∷ 0 ∷ 0 ∷ 0 ∷ 0 ∷ []
nothing = refl

whole : spelling (info ∷ hell ∷ letter_o ∷ []) ≡ 0x46 ∷ 0x4C ∷ 0x4A ∷ 0x4E ∷ 0 ∷ 2
    ∷ 1 ∷ k₂ ++ info_rest ++ 3 ∷ k₂ ++ hell_rest ++ 3 ∷ k₂ ++ letter_o_rest ++ end_bytes 3
unfolding sender_size
whole = refl

conflict : spelling (InfoConflict key ∷ []) ≡ header ++ 2 ∷ k₂ ++ end_bytes 1
unfolding sender_size
conflict = refl

joined : spelling (info ∷ hell ∷ SymbolConflict key (symbol_id 1) ∷ letter_x ∷ [])
    ≡ header ++ 1 ∷ k₂ ++ info_rest ++ 3 ∷ k₂ ++ hell_rest ++ 4 ∷ k₂ ++ 0 ∷ 0 ∷ 0 ∷ 1 ∷ 3 ∷ k₂
    ++ letter_x_rest ++ end_bytes 4
unfolding sender_size
joined = refl

-- the conflict of both senders, the sender 0 first
both_senders : spelling (InfoConflict key ∷ InfoConflict other_key ∷ [])
    ≡ header ++ 2 ∷ k₂ ++ 2 ∷ other_k ++ end_bytes 2
unfolding sender_size
both_senders = refl

sizes : (length (old (info ∷ hell ∷ letter_o ∷ [])) ≡ 110)
    × (length (spelling (info ∷ hell ∷ letter_o ∷ [])) ≡ 158)
    × (length (spelling (info ∷ hell ∷ SymbolConflict key (symbol_id 1) ∷ letter_x ∷ []))
    ≡ 200)
unfolding sender_size
sizes = (refl, refl, refl)

-- The entries of the last are in order, and are those of the two joined.

joined-rising : IsRising (info ∷ hell ∷ SymbolConflict key (symbol_id 1) ∷ letter_x ∷ [])
joined-rising = ((refl, (refl, (refl, tt))), ((refl, (refl, tt)), ((refl, tt), (tt, tt))))

joined-conflict :
    fact_at ((info ∷ hell ∷ letter_o ∷ []) ++ (hell ∷ padded_o ∷ letter_x ∷ []))
    (record { key = key; part = SymbolPart (symbol_id 1) })
    ≡ Some (SymbolConflict key (symbol_id 1))
unfolding fact_at
joined-conflict = refl

-- A header that is none.

header-whole : (header_fault (header ++ end_bytes 0) ≡ None)
    × (header_fault (header_in One ++ end_bytes 0) ≡ None)
header-whole = (refl, refl)

header-told :
    (version_in (header ++ end_bytes 0) ≡ Two) × (version_in (header_in One ++ end_bytes 0) ≡ One)
header-told = (refl, refl)

header-magic : header_fault (0x47 ∷ 0x4C ∷ 0x4A ∷ 0x4E ∷ 0 ∷ 1 ∷ []) ≡ Some faults.Magic
header-magic = refl

header-version : header_fault (0x46 ∷ 0x4C ∷ 0x4A ∷ 0x4E ∷ 0 ∷ 3 ∷ []) ≡ Some faults.Version
header-version = refl

header-cut : (header_fault (0x46 ∷ 0x4C ∷ []) ≡ Some faults.Cut)
    × (header_fault (0x46 ∷ 0x4C ∷ 0x4A ∷ 0x4E ∷ 9 ∷ []) ≡ Some faults.Cut)
header-cut = (refl, refl)

-- What may follow entries.

abbrev fault_after : List Fact → List ℕ → Option ReadFault
fault_after entries bytes = next_fault (before One entries) 16777216 bytes

-- the same in version 2
abbrev fault_in_two : List Fact → List ℕ → Option ReadFault
fault_in_two entries bytes = next_fault (before Two entries) 16777216 bytes

goes-on-two : (fault_in_two [] (1 ∷ k₂ ++ info_rest ++ 3 ∷ k₂) ≡ None)
    × (fault_in_two (info ∷ hell ∷ letter_o ∷ []) (2 ∷ other_k ++ end_bytes 4) ≡ None)
unfolding sender_size
goes-on-two = (refl, refl)

-- a session of a higher sender comes after, whatever its identifier is
senders-first :
    (fault_in_two (InfoConflict other_key ∷ [])
    (2 ∷ replicate 16 0 ++ 0 ∷ 0 ∷ 0 ∷ 0 ∷ 0 ∷ 8 ∷ 1 ∷ replicate 13 0 ++ 1 ∷ [])
    ≡ Some faults.Order)
    × (fault_in_two (InfoConflict other_key ∷ [])
    (2 ∷ replicate 16 0xFF ++ 0 ∷ 0 ∷ 0 ∷ 0 ∷ 0 ∷ 6 ∷ 1 ∷ replicate 13 0 ++ 1 ∷ [])
    ≡ None)
unfolding sender_size
senders-first = (refl, refl)

-- an input that ends within the sender, or within the name after it
cut-in-sender : (fault_in_two [] (2 ∷ replicate 15 0) ≡ Some faults.Cut)
    × (fault_in_two [] (2 ∷ k) ≡ Some faults.Cut)
unfolding sender_size
cut-in-sender = (refl, refl)

goes-on : (fault_after [] (1 ∷ k ++ info_rest ++ 3 ∷ k) ≡ None)
    × (fault_after (info ∷ []) (3 ∷ k ++ hell_rest ++ 3 ∷ []) ≡ None)
    × (fault_after (info ∷ hell ∷ letter_o ∷ []) (end_bytes 3) ≡ None)
unfolding sender_size
goes-on = (refl, refl, refl)

-- two entries that are swapped, or one that is there twice
out-of-order :
    (fault_after (info ∷ letter_o ∷ []) (3 ∷ k ++ hell_rest ++ end_bytes 3) ≡ Some faults.Order)
    × (fault_after (info ∷ hell ∷ letter_o ∷ []) (3 ∷ k ++ letter_o_rest ++ end_bytes 4)
    ≡ Some faults.Order)
unfolding sender_size
out-of-order = (refl, refl)

-- information after information of one object: a fault of the order, found before it is read
second-information : (fault_after (info ∷ []) (2 ∷ k ++ end_bytes 2) ≡ Some faults.Order)
    × (fault_after (info ∷ []) (1 ∷ k ++ 0 ∷ 0 ∷ 0 ∷ 0 ∷ 0 ∷ 5 ∷ 0 ∷ 4 ∷ 0 ∷ 0 ∷ 0 ∷ 0 ∷ [])
    ≡ Some faults.Order)
unfolding sender_size
second-information = (refl, refl)

end-count : fault_after (info ∷ hell ∷ letter_o ∷ []) (end_bytes 4) ≡ Some faults.Count
unfolding sender_size
end-count = refl

end-trailing : fault_after (info ∷ hell ∷ letter_o ∷ []) (end_bytes 3 ++ 0 ∷ [])
    ≡ Some faults.Trailing
unfolding sender_size
end-trailing = refl

-- a byte that is no kind is a fault of the kind, even where the bound is reached
no-kind : (fault_after [] (5 ∷ k ++ info_rest) ≡ Some faults.Kind)
    × (next_fault (before One []) 0 (5 ∷ []) ≡ Some faults.Kind)
unfolding sender_size
no-kind = (refl, refl)

-- a tag that is none, a file 0, and an FDT Instance of more than 20 bits; but a file of 112 bits
no-key :
    (fault_after [] (1 ∷ 0 ∷ 0 ∷ 0 ∷ 0 ∷ 0 ∷ 7 ∷ 2 ∷ replicate 13 0 ++ 1 ∷ info_rest)
    ≡ Some faults.Key)
    × (fault_after [] (1 ∷ 0 ∷ 0 ∷ 0 ∷ 0 ∷ 0 ∷ 7 ∷ 1 ∷ replicate 14 0 ++ info_rest)
    ≡ Some faults.Key)
    × (fault_after [] (2 ∷ 0 ∷ 0 ∷ 0 ∷ 0 ∷ 0 ∷ 7 ∷ 0 ∷ replicate 11 0 ++ 0x10 ∷ 0 ∷ 0 ∷ [])
    ≡ Some faults.Key)
unfolding sender_size
no-key = (refl, refl, refl)

greatest-key : fault_after [] (2 ∷ 0 ∷ 0 ∷ 0 ∷ 0 ∷ 0 ∷ 7 ∷ 1 ∷ replicate 14 0xFF) ≡ None
unfolding sender_size
greatest-key = refl

no-information : fault_after [] (1 ∷ k ++ 0 ∷ 0 ∷ 0 ∷ 0 ∷ 0 ∷ 5 ∷ 0 ∷ 0 ∷ 0 ∷ 0 ∷ 0 ∷ 2 ∷ [])
    ≡ Some (faults.Information SymbolLength)
unfolding sender_size
no-information = refl

no-symbol : fault_after (info ∷ hell ∷ []) (3 ∷ k ++ 0 ∷ 0 ∷ 0 ∷ 1 ∷ 0 ∷ 0 ∷ 0x6F ∷ end_bytes 3)
    ≡ Some faults.EmptySymbol
unfolding sender_size
no-symbol = refl

-- the bound is that of the entries, not of the end
too-many :
    (next_fault (before One (info ∷ hell ∷ [])) 2 (3 ∷ k ++ letter_o_rest) ≡ Some faults.TooMany)
    × (next_fault (before One []) 0 (1 ∷ k ++ info_rest) ≡ Some faults.TooMany)
    × (next_fault (before One []) 0 (end_bytes 0) ≡ None)
    × (next_fault (before One (info ∷ hell ∷ letter_o ∷ [])) 3 (end_bytes 3) ≡ None)
unfolding sender_size
too-many = (refl, refl, refl, refl)

-- an input that ends before an entry, after its kind, within its key, within its rest,
-- or within the end
cut-short : (fault_after (info ∷ []) [] ≡ Some faults.Cut)
    × (fault_after (info ∷ []) (3 ∷ []) ≡ Some faults.Cut)
    × (fault_after (info ∷ []) (3 ∷ 0 ∷ 0 ∷ []) ≡ Some faults.Cut)
    × (fault_after [] (1 ∷ k ++ 0 ∷ []) ≡ Some faults.Cut)
    × (fault_after [] (3 ∷ k ++ 0 ∷ 0 ∷ 0 ∷ 0 ∷ 0xFF ∷ 0xFF ∷ 0x61 ∷ []) ≡ Some faults.Cut)
    × (fault_after [] (0xFF ∷ 0 ∷ 0 ∷ []) ≡ Some faults.Cut)
unfolding sender_size
cut-short = (refl, refl, refl, refl, refl, refl)
