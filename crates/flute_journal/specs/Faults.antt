-- What is wrong with bytes that are no journal: the first fault in the order of the fields.
use Rattle.std.specs.Prelude.{ℕ, ◌+◌, Bool, true, not, ◌&&◌, ◌||◌, ◌==◌, nat_lt}
use Rattle.std.specs.Prelude.{nat_le, if◌then◌else◌, ◌^◌, List, [], ◌∷◌, length}
use Rattle.std.specs.Prelude.{take, drop, bytes_eq, Option, Some, None}
use Rattle.std.specs.Ordering.{is_lt}
use Rattle.flute_parts.specs.BigEndian.{big_endian}
use Rattle.flute_parts.specs.Session.{session}
use Rattle.flute_parts.specs.Information.{Information, information, info_fault}
use Rattle.flute_parts.specs.Order.{address_cmp}
use Rattle.flute_parts.specs.Addresses.{info_address, symbol_address}
use Rattle.flute_parts.specs.declared.info.InfoFault.{InfoFault}
use Rattle.flute_parts.specs.declared.object_key.ObjectName.{ObjectName}
use Rattle.flute_parts.specs.declared.object_key.ObjectName.TheVariants.{Instance, File}
use Rattle.flute_parts.specs.declared.key.Key.{Key}
use Rattle.flute_parts.specs.declared.symbol_id.SymbolId.{SymbolId}
use Rattle.flute_parts.specs.declared.address.Address.{Address}
use Rattle.flute_journal.specs.declared.fault.ReadFault.{ReadFault}
use Rattle.flute_journal.specs.declared.fault.ReadFault.TheVariants as faults
use Rattle.flute_journal.specs.Numbers.{number_at}
use Rattle.flute_journal.specs.declared.readers.entry_fields.Before.{Before}
use Rattle.flute_journal.specs.declared.format.version.Version.{Version}
use Rattle.flute_journal.specs.declared.format.version.Version.TheVariants.{One, Two}
use Rattle.flute_journal.specs.Format.{magic, version_bytes, sender_size}

-- whether the bytes have a fault, and the fault
abbrev pub Check : Type 0
Check = Bool × ReadFault

-- the first fault that the bytes have
abbrev pub first_fault : List Check → Option ReadFault
first_fault [] = None
first_fault (check ∷ checks) = if check.0 then Some check.1 else first_fault checks

-- the bytes end before n of them
abbrev pub cut : ℕ → List ℕ → Check
cut n bytes = (nat_lt (length bytes) n, faults.Cut)

-- the fault of the header of a file that begins with a magic number of four bytes, and a version of
-- two bytes that the test `is_known` accepts
abbrev pub version_fault : List ℕ → (List ℕ → Bool) → List ℕ → Option ReadFault
version_fault magic is_known bytes = first_fault (
    cut 4 bytes
    ∷ (not (bytes_eq (take 4 bytes) magic), faults.Magic)
    ∷ cut 6 bytes
    ∷ (not (is_known (take 2 (drop 4 bytes))), faults.Version)
    ∷ [])

-- the fault of the header of a file that has to begin with these six bytes
abbrev pub opening_fault : List ℕ → List ℕ → Option ReadFault
opening_fault opening bytes =
    version_fault (take 4 opening) (λ version. bytes_eq version (take 2 (drop 4 opening))) bytes

-- whether two bytes are a version of journals
abbrev pub is_version : List ℕ → Bool
is_version bytes = bytes_eq bytes (version_bytes One) || bytes_eq bytes (version_bytes Two)

-- the first fault of the header of a journal
abbrev pub header_fault : List ℕ → Option ReadFault
header_fault bytes = version_fault magic is_version bytes

-- the version that a header contains, if it contains one
abbrev pub version_in : List ℕ → Version
version_in bytes = if bytes_eq (take 2 (drop 4 bytes)) (version_bytes One) then One else Two

-- The fields of a key, of a symbol's id and of information.

-- the object's name, by the tag and the number that an entry has
abbrev pub object_in : ℕ → ℕ → ObjectName
object_in tag n = if tag == 0 then Instance n else File n

-- an object of this sender
abbrev pub named_in : ℕ → List ℕ → Key
named_in sender bytes = record {
  session = session sender (number_at 0 6 bytes);
  object = object_in (number_at 6 1 bytes) (number_at 7 14 bytes);
}

-- the object that an entry of this version names, by the bytes behind its kind
abbrev pub key_in : Version → List ℕ → Key
key_in version bytes =
    named_in (number_at 0 (sender_size version) bytes) (drop (sender_size version) bytes)

-- an FDT Instance ID has 20 bits (RFC 6726, 3.4.1), and a Transport Object Identifier at most 112,
-- not all zero (RFC 5651, 5.1)
abbrev pub is_object : ℕ → ℕ → Bool
is_object tag n = (tag == 0) && nat_lt n (2 ^ 20) || ((tag == 1) && nat_lt 0 n)

-- whether bytes name an object of a sender, by numbers that are within their ranges
abbrev pub is_name : List ℕ → Bool
is_name bytes = is_object (number_at 6 1 bytes) (number_at 7 14 bytes)

-- whether bytes name a sender and its object: any bytes are a sender
abbrev pub is_key : Version → List ℕ → Bool
is_key version bytes = is_name (drop (sender_size version) bytes)

-- how many bytes a key has
abbrev pub key_size : Version → ℕ
key_size version = sender_size version + 21

-- the symbol's ID in the first four bytes
abbrev pub id_in : List ℕ → SymbolId
id_in bytes = record { sbn = number_at 0 2 bytes; esi = number_at 2 2 bytes }

-- the transmission information in the first twelve bytes
abbrev pub info_in : List ℕ → Information
info_in bytes = information (number_at 0 6 bytes) (number_at 6 2 bytes) (number_at 8 4 bytes)

-- whether an entry at this address may follow the last one: addresses rise
abbrev pub is_after : Option Address → Address → Bool
is_after None address = true
is_after (Some last) address = is_lt (address_cmp last address)

-- the check that an address follows the last one
abbrev pub in_order : Option Address → Address → Check
in_order last address = (not (is_after last address), faults.Order)

-- the check that transmission information has no fault of its own
abbrev pub info_checks : Option InfoFault → List Check
info_checks None = []
info_checks (Some f) = (true, faults.Information f) ∷ []

-- the checks of the bytes behind the key in an entry of kind 1, information
abbrev pub information_checks : Option Address → Key → List ℕ → List Check
information_checks last key rest =
    in_order last (info_address key)
    ∷ cut 12 rest
    ∷ info_checks (info_fault (info_in (take 12 rest)))

-- the checks of a symbol's bytes: their number, and then as many
abbrev pub bytes_checks : List ℕ → List Check
bytes_checks rest =
    cut 2 rest
    ∷ (big_endian (take 2 rest) == 0, faults.EmptySymbol)
    ∷ cut (big_endian (take 2 rest)) (drop 2 rest)
    ∷ []

-- the checks of the bytes behind the key in an entry of kind 3 or 4, about a symbol
abbrev pub id_checks : Option Address → Key → List ℕ → List Check → List Check
id_checks last key rest more =
    cut 4 rest
    ∷ in_order last (symbol_address key (id_in (take 4 rest)))
    ∷ more

-- the checks of the bytes behind the key in an entry of any kind
abbrev pub rest_checks : Option Address → ℕ → Key → List ℕ → List Check
rest_checks last kind key rest =
    if kind == 1 then information_checks last key rest
    else (if kind == 2 then (in_order last (info_address key) ∷ [])
    else (if kind == 3 then id_checks last key rest (bytes_checks (drop 4 rest))
    else id_checks last key rest []))

-- the checks of the bytes behind the kind of an entry
abbrev pub body_checks : Version → Option Address → ℕ → List ℕ → List Check
body_checks version last kind rest =
    cut (key_size version) rest ∷ (not (is_key version (take (key_size version) rest)), faults.Key)
    ∷ rest_checks last kind (key_in version (take (key_size version) rest))
    (drop (key_size version) rest)

-- the checks of an entry of kind 1 to 4: first that there may be so many entries
abbrev pub entry_checks : Before → ℕ → ℕ → List ℕ → List Check
entry_checks before limit kind rest =
    (nat_le limit before.count, faults.TooMany)
    ∷ body_checks before.version before.last kind rest

-- the checks of the bytes behind 255, with which the end of a journal begins
abbrev pub end_checks : ℕ → List ℕ → List Check
end_checks count rest =
    cut 8 rest
    ∷ (not (big_endian (take 8 rest) == count), faults.Count)
    ∷ (nat_lt 8 (length rest), faults.Trailing)
    ∷ []

-- whether a byte begins an entry
abbrev pub is_kind : ℕ → Bool
is_kind kind = nat_le 1 kind && nat_le kind 4

-- the fault of what follows whole entries: of the next entry, or of the end
abbrev pub next_fault : Before → ℕ → List ℕ → Option ReadFault
next_fault before limit [] = Some faults.Cut
next_fault before limit (kind ∷ rest) =
    if kind == 255 then first_fault (end_checks before.count rest)
    else (if is_kind kind then first_fault (entry_checks before limit kind rest)
    else Some faults.Kind)
