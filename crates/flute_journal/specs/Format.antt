-- How a journal is spelled.
use Rattle.std.specs.Prelude.{ℕ, List, [], ◌∷◌, ◌++◌, length}
use Rattle.std.specs.List.{flat_map}
use Rattle.flute_parts.specs.Session.{Session}
use Rattle.flute_parts.specs.Information.{Information}
use Rattle.flute_parts.specs.Addresses.{address}
use Rattle.flute_parts.specs.declared.object_key.ObjectName.{ObjectName}
use Rattle.flute_parts.specs.declared.object_key.ObjectName.TheVariants.{Instance, File}
use Rattle.flute_parts.specs.declared.key.Key.{Key}
use Rattle.flute_parts.specs.declared.symbol_id.SymbolId.{SymbolId}
use Rattle.flute_parts.specs.declared.fact.Fact.{Fact}
use Rattle.flute_parts.specs.declared.fact.Fact.TheVariants.{Info, InfoConflict, Symbol}
use Rattle.flute_parts.specs.declared.fact.Fact.TheVariants.{SymbolConflict}
use Rattle.flute_journal.specs.declared.format.version.Version.{Version}
use Rattle.flute_journal.specs.declared.format.version.Version.TheVariants.{One, Two}
use Rattle.flute_journal.specs.Numbers.{in_bytes}

-- the first four bytes of a journal: `FLJN`
abbrev pub magic : List ℕ
magic = 0x46 ∷ 0x4C ∷ 0x4A ∷ 0x4E ∷ []

-- the number of a version, as a journal's header has it
abbrev pub version_number : Version → ℕ
version_number One = 1
version_number Two = 2

-- the two bytes of a header that are its version
abbrev pub version_bytes : Version → List ℕ
version_bytes version = 0 ∷ version_number version ∷ []

-- the six bytes with which a journal of this version begins
abbrev pub header_in : Version → List ℕ
header_in version = magic ++ version_bytes version

-- how many bytes of an entry name its sender: none, if each sender is 0, or those
-- of an IPv6 address
unfoldable pub sender_size : Version → ℕ
sender_size One = 0
sender_size Two = 16

-- the bytes of an entry that name its sender, in a journal of this version
abbrev pub sender_bytes : Version → Session → List ℕ
sender_bytes version session = in_bytes (sender_size version) session.sender

-- a tag, 0 for an FDT Instance and 1 for a file, and then its number
abbrev pub object_bytes : ObjectName → List ℕ
object_bytes (Instance n) = 0 ∷ in_bytes 14 n
object_bytes (File n) = 1 ∷ in_bytes 14 n

-- what names an object of a sender: a Transport Session Identifier of at most 48 bits
-- (RFC 5651, 5.1), and the object
abbrev pub name_bytes : Key → List ℕ
name_bytes key = in_bytes 6 key.session.tsi ++ object_bytes key.object

-- the bytes of an entry that name its object: sender, session and object
abbrev pub key_bytes : Version → Key → List ℕ
key_bytes version key = sender_bytes version key.session ++ name_bytes key

-- the source block number and the encoding symbol ID
abbrev pub id_bytes : SymbolId → List ℕ
id_bytes id = in_bytes 2 id.sbn ++ in_bytes 2 id.esi

-- the transfer length, the encoding symbol length and the maximum source block length
abbrev pub info_bytes : Information → List ℕ
info_bytes i =
    in_bytes 6 i.transfer_length ++ in_bytes 2 i.symbol_length ++ in_bytes 4 i.max_block_length

-- the number of the bytes of a symbol, and then they
abbrev pub counted_bytes : List ℕ → List ℕ
counted_bytes bytes = in_bytes 2 (length bytes) ++ bytes

-- the first byte of a fact's entry
abbrev pub kind : Fact → ℕ
kind (Info key info) = 1
kind (InfoConflict key) = 2
kind (Symbol key id bytes) = 3
kind (SymbolConflict key id) = 4

-- the object of a fact
abbrev pub fact_key : Fact → Key
fact_key f = (address f).key

-- the bytes of a fact's entry behind its key: information, or a symbol's ID and bytes
abbrev pub rest_bytes : Fact → List ℕ
rest_bytes (Info key info) = info_bytes info
rest_bytes (InfoConflict key) = []
rest_bytes (Symbol key id bytes) = id_bytes id ++ counted_bytes bytes
rest_bytes (SymbolConflict key id) = id_bytes id

-- the bytes of a fact's entry behind its kind
abbrev pub body : Version → Fact → List ℕ
body version f = key_bytes version (fact_key f) ++ rest_bytes f

-- the whole entry of a fact, in a journal of this version
abbrev pub entry_in : Version → Fact → List ℕ
entry_in version f = kind f ∷ body version f

-- the end of a journal of n entries
abbrev pub end : ℕ → List ℕ
end n = 255 ∷ in_bytes 8 n

-- the header and whole entries, without the end
abbrev pub without_end_in : Version → List Fact → List ℕ
without_end_in version entries = header_in version ++ flat_map (entry_in version) entries

-- the whole journal of these facts, in this version
abbrev pub spelling_in : Version → List Fact → List ℕ
spelling_in version entries = without_end_in version entries ++ end (length entries)

-- What is written is of version 2.

-- the header of a journal that is written
abbrev pub header : List ℕ
header = header_in Two

-- the entry of a fact in a journal that is written
abbrev pub entry : Fact → List ℕ
entry f = entry_in Two f

-- a journal that is written, up to its end
abbrev pub without_end : List Fact → List ℕ
without_end entries = without_end_in Two entries

-- the whole journal of these facts, as it is written
abbrev pub spelling : List Fact → List ℕ
spelling entries = spelling_in Two entries
