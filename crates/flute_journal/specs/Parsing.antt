-- What the bytes of an entry up to those of its symbol say.
use Rattle.std.specs.Prelude.{◌≡◌, ℕ, ◌+◌, ◌<◌, ◌^◌, IsTrue, List, []}
use Rattle.std.specs.Prelude.{◌∷◌, ◌++◌, length, Option, Some, ⊤, Result, Ok, Err}
use Rattle.std.specs.Prelude.{MatchResult}
use Rattle.std.specs.Io.KnownBytes.{Consumes, IsAtEnd}
use Rattle.flute_parts.specs.Addresses.{address, symbol_address}
use Rattle.flute_parts.specs.declared.key.Key.{Key}
use Rattle.flute_parts.specs.declared.symbol_id.SymbolId.{SymbolId}
use Rattle.flute_parts.specs.declared.address.Address.{Address}
use Rattle.flute_parts.specs.declared.fact.Fact.{Fact}
use Rattle.flute_journal.specs.declared.format.version.Version.{Version}
use Rattle.flute_journal.specs.declared.format.Kind.{Kind}
use Rattle.flute_journal.specs.declared.format.Kind.TheVariants as kinds
use Rattle.flute_journal.specs.declared.format.EntryHead.{EntryHead}
use Rattle.flute_journal.specs.declared.format.EntryHead.TheVariants.{Whole, Symbol}
use Rattle.flute_journal.specs.declared.fault.ReadFault.{ReadFault}
use Rattle.flute_journal.specs.declared.fault.ReadFault.TheVariants as faults
use Rattle.flute_journal.specs.Numbers.{in_bytes}
use Rattle.flute_journal.specs.Input.{IsFaultUpTo}
use Rattle.flute_journal.specs.Format.{key_bytes, id_bytes, rest_bytes, fact_key, kind}
use Rattle.flute_journal.specs.Faults.{is_after, key_size, first_fault, cut, bytes_checks}
use Rattle.flute_journal.specs.Faults.{rest_checks, body_checks, end_checks}
use Rattle.flute_journal.specs.Journal.{IsFactIn, HasRoom}
use Rattle.flute_parts.specs.Ranges.{IsKey, IsId, IsFact}

-- the byte of a kind of entries
abbrev pub byte_of : Kind → ℕ
byte_of kinds.Info = 1
byte_of kinds.InfoConflict = 2
byte_of kinds.Symbol = 3
byte_of kinds.SymbolConflict = 4

-- how many bytes of an entry follow its key, up to those of a symbol
abbrev pub rest_size : Kind → ℕ
rest_size kinds.Info = 12
rest_size kinds.InfoConflict = 0
rest_size kinds.Symbol = 6
rest_size kinds.SymbolConflict = 4

-- how many bytes of an entry follow its kind, up to those of a symbol
abbrev pub head_size : Version → Kind → ℕ
head_size version k = key_size version + rest_size k

-- the object of an entry of which the head was read
abbrev pub head_key : EntryHead → Key
head_key (Whole f) = fact_key f
head_key (Symbol key id n) = key

-- the bytes of an entry's head that follow its key
abbrev pub head_rest : EntryHead → List ℕ
head_rest (Whole f) = rest_bytes f
head_rest (Symbol key id n) = id_bytes id ++ in_bytes 2 n

-- the bytes of an entry's head that follow its kind
abbrev pub head_bytes : Version → EntryHead → List ℕ
head_bytes version x = key_bytes version (head_key x) ++ head_rest x

-- a whole fact of this kind, valid and after the last address
pub record BodyIs (last : Option Address) (k : Kind) (f : Fact) : Type 0 where
  pub kind_is : kind f ≡ byte_of k
  pub in_order : IsTrue (is_after last (address f))
  pub valid : IsFact f

-- a fact of this kind, in a journal of this version
abbrev pub IsBody : Version → Kind → Fact → Type 0
IsBody version k f = (kind f ≡ byte_of k) × IsFactIn version f

-- the head of a symbol with n bytes, after the last address
pub record SymbolIs (last : Option Address) (k : Kind) (key : Key) (id : SymbolId)
    (n : ℕ) : Type 0 where
  pub kind_is : k ≡ kinds.Symbol
  pub in_order : IsTrue (is_after last (symbol_address key id))
  pub key_valid : IsKey key
  pub id_valid : IsId id
  pub some : 0 < n
  pub short : n < 2 ^ 16

-- the head of an entry of this kind: all of it, or up to the bytes of a symbol
abbrev pub HeadIs : Option Address → Kind → EntryHead → Type 0
HeadIs last k (Whole f) = BodyIs last k f
HeadIs last k (Symbol key id n) = SymbolIs last k key id n

-- the head of an entry, of which these bytes were read behind the key
abbrev pub RestIs : Option Address → Kind → Key → List ℕ → EntryHead → Type 0
RestIs last k key bytes x = HeadIs last k x × (head_key x ≡ key) × (head_rest x ≡ bytes)

-- as `BodyIs`, in an entry of this version, which has room for the sender
abbrev pub BodyIn : Version → Option Address → Kind → Fact → Type 0
BodyIn version last k f = BodyIs last k f × HasRoom version (fact_key f).session

-- as `HeadIs`, in an entry of this version, which has room for the sender
abbrev pub HeadIn : Version → Option Address → Kind → EntryHead → Type 0
HeadIn version last k x = HeadIs last k x × HasRoom version (head_key x).session

-- The first faults of parts.

-- the first fault of the end, after so many entries
abbrev pub end_fault : ℕ → List ℕ → Option ReadFault
end_fault count rest = first_fault (end_checks count rest)

-- the first fault of a symbol's bytes
abbrev pub bytes_fault : List ℕ → Option ReadFault
bytes_fault rest = first_fault (bytes_checks rest)

-- the fault if there are fewer than n bytes
abbrev pub cut_fault : ℕ → List ℕ → Option ReadFault
cut_fault n rest = first_fault (cut n rest ∷ [])

-- the first fault behind the key of an entry
abbrev pub rest_fault : Option Address → Kind → Key → List ℕ → Option ReadFault
rest_fault last k key rest = first_fault (rest_checks last (byte_of k) key rest)

-- the first fault behind the kind of an entry
abbrev pub body_fault : Version → Option Address → Kind → List ℕ → Option ReadFault
body_fault version last k rest = first_fault (body_checks version last (byte_of k) rest)

-- a fault of bytes, and no failed source or want of memory
abbrev pub IsOfBytes : ReadFault → Type 0
IsOfBytes faults.Read = ⊥
IsOfBytes faults.OutOfMemory = ⊥
IsOfBytes f = ⊤

-- bytes that begin so have the fault, whatever follows; they are cut only where nothing follows
-- and there are fewer than n
pub record StopsReading (n : ℕ) (fault : List ℕ → Option ReadFault) (front : List ℕ)
    (f : ReadFault) : Type 0 where
  pub of_bytes : IsOfBytes f
  pub short : f ≡ faults.Cut → length front < n
  pub whole : (rest : List ℕ) → (f ≡ faults.Cut → rest ≡ []) → fault (front ++ rest) ≡ Some f

-- at most n bytes say what is wanted, or they are at fault
abbrev pub Parses : {T : Type 0} → ℕ → (T → Type 0) → (List ℕ → Option ReadFault) → List ℕ
    → Result T ReadFault → Type 0
Parses n IsIt fault bytes result = MatchResult result IsIt (StopsReading n fault bytes)

-- the number of entries was read and nothing follows it; or the bytes are at fault
abbrev pub ReadsEnd : {T : Type 0} → ℕ → Option (List ℕ) → Option (List ℕ) → Result T ReadFault
    → Type 0
ReadsEnd count old new (Ok x) = Consumes old new (in_bytes 8 count) × IsAtEnd new
ReadsEnd count old new (Err f) = IsFaultUpTo (in_bytes 8 count) (end_fault count) old new f
