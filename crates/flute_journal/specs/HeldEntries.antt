-- An entry that is held: a fact, or what the source's buffer begins with.
use Rattle.std.specs.Prelude.{◌≡◌, ◌⊎◌, ℕ, List, [], drop, length, take, Option, Some, None}
use Rattle.std.specs.Prelude.{OnErr, Result}
use Rattle.std.specs.Option.{option_map}
use Rattle.flute_parts.specs.Addresses.{address, fact_of}
use Rattle.flute_parts.specs.Ranges.{IsFact}
use Rattle.flute_parts.specs.declared.address.Address.{Address}
use Rattle.flute_parts.specs.declared.address.Part.{Part}
use Rattle.flute_parts.specs.declared.address.Part.TheVariants as part
use Rattle.flute_parts.specs.declared.fact.Fact.{Fact}
use Rattle.flute_parts.specs.declared.fact.Fact.TheVariants.{Info, InfoConflict, Symbol}
use Rattle.flute_parts.specs.declared.fact.Fact.TheVariants.{SymbolConflict}
use Rattle.flute_parts.specs.declared.fact.FactRef.{FactRef}
use Rattle.flute_parts.specs.declared.key.Key.{Key}
use Rattle.flute_journal.specs.Format.{entry}
use Rattle.flute_journal.specs.Framing.{Gives, is_open}
use Rattle.flute_journal.specs.Input.{FailsIf}
use Rattle.flute_journal.specs.JournalFraming.{journal_framing}
use Rattle.flute_journal.specs.Readers.{given_into}
use Rattle.flute_journal.specs.declared.fault.ReadFault.{ReadFault}
use Rattle.flute_journal.specs.declared.readers.entry_fields.Before.{Before}
use Rattle.flute_journal.specs.declared.readers.reader_state.ReaderState.{ReaderState}
use Rattle.flute_journal.specs.declared.readers.held_entry.HeldEntry.{HeldEntry}
use Rattle.flute_journal.specs.declared.readers.held_entry.HeldEntry.TheVariants as held
use Rattle.flute_journal.specs.declared.readers.held_entry.HeldValue.{HeldValue}
use Rattle.flute_journal.specs.declared.readers.held_entry.HeldValue.TheVariants as value

-- the fact of one that is borrowed
abbrev pub fact_in : Option FactRef → Option Fact
fact_in None = None
fact_in (Some fact) = Some (fact_of fact)

-- the address of what is held
abbrev pub address_of : Option Fact → Option Address
address_of None = None
address_of (Some f) = Some (address f)

-- how many bytes of the source's buffer an entry has that is looked at there; else 0
abbrev pub size_of : HeldEntry → ℕ
size_of (held.Entry address (value.InBuffer size)) = size
size_of _ = 0

-- the bytes that a held entry has in the source's buffer, as version 2 spells it: none if its fact
-- has memory of its own
abbrev pub spelled_in : List ℕ → HeldEntry → List ℕ
spelled_in buffer e = take (size_of e) buffer

-- what is held of a part: the bytes of a symbol in the buffer follow 44 others, and a value that is
-- none of the part is a conflict
abbrev pub value_held : List ℕ → Key → Part → HeldValue → Fact
value_held buffer key part.Info (value.Info info) = Info key info
value_held buffer key part.Info value.Conflict = InfoConflict key
value_held buffer key part.Info (value.Symbol bytes) = InfoConflict key
value_held buffer key part.Info (value.InBuffer size) = InfoConflict key
value_held buffer key (part.Symbol id) (value.Info info) = SymbolConflict key id
value_held buffer key (part.Symbol id) value.Conflict = SymbolConflict key id
value_held buffer key (part.Symbol id) (value.Symbol bytes) = Symbol key id bytes
value_held buffer key (part.Symbol id) (value.InBuffer size) =
    Symbol key id (drop 44 (take size buffer))

-- the fact of an entry
abbrev pub fact_held : List ℕ → HeldEntry → Option Fact
fact_held buffer held.Nothing = None
fact_held buffer (held.Entry address v) = Some (value_held buffer address.key address.part v)

-- what is left of a source behind the bytes that are held
abbrev pub left_behind : List ℕ → Option (List ℕ) → Option (List ℕ)
left_behind spelled unread = option_map (drop (length spelled)) unread

-- the bytes are none, or the entry of the fact, which is valid
abbrev pub IsSpelling : List ℕ → Option Fact → Type 0
IsSpelling bytes None = bytes ≡ []
IsSpelling bytes (Some fact) = (bytes ≡ []) ⊎ (IsFact fact × (bytes ≡ entry fact))

-- a source, where its reader is, and the entry that is held of it
pub record Reading (R : Type 0) : Type 0 where
  pub source : R
  pub state : ReaderState Before
  pub held : HeldEntry

-- the state of a reader, put together
abbrev pub reading : {R : Type 0} → R → ReaderState Before → HeldEntry → Reading R
reading source state e = record { source = source; state = state; held = e }

module _ {R : Type 0} (buffered : R → List ℕ) where
  -- the bytes of the held entry in the buffer of the reader's source
  abbrev pub spelled_of : Reading R → List ℕ
  spelled_of r = spelled_in (buffered r.source) r.held

  -- the fact of the held entry, if there is one
  abbrev pub fact_of_held : Reading R → Option Fact
  fact_of_held r = fact_held (buffered r.source) r.held

module _ {R : Type 0} (unread : R → Option (List ℕ)) (buffered : R → List ℕ) where
  -- what is left of the source behind the held entry
  abbrev pub left_of : Reading R → Option (List ℕ)
  left_of r = left_behind (spelled_of buffered r) (unread r.source)

  -- a reader let go of what was held, and holds the next entry, or nothing
  pub record HoldsNext (failures : R → ℕ) (limit : ℕ) (old new : Reading R)
      (result : Result (Unit {0}) ReadFault) : Type 0 where
    pub gives :
        Gives journal_framing limit old.state new.state (left_of old) (left_of new)
        (given_into result (fact_of_held buffered new))
    pub failed :
        FailsIf (is_open old.state) (failures old.source) (failures new.source)
        (given_into result (fact_of_held buffered new))
    pub spelled : IsSpelling (spelled_of buffered new) (fact_of_held buffered new)
    pub none : OnErr result (new.held ≡ held.Nothing)
