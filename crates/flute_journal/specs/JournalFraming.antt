-- How a journal is read, entry by entry.
use Rattle.std.specs.Prelude.{◌+◌, List, [], ◌∷◌, length, Option, Some, None, ⊤}
use Rattle.flute_parts.specs.declared.address.Address.{Address}
use Rattle.flute_parts.specs.declared.fact.Fact.{Fact}
use Rattle.flute_parts.specs.Addresses.{address}
use Rattle.flute_journal.specs.declared.readers.entry_fields.Before.{Before}
use Rattle.flute_journal.specs.declared.format.version.Version.{Version}
use Rattle.flute_journal.specs.Faults.{is_after, header_fault, version_in, next_fault}
use Rattle.flute_journal.specs.Framing.{Framing}
use Rattle.flute_journal.specs.Journal.{journal_frame}

-- the address of the last of these facts, or else that of the one before them
abbrev pub last_of : Option Address → List Fact → Option Address
last_of last [] = last
last_of last (f ∷ fs) = last_of (Some (address f)) fs

-- the place after these entries
abbrev pub before : Version → List Fact → Before
before version entries =
    record { version = version; count = length entries; last = last_of None entries }

-- the place after one entry more
abbrev pub after : Before → Fact → Before
after place f =
    record { version = place.version; count = place.count + 1; last = Some (address f) }

-- the reading of journals
abbrev pub journal_framing : Framing Fact Before Version
journal_framing = record {
  frame = journal_frame;
  place_after = before;
  next = after;
  told = λ place. place.version;
  count = λ place. place.count;
  may_follow = λ place f. is_after place.last (address f);
  header_fault = header_fault;
  told_in = version_in;
  next_fault = next_fault;
  IsFault = λ f. ⊤;
}
