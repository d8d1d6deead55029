-- Which bytes are the journal of which facts.
use Rattle.std.specs.Prelude.{◌≡◌, ℕ, ◌<◌, ◌^◌, List, length}
use Rattle.std.specs.List.{AllByRecursion}
use Rattle.flute_parts.specs.Session.{Session}
use Rattle.flute_parts.specs.declared.key.Key.{Key}
use Rattle.flute_parts.specs.declared.fact.Fact.{Fact}
use Rattle.flute_parts.specs.Facts.{Same, IsRising}
use Rattle.flute_parts.specs.Ranges.{IsFact, IsKey}
use Rattle.flute_journal.specs.declared.format.version.Version.{Version}
use Rattle.flute_journal.specs.declared.format.version.Version.TheVariants.{One, Two}
use Rattle.flute_journal.specs.Format.{sender_size, fact_key, header_in, entry_in, end, spelling_in}
use Rattle.flute_journal.specs.Format.{spelling}
use Rattle.flute_journal.specs.Frame.{Frame, IsWhole}

-- entries of this version have room for the sender: in version 1 it is 0
abbrev pub HasRoom : Version → Session → Type 0
HasRoom version session = session.sender < 256 ^ sender_size version

-- a valid key, whose sender an entry of this version has room for
abbrev pub IsKeyIn : Version → Key → Type 0
IsKeyIn version key = IsKey key × HasRoom version key.session

-- a fact that is spelled as an entry of this version
abbrev pub IsFactIn : Version → Fact → Type 0
IsFactIn version f = IsFact f × HasRoom version (fact_key f).session

-- the entries of a journal of these facts: one for each address, in rising order, with the
-- value of the facts there
pub record Collects (facts entries : List Fact) : Type 0 where
  pub valid : AllByRecursion IsFact entries
  pub rising : IsRising entries
  pub same : Same facts entries

-- the bytes are the journal of these facts, as it is written
abbrev pub Journal : List ℕ → List Fact → Type 0
Journal bytes facts =
    (entries : List Fact) × Collects facts entries × (length entries < 2 ^ 64)
    × (bytes ≡ spelling entries)

-- the bytes are the journal of these facts in version 1: each sender is 0
abbrev pub OldJournal : List ℕ → List Fact → Type 0
OldJournal bytes facts = (entries : List Fact) × Collects facts entries × (length entries < 2 ^ 64)
    × (bytes ≡ spelling_in One entries) × AllByRecursion (IsFactIn One) entries

-- the bytes are the journal of these facts in this version
abbrev pub JournalIn : Version → List ℕ → List Fact → Type 0
JournalIn One bytes facts = OldJournal bytes facts
JournalIn Two bytes facts = Journal bytes facts

-- the bytes are a journal of these facts, as it is read: of either version
abbrev pub IsJournal : List ℕ → List Fact → Type 0
IsJournal bytes facts = (version : Version) × JournalIn version bytes facts

-- a journal as a framed file of entries, whose header contains its version
abbrev pub journal_frame : Frame Fact Version
journal_frame = record {
  header = header_in;
  item = entry_in;
  end = end;
  IsItem = IsFactIn;
  AreInOrder = IsRising;
}

-- the bytes are a journal of these entries, at most so many
abbrev pub IsJournalWithin : ℕ → List ℕ → List Fact → Type 0
IsJournalWithin = IsWhole journal_frame
