-- A journal that is read as a stream, with its source: what is said of one whose source is lent,
-- but for the reference to it.
use Rattle.std.specs.Prelude.{◌≡◌, ℕ, ◌+◌, List, length, Option, None, IfSome}
use Rattle.flute_parts.specs.declared.fact.Fact.{Fact}
use Rattle.flute_streams.specs.declared.streams.owned_journal_stream.OwnedJournalStream.{OwnedJournalStream}
use Rattle.flute_journal.specs.declared.readers.entry_fields.Before.{Before}
use Rattle.flute_journal.specs.declared.readers.held_entry.HeldEntry.{HeldEntry}
use Rattle.flute_journal.specs.declared.readers.reader_state.ReaderState.{ReaderState}
use Rattle.flute_journal.specs.HeldEntries.{Reading, fact_of_held, left_of, reading, spelled_of}
use Rattle.flute_journal.specs.Journal.{IsJournalWithin}
use Rattle.flute_journal.specs.JournalFraming.{journal_framing}
use Rattle.flute_journal.specs.Framing.{HasFault}
use Rattle.flute_journal.specs.Prefixes.{ReadsEntries}
use Rattle.flute_streams.specs.Streams.{Behaviour, option_list}
use Rattle.flute_streams.specs.JournalStreams.{ReadAt, room, StopsReading, FailsBy, IsJournalOfAll}

-- how many entries its journal may have
abbrev pub owned_limit : {R : Type 0} → OwnedJournalStream R → ℕ
owned_limit s = s.max_entries

-- where its reader is
abbrev pub owned_state : {R : Type 0} → OwnedJournalStream R → ReaderState Before
owned_state s = s.state

-- the entry that it holds
abbrev pub held_of : {R : Type 0} → OwnedJournalStream R → HeldEntry
held_of s = s.held

-- the state of the stream's reader
abbrev pub reading_in : {R : Type 0} → OwnedJournalStream R → Reading R
reading_in s = reading s.source s.state s.held

module _ {R : Type 0} (unread : R → Option (List ℕ)) (buffered : R → List ℕ) where
  -- what is left of the source behind the entry that is held
  abbrev pub left_in : OwnedJournalStream R → Option (List ℕ)
  left_in s = left_of unread buffered (reading_in s)

  -- the fact at which the stream is
  abbrev pub held_in : OwnedJournalStream R → Option Fact
  held_in s = fact_of_held buffered (reading_in s)

  module _ (failures : R → ℕ) where
    -- since it was new, these entries were given
    pub record OwnedPasses (start now : OwnedJournalStream R) (entries : List Fact) : Type 0 where
      pub fails : FailsBy (failures start.source) (failures now.source) None
      pub same_limit : now.max_entries ≡ start.max_entries
      pub read :
          ReadAt start.max_entries (left_in start) (left_in now) now.state entries (held_in now)

    abbrev pub owned_behaviour : Behaviour (OwnedJournalStream R)
    owned_behaviour = record {
      held = held_in;
      spelled = λ s. spelled_of buffered (reading_in s);
      most = λ s. length (option_list (held_in s)) + room s.max_entries s.state;
      tells = λ s F. IfSome (left_in s) (λ bytes. IsJournalWithin s.max_entries bytes F);
      knows = λ s F. IsJournalOfAll (left_in s) F;
      stops = λ s fault.
          StopsReading (HasFault journal_framing s.max_entries (left_in s)) fault;
      passes = OwnedPasses;
      reads = λ start now F. ReadsEntries (left_in start) (left_in now) F;
      fails = λ start now fault. FailsBy (failures start.source) (failures now.source) fault;
      ends = λ start now F.
          IfSome (left_in start) (λ bytes. IsJournalWithin start.max_entries bytes F);
    }
