-- A journal that is read as a stream.
use Rattle.std.specs.Prelude.{◌≡◌, ℕ, ◌+◌, ◌-◌, List, ◌++◌, length, Option, Some, None, IfSome, Err}
use Rattle.std.specs.List.{AllByRecursion}
use Rattle.flute_parts.specs.Facts.{IsRising}
use Rattle.flute_parts.specs.declared.fact.Fact.{Fact}
use Rattle.flute_journal.specs.declared.fault.ReadFault.{ReadFault}
use Rattle.flute_journal.specs.declared.fault.LoadFault.{LoadFault}
use Rattle.flute_journal.specs.declared.fault.LoadFault.TheVariants.{Read, Full, OutOfMemory}
use Rattle.flute_journal.specs.declared.readers.entry_fields.Before.{Before}
use Rattle.flute_journal.specs.declared.readers.reader_state.ReaderState.{ReaderState}
use Rattle.flute_journal.specs.declared.readers.reader_state.ReaderState.TheVariants.{Header, Items}
use Rattle.flute_journal.specs.declared.readers.reader_state.ReaderState.TheVariants.{Ended}
use Rattle.flute_journal.specs.declared.readers.reader_state.ReaderState.TheVariants.{Failed}
use Rattle.flute_journal.specs.declared.readers.held_entry.HeldEntry.{HeldEntry}
use Rattle.flute_journal.specs.declared.readers.journal_reader.JournalReader.{JournalReader}
use Rattle.flute_streams.specs.declared.streams.lent_stream.LentStream.{LentStream}
use Rattle.flute_journal.specs.declared.format.version.Version.{Version}
use Rattle.flute_journal.specs.Format.{spelling_in}
use Rattle.flute_journal.specs.Input.{Fails}
use Rattle.flute_journal.specs.Journal.{IsFactIn, IsJournalWithin, journal_frame}
use Rattle.flute_journal.specs.JournalFraming.{journal_framing}
use Rattle.flute_journal.specs.HeldEntries.{Reading, fact_of_held, left_of, reading, spelled_of}
use Rattle.flute_journal.specs.Readers.{source_of, limit_of, state_of}
use Rattle.flute_journal.specs.Framing.{HasFault, Sofar}
use Rattle.flute_journal.specs.Frame.{AreItems}
use Rattle.flute_streams.specs.Loans.{lent_as}
use Rattle.flute_journal.specs.Prefixes.{ReadsEntries}
use Rattle.flute_streams.specs.Streams.{Behaviour, option_list}

-- a journal of these entries was read to its end
pub record ReadWhole (limit : ℕ) (first now : Option (List ℕ)) (entries : List Fact) : Type 0 where
  pub are_items : AreItems journal_frame limit entries
  pub whole : IfSome first (λ bytes. IsJournalWithin limit bytes entries)
  pub read : ReadsEntries first now entries

-- by where its reader is: these entries were given, and one more is held
abbrev pub ReadAt : ℕ → Option (List ℕ) → Option (List ℕ) → ReaderState Before → List Fact
    → Option Fact → Type 0
ReadAt limit first now Ended entries held = ReadWhole limit first now entries × (held ≡ None)
ReadAt limit first now (Failed fault) entries held = ⊥
ReadAt limit first now state entries held =
    Sofar journal_framing limit first now state (entries ++ option_list held)

-- as many entries as may still be read
abbrev pub room : ℕ → ReaderState Before → ℕ
room limit Header = limit
room limit (Items place) = limit - place.count
room limit Ended = 0
room limit (Failed fault) = 0

-- a journal stops at no other faults than those of reading
abbrev pub StopsReading : (ReadFault → Type 0) → LoadFault → Type 0
StopsReading P (Read fault) = P fault
StopsReading P Full = ⊥
StopsReading P OutOfMemory = ⊥

-- how often a source failed that gave this fault, or none
abbrev pub FailsBy : ℕ → ℕ → Option LoadFault → Type 0
FailsBy old new None = new ≡ old
FailsBy old new (Some (Read fault)) = Fails {T = Option Fact} old new (Err fault)
FailsBy old new (Some fault) = new ≡ old

-- a journal that is read entry by entry, of which one entry is held
pub record JournalState (R : Type 0) : Type 0 where
  pub reader : JournalReader R
  pub held : HeldEntry

-- its source, where its reader is, and the entry that is held
abbrev pub reading_of : {R : Type 0} → JournalState R → Reading R
reading_of s = reading (source_of s.reader).now (state_of s.reader) s.held

-- the bytes are the journal of these entries
pub record IsJournalOfAll (bytes : Option (List ℕ)) (entries : List Fact) : Type 0 where
  pub version : Version
  pub bytes_are : bytes ≡ Some (spelling_in version entries)
  pub valid : AllByRecursion (IsFactIn version) entries
  pub rising : IsRising entries

module _ {R : Type 0} (unread : R → Option (List ℕ)) (buffered : R → List ℕ) where
  -- what is left of the source behind the entry that is held
  abbrev pub unread_of : JournalState R → Option (List ℕ)
  unread_of s = left_of unread buffered (reading_of s)

  -- the fact at which a journal's stream is
  abbrev pub held_by : JournalState R → Option Fact
  held_by s = fact_of_held buffered (reading_of s)

  module _ (failures : R → ℕ) where
    -- it still reads the same source, which failed since then as the fault says
    pub record FailsSince (start now : JournalState R) (fault : Option LoadFault) : Type 0 where
      pub same_source : (source_of now.reader).ghost_name ≡ (source_of start.reader).ghost_name
      pub failed_as :
          FailsBy (failures (source_of start.reader).now) (failures (source_of now.reader).now)
          fault

    -- since it was new, these entries were given
    pub record PassesSince (start now : JournalState R) (entries : List Fact) : Type 0 where
      pub fails : FailsSince start now None
      pub same_limit : limit_of now.reader ≡ limit_of start.reader
      pub read :
          ReadAt (limit_of start.reader) (unread_of start) (unread_of now) (state_of now.reader)
          entries (held_by now)

    abbrev pub journal_behaviour : Behaviour (JournalState R)
    journal_behaviour = record {
      held = held_by;
      spelled = λ s. spelled_of buffered (reading_of s);
      most = λ s. length (option_list (held_by s)) + room (limit_of s.reader) (state_of s.reader);
      tells = λ s F. IfSome (unread_of s) (λ bytes. IsJournalWithin (limit_of s.reader) bytes F);
      knows = λ s F. IsJournalOfAll (unread_of s) F;
      stops = λ s fault.
          StopsReading (HasFault journal_framing (limit_of s.reader) (unread_of s)) fault;
      passes = PassesSince;
      reads = λ start now F. ReadsEntries (unread_of start) (unread_of now) F;
      fails = FailsSince;
      ends = λ start now F.
          IfSome (unread_of start) (λ bytes. IsJournalWithin (limit_of start.reader) bytes F);
    }

-- a journal whose reader and held entry are lent
abbrev pub lent : {R : Type 0} → LentStream R → JournalState R
lent s = record { reader = s.reader.now; held = s.held.now }

-- they are lent by the same references
pub record SameLoans {R : Type 0} (start now : LentStream R) : Type 0 where
  pub same_reader : now.reader.ghost_name ≡ start.reader.ghost_name
  pub same_held : now.held.ghost_name ≡ start.held.ghost_name

-- how a stream behaves whose reader is lent: as the reader
abbrev pub lent_behaviour : {R : Type 0} → (R → Option (List ℕ)) → (R → List ℕ) → (R → ℕ)
    → Behaviour (LentStream R)
lent_behaviour unread buffered failures =
    lent_as lent SameLoans (journal_behaviour unread buffered failures)
