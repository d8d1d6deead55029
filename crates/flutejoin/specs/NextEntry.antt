-- The next entry of a journal that is held to limits.
use Rattle.std.specs.Prelude.{◌≡◌, ℕ, List, [], ◌∷◌, ◌++◌, Option, Some, None, IfSome, Result, Ok}
use Rattle.std.specs.Prelude.{Err}
use Rattle.std.specs.Io.KnownBytes.{IsAtEnd}
use Rattle.flute_parts.specs.Tally.{Counts}
use Rattle.flute_parts.specs.declared.fact.Fact.{Fact}
use Rattle.flute_parts.specs.declared.tally.Tally.{Tally}
use Rattle.flute_journal.specs.Framing.{Sofar}
use Rattle.flute_journal.specs.Journal.{IsJournalWithin}
use Rattle.flute_journal.specs.JournalFraming.{journal_framing}
use Rattle.flute_journal.specs.HeldEntries.{fact_of_held}
use Rattle.flute_journal.specs.Readers.{limit_of, source_of, state_of}
use Rattle.flute_journal.specs.declared.readers.held_entry.HeldEntry.{HeldEntry}
use Rattle.flute_journal.specs.declared.readers.journal_reader.JournalReader.{JournalReader}
use Rattle.flute_streams.specs.JournalStreams.{JournalState, reading_of, unread_of}
use Rattle.flutejoin.specs.Limits.{Limits, at_most}
use Rattle.flutejoin.specs.Load.{LoadFails}
use Rattle.flutejoin.specs.declared.command_fault.CommandFault.{CommandFault}
use Rattle.flutejoin.specs.declared.command_fault.CommandFault.TheVariants.{OutOfMemory}
use Rattle.flutejoin.specs.declared.limits.TheConstants.{MAX_ENTRIES}

-- a reader, and the entry that is held of its journal
abbrev pub holding : {R : Type 0} → JournalReader R → HeldEntry → JournalState R
holding reader held = record { reader = reader; held = held }

-- of the input these entries were read, which are within the limits, and nothing else; the last may
-- still be held
pub record HasRead {R : Type 0} (unread : R → Option (List ℕ)) (buffered : R → List ℕ)
    {s o y : ℕ} (input : Option (List ℕ)) (entries : List Fact) (journal : JournalState R)
    (tally : Tally s o y) : Type 0 where
  pub sofar : Sofar journal_framing MAX_ENTRIES input (unread_of unread buffered journal)
      (state_of journal.reader) entries
  pub counts : Counts s o y entries tally
  pub limit : limit_of journal.reader ≡ MAX_ENTRIES

-- why no entry more was read: the first fault of the bytes, or an entry beyond the limits
abbrev pub NotRead : Limits → Option (List ℕ) → Option (List ℕ) → CommandFault → Type 0
NotRead most input left OutOfMemory = ⊥
NotRead most input left fault = LoadFails most 1 input left fault

-- after these entries: one more is held, or none at the end
abbrev pub HoldsOn : {R : Type 0} → (R → Option (List ℕ)) → (R → List ℕ)
    → {s o y : ℕ} → Option (List ℕ) → List Fact → JournalState R → Tally s o y
    → Option Fact → Type 0
HoldsOn unread buffered input entries journal tally (Some f) =
    HasRead unread buffered input (entries ++ f ∷ []) journal tally
HoldsOn unread buffered input entries journal tally None =
    IfSome input (λ bytes. IsJournalWithin MAX_ENTRIES bytes entries)
    × IsAtEnd (unread (source_of journal.reader).now)

-- or there was a fault
abbrev pub ReadsOn : {R : Type 0} → (R → Option (List ℕ)) → (R → List ℕ)
    → {s o y : ℕ} → Option (List ℕ) → List Fact → JournalState R → Tally s o y
    → Result (Unit {0}) CommandFault → Type 0
ReadsOn unread buffered input entries journal tally (Ok done) =
    HoldsOn unread buffered input entries journal tally
    (fact_of_held buffered (reading_of journal))
ReadsOn unread buffered {s} {o} {y} input entries journal tally (Err f) =
    NotRead (at_most s o y) input (unread (source_of journal.reader).now) f
