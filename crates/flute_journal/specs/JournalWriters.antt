-- What is written of a journal, by a writer that continues after a failure.
use Rattle.std.specs.Prelude.{◌≡◌, ℕ, ◌+◌, Bool, true, false, List, [], length, Option}
use Rattle.std.specs.Io.KnownBytes.{Appends}
use Rattle.flute_parts.specs.declared.fact.Fact.{Fact}
use Rattle.flute_parts.specs.Devices.{AppendsPart, times_failed}
use Rattle.flute_journal.specs.Journal.{Journal}
use Rattle.flute_journal.specs.declared.writers.journal_writer.JournalWriter.{JournalWriter}

-- all the bytes were appended; or, if the sink has failed, a part of them
abbrev pub Written : Bool → Option (List ℕ) → Option (List ℕ) → List ℕ → Type 0
Written false old new bytes = Appends old new bytes
Written true old new bytes = AppendsPart old new bytes

-- the journal of these facts, with so many entries, was appended; or, if it is cut, a part of it
pub record PutsJournal (cut : Bool) (old new : Option (List ℕ)) (facts : List Fact)
    (count : ℕ) : Type 0 where
  pub bytes : List ℕ
  pub journal : Journal bytes facts
  pub entries : count ≡ length journal.0
  pub appended : Written cut old new bytes

-- the journal of these facts was appended, which has so many entries
abbrev pub WritesJournal : Option (List ℕ) → Option (List ℕ) → List Fact → ℕ → Type 0
WritesJournal old new facts count = PutsJournal false old new facts count

-- a sink took these bytes, if it had not failed before; else it got nothing
abbrev pub PutsBytes : Bool → Bool → Option (List ℕ) → Option (List ℕ) → List ℕ → Type 0
PutsBytes false failed old new bytes = Written failed old new bytes
PutsBytes true true old new bytes = Appends old new []
PutsBytes true false old new bytes = ⊥

-- a writer wrote these bytes to its sink, as far as that took them
pub record Puts {W : Type 0} (written : W → Option (List ℕ)) (failures : W → ℕ) (bytes : List ℕ)
    (old new : JournalWriter W) : Type 0 where
  pub same_sink : new.sink.ghost_name ≡ old.sink.ghost_name
  pub puts : PutsBytes old.failed new.failed (written old.sink.now) (written new.sink.now) bytes
  pub fails : failures new.sink.now + times_failed old.failed
      ≡ failures old.sink.now + times_failed new.failed
