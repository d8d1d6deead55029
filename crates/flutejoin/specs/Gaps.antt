-- What the command `gaps` returns and writes, given a journal.
use Rattle.std.specs.Prelude.{ℕ, ◌⊎◌, Bool, List, Option, IfSome, filter}
use Rattle.std.specs.Io.KnownBytes.{Consumes, IsAtEnd}
use Rattle.flute_parts.specs.declared.fact.Fact.{Fact}
use Rattle.flute_journal.specs.Frame.{AreItems}
use Rattle.flute_journal.specs.Framing.{read_of}
use Rattle.flute_journal.specs.Journal.{IsJournalWithin, journal_frame}
use Rattle.flute_journal.specs.JournalFraming.{journal_framing}
use Rattle.flutejoin.specs.declared.limits.TheConstants.{MAX_ENTRIES}
use Rattle.flutejoin.specs.declared.command_fault.CommandFault.{CommandFault}
use Rattle.flutejoin.specs.declared.command_fault.CommandFault.TheVariants.{OutOfMemory}
use Rattle.flutejoin.specs.declared.command_fault.CommandFault.TheVariants.{CannotWrite}
use Rattle.flutejoin.specs.Load.{LoadFails}
use Rattle.flutejoin.specs.Limits.{Limits, IsOver}
use Rattle.flutejoin.specs.Told.{AreTold, Told}

-- the input is a journal within the limits, and P holds of the report of its objects, of which
-- only what is picked counts
pub record ListsJournal (most : Limits) (picks : Fact → Bool) (input : Option (List ℕ))
    (P : List Told → Type 0) : Type 0 where
  pub entries : List Fact
  pub journal : IfSome input (λ bytes. IsJournalWithin MAX_ENTRIES bytes entries)
  pub within : ¬ IsOver most entries
  pub objects : List Told
  pub told : AreTold (filter picks entries) objects
  pub so : P objects

-- entries within the limits were read, and nothing after them but the end
pub record ReadsWithin (most : Limits) (input left : Option (List ℕ)) : Type 0 where
  pub entries : List Fact
  pub are_items : AreItems journal_frame MAX_ENTRIES entries
  pub within : ¬ IsOver most entries
  pub read : Consumes input left (read_of journal_framing are_items.told entries)
      ⊎ (IfSome input (λ bytes. IsJournalWithin MAX_ENTRIES bytes entries) × IsAtEnd left)

-- why they are not written: as a journal is not read into a store; lines are put aside or written
-- after entries within the limits were read
abbrev pub GapsFail : Limits → Option (List ℕ) → Option (List ℕ) → CommandFault → Type 0
GapsFail most input left OutOfMemory = ⊥
GapsFail most input left CannotWrite = ReadsWithin most input left
GapsFail most input left fault = LoadFails most 1 input left fault
