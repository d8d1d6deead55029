-- What is written of a journal to which a fact is added.
use Rattle.std.specs.Prelude.{◌≡◌, ℕ, List, ◌++◌, Option, IfSome}
use Rattle.flute_parts.specs.declared.fact.Fact.{Fact}
use Rattle.flute_journal.specs.Journal.{IsJournalWithin}
use Rattle.flute_journal.specs.JournalFraming.{journal_framing}
use Rattle.flute_journal.specs.Framing.{HasFault}
use Rattle.flutejoin.specs.declared.command_fault.CommandFault.{CommandFault}
use Rattle.flutejoin.specs.declared.command_fault.CommandFault.TheVariants.{Input, Full}
use Rattle.flutejoin.specs.declared.command_fault.CommandFault.TheVariants.{CannotWrite}
use Rattle.flutejoin.specs.declared.limits.TheConstants.{MAX_ENTRIES}
use Rattle.flute_journal.specs.JournalWriters.{WritesJournal}
use Rattle.flutejoin.specs.Limits.{Limits, IsOver}

-- the bytes are a journal of some entries, and the journal of them and of these facts was written,
-- which has so many entries
abbrev pub AddsFacts : Option (List ℕ) → List Fact → Option (List ℕ) → Option (List ℕ)
    → ℕ → Type 0
AddsFacts input facts old new count =
    IfSome input (λ bytes. (entries : List Fact) × IsJournalWithin MAX_ENTRIES bytes entries
    × WritesJournal old new (entries ++ facts) count)

-- the bytes are a journal that is over the limits together with these facts
abbrev pub IsOverWith : Limits → List ℕ → List Fact → Type 0
IsOverWith most bytes facts =
    (entries : List Fact) × IsJournalWithin MAX_ENTRIES bytes entries
    × IsOver most (entries ++ facts)

-- the bytes are a journal that is within the limits together with these facts
abbrev pub IsWithinWith : Limits → List ℕ → List Fact → Type 0
IsWithinWith most bytes facts =
    (entries : List Fact) × IsJournalWithin MAX_ENTRIES bytes entries
    × ¬ IsOver most (entries ++ facts)

-- why facts were not added: the fault of the journal; the limits, over which it is with them; or
-- the sink, if neither is
abbrev pub InfoFails : Limits → Option (List ℕ) → List Fact → CommandFault → Type 0
InfoFails most input facts (Input told fault) =
    (told ≡ 1) × HasFault journal_framing MAX_ENTRIES input fault
InfoFails most input facts Full = IfSome input (λ bytes. IsOverWith most bytes facts)
InfoFails most input facts CannotWrite = IfSome input (λ bytes. IsWithinWith most bytes facts)
InfoFails most input facts _ = ⊥
