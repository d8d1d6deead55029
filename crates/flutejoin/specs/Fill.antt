-- What the command `fill` writes.
use Rattle.std.specs.Prelude.{◌≡◌, ◌⊎◌, ℕ, List, Option, IfSome, ⊤}
use Rattle.flute_parts.specs.declared.fact.Fact.{Fact}
use Rattle.flute_journal.specs.Framing.{HasFault}
use Rattle.flute_journal.specs.Journal.{IsJournalWithin}
use Rattle.flute_journal.specs.JournalFraming.{journal_framing}
use Rattle.flute_journal.specs.JournalWriters.{WritesJournal}
use Rattle.flute_journal.specs.declared.fault.ReadFault.TheVariants.{Read}
use Rattle.flutejoin.specs.FillLists.{IsBadLine, IsListing, asked}
use Rattle.flutejoin.specs.declared.command_fault.CommandFault.{CommandFault}
use Rattle.flutejoin.specs.declared.command_fault.CommandFault.TheVariants.{BadLine, CannotWrite}
use Rattle.flutejoin.specs.declared.command_fault.CommandFault.TheVariants.{Input}
use Rattle.flutejoin.specs.declared.fill.asking.Asking.{Asking}
use Rattle.flutejoin.specs.declared.fill.listed_line.ListedLine.{ListedLine}
use Rattle.flutejoin.specs.declared.limits.TheConstants.{MAX_ENTRIES}

-- the inputs are a journal and the lines that `gaps` prints of another, and the journal of what
-- these ask for was written, which has so many entries
pub record WritesFill (asking : Asking) (journal lines : Option (List ℕ)) (count : ℕ)
    (old new : Option (List ℕ)) : Type 0 where
  pub facts : List Fact
  pub listed : List ListedLine
  pub journal_is : IfSome journal (λ bytes. IsJournalWithin MAX_ENTRIES bytes facts)
  pub lines_are : IfSome lines (λ bytes. IsListing bytes listed)
  pub writes : WritesJournal old new (asked asking listed facts) count

-- why it was not: the journal has this fault, a line is none of those, or a device failed
abbrev pub FillFails : Option (List ℕ) → Option (List ℕ) → CommandFault → Type 0
FillFails journal lines (Input number fault) =
    ((number ≡ 1) × HasFault journal_framing MAX_ENTRIES journal fault)
    ⊎ ((number ≡ 2) × (fault ≡ Read))
FillFails journal lines (BadLine number) = IfSome lines (λ bytes. IsBadLine bytes number)
FillFails journal lines CannotWrite = ⊤
FillFails journal lines _ = ⊥
