-- What the command `forget` writes and returns.
use Rattle.std.specs.Prelude.{◌≡◌, ℕ, List, Option, Some, ⊤, IfSome}
use Rattle.std.specs.Io.KnownBytes.{Appends}
use Rattle.std.specs.BTreeSet.{BTreeSet}
use Rattle.flute_parts.specs.declared.fact.Fact.{Fact}
use Rattle.flute_parts.specs.declared.key.Key.{Key}
use Rattle.flute_journal.specs.declared.fault.ReadFault.TheVariants.{Read}
use Rattle.flute_journal.specs.Framing.{HasFault}
use Rattle.flute_journal.specs.Journal.{IsJournal, IsJournalWithin, Journal}
use Rattle.flute_journal.specs.JournalFraming.{journal_framing}
use Rattle.flute_journal.specs.JournalWriters.{WritesJournal}
use Rattle.flute_journal.specs.Prefixes.{IsProperPrefix}
use Rattle.flute_streams.specs.Selections.{all_but_of, left, left_out_in}
use Rattle.flute_streams.specs.declared.choice.selection.AllBut.{AllBut}
use Rattle.flute_streams.specs.declared.choice.selection.Selection.{Selection}
use Rattle.flutejoin.specs.KeyLists.{KeyListFails, ListNames}
use Rattle.flutejoin.specs.declared.command_fault.CommandFault.{CommandFault}
use Rattle.flutejoin.specs.declared.command_fault.CommandFault.TheVariants.{Input, CannotWrite}
use Rattle.flutejoin.specs.declared.forget.ForgetCounts.{ForgetCounts}
use Rattle.flutejoin.specs.declared.limits.TheConstants.{MAX_ENTRIES}

-- the bytes are a journal of some entries, of which so many are left out
abbrev pub IsForgetful : AllBut → ℕ → List Fact → List ℕ → Type 0
IsForgetful rest forgotten entries bytes =
    IsJournalWithin MAX_ENTRIES bytes entries × (forgotten ≡ left_out_in rest entries)

-- the input is a journal of some entries, of which so many are left out, and the journal of those
-- that are not was written, which has so many entries
pub record Forgets (rest : AllBut) (counts : ForgetCounts)
    (input old new : Option (List ℕ)) : Type 0 where
  pub entries : List Fact
  pub journal : IfSome input (IsForgetful rest counts.forgotten entries)
  pub writes : WritesJournal old new (left rest entries) counts.entries

-- What was appended is no journal of any version. If the input is a journal, it is a proper prefix
-- of the journal of what is left of it.
pub record ForgetsPart (rest : AllBut) (input old new : Option (List ℕ)) : Type 0 where
  pub bytes : List ℕ
  pub appended : Appends old new bytes
  pub no_journal : (facts : List Fact) → IsJournal bytes facts → ⊥
  pub prefix : (journal whole : List ℕ) (entries : List Fact) → input ≡ Some journal
      → IsJournalWithin MAX_ENTRIES journal entries → Journal whole (left rest entries)
      → IsProperPrefix bytes whole

-- why nothing is forgotten: the fault of the journal, or the sink
abbrev pub ForgetFails : Option (List ℕ) → CommandFault → Type 0
ForgetFails input (Input number fault) =
    (number ≡ 1) × HasFault journal_framing MAX_ENTRIES input fault
ForgetFails input CannotWrite = ⊤
ForgetFails input _ = ⊥

-- the list names some objects, and the journal was written of what is not selected, or not of these
abbrev pub ForgetsListed : Selection → Option (List ℕ) → Option (List ℕ) → ForgetCounts
    → Option (List ℕ) → Option (List ℕ) → Type 0
ForgetsListed selection list input counts old new =
    IfSome list (λ text. (keys : BTreeSet Key) × ListNames text keys
    × Forgets (all_but_of keys selection) counts input old new)

-- why it was not: the list's fault, or its source failed; or the journal's fault, or the sink
pub data ForgetListFails (list input : Option (List ℕ)) (fault : CommandFault) : Type 0 where
  of_list : IfSome list (λ text. KeyListFails text fault) → ForgetListFails list input fault
  of_source : fault ≡ Input 2 Read → ForgetListFails list input fault
  of_journal : ForgetFails input fault → ForgetListFails list input fault
