-- What is told of how much of an object a journal has.
use Rattle.std.specs.Prelude.{◌≡◌, ◌⊎◌, ℕ, ◌==◌, List, Option, Some, if◌then◌else◌}
use Rattle.flute_parts.specs.declared.fact.Fact.{Fact}
use Rattle.flute_parts.specs.declared.key.Key.{Key}
use Rattle.flute_journal.specs.Stores.{IsJournalOf}
use Rattle.flute_store.specs.Found.{IsUnheard}
use Rattle.flute_store.specs.Status.{TellsStatus}
use Rattle.flute_store.specs.declared.status.Status.{Status}
use Rattle.flute_store.specs.declared.status.Status.TheVariants.{ConflictingInformation}
use Rattle.flute_store.specs.declared.status.Status.TheVariants.{NoInformation, Partial, Whole}
use Rattle.flutejoin.specs.Limits.{IsOver, Limits}
use Rattle.flutejoin.specs.Load.{LoadFails}
use Rattle.flutejoin.specs.declared.command_fault.CommandFault.{CommandFault}
use Rattle.flutejoin.specs.declared.command_fault.CommandFault.TheVariants.{NoObject}
use Rattle.flutejoin.specs.declared.limits.TheConstants.{MAX_ENTRIES}
use Rattle.flutejoin_c.specs.Objects.{Names}
use Rattle.flutejoin_c.specs.declared.object.ObjectFields.{ObjectFields}
use Rattle.flutejoin_c.specs.declared.status.StatusFields.{StatusFields}

-- the status that is told
abbrev pub status_in : StatusFields → Status
status_in f =
    if f.status == 1 then NoInformation
    else if f.status == 2 then ConflictingInformation
    else if f.status == 3 then Partial f.missing f.conflicting f.misfit
    else Whole f.length

-- the bytes are a journal within the limits, and of its facts P holds
pub record OfFacts (most : Limits) (journal : List ℕ) (P : List Fact → Type 0) : Type 0 where
  pub facts : List Fact
  pub journal_is : IsJournalOf MAX_ENTRIES journal facts
  pub within : ¬ IsOver most facts
  pub so : P facts

-- the status of an object in a journal
abbrev pub IsStatusOf : Limits → List ℕ → Key → Status → Type 0
IsStatusOf most journal key status = OfFacts most journal (λ F. TellsStatus F key status)

-- of the object that is named
abbrev pub Tells : ObjectFields → Limits → List ℕ → Status → Type 0
Tells fields most journal status =
    (key : Key) × Names fields key × IsStatusOf most journal key status

-- why there is none: nothing is held of the object, or the journal is at fault
abbrev pub StatusFails : Limits → List ℕ → Key → CommandFault → Type 0
StatusFails most journal key fault =
    ((fault ≡ NoObject) × OfFacts most journal (λ F. IsUnheard F key))
    ⊎ ((left : Option (List ℕ)) × LoadFails most 1 (Some journal) left fault)
