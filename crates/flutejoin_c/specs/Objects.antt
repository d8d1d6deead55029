-- What is told of one object of a journal.
use Rattle.std.specs.Prelude.{◌≡◌, ◌⊎◌, ℕ, List, Option, Some, Err}
use Rattle.std.specs.Io.KnownBytes.{Appends}
use Rattle.flute_parts.specs.Information.{Information}
use Rattle.flute_parts.specs.ObjectName.{IsObjectName, instance_of, toi_of}
use Rattle.flute_parts.specs.Partition.{symbol_id}
use Rattle.flute_parts.specs.Session.{IsSession, session}
use Rattle.flute_parts.specs.declared.fact.Fact.{Fact}
use Rattle.flute_parts.specs.declared.key.Key.{Key}
use Rattle.flute_journal.specs.Journal.{IsJournalWithin}
use Rattle.flute_store.specs.Extract.{IsNotWhole}
use Rattle.flute_store.specs.Found.{IsUnheard}
use Rattle.flute_store.specs.GapAnswers.{HasConflict, LacksInformation}
use Rattle.flute_store.specs.Objects.{Whole, object}
use Rattle.flutejoin.specs.Extract.{AnswersFrom}
use Rattle.flutejoin.specs.Limits.{IsOver, Limits}
use Rattle.flutejoin.specs.declared.command_fault.CommandFault.{CommandFault}
use Rattle.flutejoin.specs.declared.command_fault.CommandFault.TheVariants as faults
use Rattle.flutejoin.specs.declared.limits.TheConstants.{MAX_ENTRIES}
use Rattle.flutejoin_c.specs.Names.{wide}
use Rattle.flutejoin_c.specs.Packets.{instance_in}
use Rattle.flutejoin_c.specs.declared.object.ObjectFields.{ObjectFields}

-- the object has these numbers
pub record Names (fields : ObjectFields) (key : Key) : Type 0 where
  pub session_is : key.session ≡ session (wide fields.sender) fields.tsi
  pub is_session : IsSession key.session
  pub is_object : IsObjectName key.object
  pub toi : toi_of key.object ≡ wide fields.toi
  pub instance : instance_of key.object ≡ instance_in fields.instance

-- no object has them
abbrev pub NamesNone : ObjectFields → Type 0
NamesNone fields = (key : Key) → Names fields key → ⊥

-- what is written of the object that is named
abbrev pub OfObject : ObjectFields → (Key → Option (List ℕ) → Option (List ℕ) → Type 0)
    → Option (List ℕ) → Option (List ℕ) → Type 0
OfObject fields writes old new = (key : Key) × Names fields key × writes key old new

-- none is named, or why not
abbrev pub OfObjectFails : ObjectFields → (Key → CommandFault → Type 0) → CommandFault
    → Type 0
OfObjectFails fields fails fault =
    ((fault ≡ faults.BadKey) × NamesNone fields)
    ⊎ ((key : Key) × Names fields key × fails key fault)

-- these are a journal within the limits that makes the object whole, whose bytes were appended
pub record Extracts (most : Limits) (journal : List ℕ) (key : Key)
    (old new : Option (List ℕ)) : Type 0 where
  pub entries : List Fact
  pub journal_is : IsJournalWithin MAX_ENTRIES journal entries
  pub within : ¬ IsOver most entries
  pub info : Information
  pub whole : Whole entries key info
  pub bytes : Appends old new (object entries key info)

-- why facts don't make the object whole; or it is, and there was no memory for its bytes
abbrev pub IsNotGiven : List Fact → Key → CommandFault → Type 0
IsNotGiven F key faults.NoObject = IsUnheard F key
IsNotGiven F key faults.NoInformation = LacksInformation F key
IsNotGiven F key faults.ConflictingInformation = HasConflict F key
IsNotGiven F key (faults.NotWhole sbn esi) = IsNotWhole F key (symbol_id sbn esi)
IsNotGiven F key faults.CannotWrite = (info : Information) × Whole F key info
IsNotGiven F key fault = ⊥

-- why it isn't extracted: the fault of the journal, or that
abbrev pub ExtractFails : Limits → List ℕ → Key → CommandFault → Type 0
ExtractFails most journal key fault =
    (left : Option (List ℕ))
    × AnswersFrom most (Some journal) left (λ F. IsNotGiven F key fault) (Err fault)
