-- What a writer of an object knows of it and has written, by the facts that passed.
use Rattle.std.specs.Prelude.{◌≡◌, ℕ, ◌-◌, ◌⊎◌, Bool, true, false, List, []}
use Rattle.std.specs.Prelude.{◌∷◌, ◌++◌, length, take, Option, Some, None, IfSome, Result}
use Rattle.std.specs.Prelude.{Ok, Err, ⊤}
use Rattle.std.specs.List.{AllByRecursion}
use Rattle.std.specs.Io.KnownBytes.{Appends, IsAtEnd}
use Rattle.flute_parts.specs.Information.{Information, IsValid}
use Rattle.flute_parts.specs.Addresses.{address}
use Rattle.flute_parts.specs.Facts.{IsRising}
use Rattle.flute_parts.specs.declared.key.Key.{Key}
use Rattle.flute_parts.specs.declared.symbol_id.SymbolId.{SymbolId}
use Rattle.flute_parts.specs.declared.fact.Fact.{Fact}
use Rattle.flute_parts.specs.declared.fact.Fact.TheVariants.{Info, InfoConflict}
use Rattle.flute_store.specs.Objects.{Whole, object as object_of}
use Rattle.flute_store.specs.GapAnswers.{LacksInformation, HasConflict}
use Rattle.flute_store.specs.Extract.{IsNotWhole}
use Rattle.flute_store.specs.Scan.{Scanned, PartOf}
use Rattle.flute_store.specs.Scans.{Scans}
use Rattle.flute_journal.specs.Journal.{IsJournalWithin}
use Rattle.flute_journal.specs.JournalWriters.{Written}
use Rattle.flute_journal.specs.Stores.{BeginsWith, IsLoadFault}
use Rattle.flute_journal.specs.declared.fault.LoadFault.{LoadFault}
use Rattle.flute_journal.specs.declared.fault.LoadFault.TheVariants.{OutOfMemory}
use Rattle.flutejoin.specs.Extract.{HoldsFirst}
use Rattle.flutejoin.specs.Limits.{Limits, IsOver}
use Rattle.flutejoin.specs.declared.limits.TheConstants.{MAX_ENTRIES}
use Rattle.flutejoin.specs.declared.command_fault.CommandFault.{CommandFault}
use Rattle.flutejoin.specs.declared.command_fault.CommandFault.TheVariants.{NoObject, NoInformation}
use Rattle.flutejoin.specs.declared.command_fault.CommandFault.TheVariants.{ConflictingInformation}
use Rattle.flutejoin.specs.declared.command_fault.CommandFault.TheVariants.{CannotWrite}
use Rattle.flutejoin.specs.declared.extract.object_writer.ObjectWriter.{ObjectWriter}
use Rattle.flutejoin.specs.declared.extract.object_writer.WholeSoFar.{WholeSoFar}
use Rattle.flutejoin.specs.declared.extract.object_writer.Found.{Found}
use Rattle.flutejoin.specs.declared.extract.object_writer.Found.TheVariants as found

-- whatever follows these facts in a journal, X holds of all
abbrev pub Settled : List Fact → (List Fact → Type 0) → Type 0
Settled P X = (F rest : List Fact) → F ≡ P ++ rest → IsRising F → X F

-- the fact is of another object
abbrev pub IsOther : Key → Fact → Type 0
IsOther key f = (address f).key ≡ key → ⊥

-- the object has this information, or two values of it
abbrev pub information_fact : Key → Option Information → Fact
information_fact key (Some info) = Info key info
information_fact key None = InfoConflict key

-- a prefix of the symbols that are held was written, whatever follows
pub record WroteFirst (P : List Fact) (key : Key) (start now : Option (List ℕ)) : Type 0 where
  pub info : Information
  pub bytes : List ℕ
  pub count : ℕ
  pub held : Settled P (λ F. HoldsFirst F key info bytes)
  pub appended : Appends start now (take count bytes)

-- the facts before those that the scan passed, those, and others; all the values so far were
-- written, cut to the size of the object
pub record Scanning (P : List Fact) (key : Key) (failed : Bool) (start now : Option (List ℕ))
    (object : WholeSoFar) : Type 0 where
  pub scanned : Scanned
  pub scans : Scans object.scan scanned
  pub free : scanned.coming ≡ None
  pub part : PartOf scanned
  pub of_key : scanned.key ≡ key
  pub valid : IsValid scanned.info
  pub symbols : List Fact
  pub begins : scanned.facts ≡ Info key scanned.info ∷ symbols
  pub before : List Fact
  pub after : List Fact
  pub all : P ≡ before ++ (scanned.facts ++ after)
  pub others : AllByRecursion (IsOther key) after
  pub bytes : List ℕ
  pub values : scanned.bytes ≡ Some bytes
  pub size : object.size ≡ scanned.info.transfer_length
  pub left : object.left ≡ object.size - length bytes
  pub written : Written failed start now (take object.size bytes)

-- a scan continued, or it is settled that this symbol is the first that is not held
-- as one fitting value
abbrev pub ScansOn : List Fact → Key → Bool → Option (List ℕ) → Option (List ℕ)
    → WholeSoFar → Option SymbolId → Type 0
ScansOn P key failed start now object None = Scanning P key failed start now object
ScansOn P key failed start now object (Some first) =
    Settled P (λ F. IsNotWhole F key first) × WroteFirst P key start now

-- the object is whole, and was written as far as the sink took it; or this symbol is the first
-- that is not held so
abbrev pub EndsScan : List Fact → Key → Bool → Option (List ℕ) → Option (List ℕ)
    → WholeSoFar → Option SymbolId → Type 0
EndsScan P key failed start now object None =
    (info : Information) × Whole P key info × (object.size ≡ info.transfer_length)
    × IsValid info
    × Written failed start now (object_of P key info)
EndsScan P key failed start now object (Some first) = IsNotWhole P key first

-- nothing was written
pub record NoneWritten (failed : Bool) (start now : Option (List ℕ)) : Type 0 where
  pub good : failed ≡ false
  pub same : now ≡ start

-- what is found of an object by these facts, and what was written since the start
abbrev pub HasFound : List Fact → Key → Bool → Option (List ℕ) → Option (List ℕ)
    → Found → Type 0
HasFound P key failed start now found.Nothing =
    AllByRecursion (IsOther key) P × NoneWritten failed start now
HasFound P key failed start now found.Symbols =
    Settled P (λ F. LacksInformation F key) × NoneWritten failed start now
HasFound P key failed start now found.Conflict =
    Settled P (λ F. HasConflict F key) × NoneWritten failed start now
HasFound P key failed start now (found.NotWhole first) =
    Settled P (λ F. IsNotWhole F key first) × WroteFirst P key start now
HasFound P key failed start now (found.Whole object) = Scanning P key failed start now object

-- how far the object of a writer is written, after the facts P
abbrev pub Stands : List Fact → ObjectWriter → Option (List ℕ) → Option (List ℕ)
    → Type 0
Stands P writer start now = HasFound P writer.key writer.failed start now writer.found

-- nothing was handed to the sink
abbrev pub WritesNothing : Found → Type 0
WritesNothing (found.NotWhole first) = ⊥
WritesNothing (found.Whole object) = ⊥
WritesNothing _ = ⊤

-- as after these faults
abbrev pub TellsUntouched : Found → CommandFault → Type 0
TellsUntouched what NoObject = WritesNothing what
TellsUntouched what NoInformation = WritesNothing what
TellsUntouched what ConflictingInformation = WritesNothing what
TellsUntouched what _ = ⊤

-- whether the sink has failed, as the result says
abbrev pub FailedBy : Bool → Result ℕ CommandFault → Type 0
FailedBy failed (Ok n) = failed ≡ false
FailedBy failed (Err CannotWrite) = failed ≡ true
FailedBy failed (Err _) = ⊤

-- all of a journal was read, or it has this fault
abbrev pub EndsReading : Limits → Option (List ℕ) → Option (List ℕ) → List Fact
    → Result (Unit {0}) LoadFault → Type 0
EndsReading most input left entries (Ok _) =
    IfSome input (λ bytes. IsJournalWithin MAX_ENTRIES bytes entries) × IsAtEnd left
    × (¬ IsOver most entries)
EndsReading most input left entries (Err OutOfMemory) = ⊥
EndsReading most input left entries (Err fault) =
    IsLoadFault most.sessions most.objects most.symbols MAX_ENTRIES input left fault

-- the entries that the input begins with passed, up to its end or its fault
pub record PassesAll (most : Limits) (input left : Option (List ℕ)) (writer : ObjectWriter)
    (start now : Option (List ℕ)) (result : Result (Unit {0}) LoadFault) : Type 0 where
  pub entries : List Fact
  pub rising : IsRising entries
  pub begins : (entries ≡ []) ⊎ IfSome input (λ bytes. BeginsWith MAX_ENTRIES bytes entries)
  pub stands : Stands entries writer start now
  pub ended : EndsReading most input left entries result
