-- What the command `extract` returns and writes.
use Rattle.std.specs.Prelude.{◌≡◌, ℕ, ◌+◌, ◌⊎◌, List, take, Option, Some, IfSome, Result, Ok, Err}
use Rattle.std.specs.Io.KnownBytes.{Appends, IsAtEnd}
use Rattle.flute_parts.specs.Information.{Information}
use Rattle.flute_parts.specs.Addresses.{info_address}
use Rattle.flute_parts.specs.Facts.{fact_at}
use Rattle.flute_parts.specs.Partition.{symbol_id}
use Rattle.flute_parts.specs.declared.key.Key.{Key}
use Rattle.flute_parts.specs.declared.fact.Fact.{Fact}
use Rattle.flute_parts.specs.declared.fact.Fact.TheVariants.{Info}
use Rattle.flute_store.specs.Found.{IsUnheard}
use Rattle.flute_store.specs.GapAnswers.{LacksInformation, HasConflict}
use Rattle.flute_store.specs.Extract.{IsNotWhole, WritesWhole, WritesPart}
use Rattle.flute_store.specs.Scan.{IsFirstPart}
use Rattle.flute_journal.specs.Journal.{IsJournalWithin}
use Rattle.flute_journal.specs.Stores.{BeginsWith}
use Rattle.flutejoin.specs.Load.{LoadFails}
use Rattle.flutejoin.specs.Limits.{Limits, IsOver}
use Rattle.flutejoin.specs.declared.limits.TheConstants.{MAX_ENTRIES}
use Rattle.flutejoin.specs.declared.command_fault.CommandFault.{CommandFault}
use Rattle.flutejoin.specs.declared.command_fault.CommandFault.TheVariants.{Input, Full, NoObject}
use Rattle.flutejoin.specs.declared.command_fault.CommandFault.TheVariants.{NoInformation}
use Rattle.flutejoin.specs.declared.command_fault.CommandFault.TheVariants.{ConflictingInformation}
use Rattle.flutejoin.specs.declared.command_fault.CommandFault.TheVariants.{NotWhole, CannotWrite}

-- the input is a journal of entries within the limits, and was read to its end; of its entries P
-- holds
pub record OfJournal (most : Limits) (input left : Option (List ℕ))
    (P : List Fact → Type 0) : Type 0 where
  pub entries : List Fact
  pub journal : IfSome input (λ bytes. IsJournalWithin MAX_ENTRIES bytes entries)
  pub read : IsAtEnd left
  pub within : ¬ IsOver most entries
  pub holds : P entries

-- the fault is that of the journal, as when it is loaded; else P holds of its entries
abbrev pub AnswersFrom : Limits → Option (List ℕ) → Option (List ℕ)
    → (List Fact → Type 0) → Result ℕ CommandFault → Type 0
AnswersFrom most input left P (Err (Input number fault)) =
    LoadFails most 1 input left (Input number fault)
AnswersFrom most input left P (Err Full) = LoadFails most 1 input left Full
AnswersFrom most input left P _ = OfJournal most input left P

-- the object that facts make whole was written; or why it is not whole; or a proper prefix was
-- written
abbrev pub Extracts : {W : Type 0} → (W → Option (List ℕ)) → List Fact → Key → W → W
    → Result ℕ CommandFault → Type 0
Extracts written F key old new (Ok n) = WritesWhole written F key old new n
Extracts written F key old new (Err NoObject) = IsUnheard F key × (new ≡ old)
Extracts written F key old new (Err NoInformation) = LacksInformation F key × (new ≡ old)
Extracts written F key old new (Err ConflictingInformation) = HasConflict F key × (new ≡ old)
Extracts written F key old new (Err (NotWhole sbn esi)) = IsNotWhole F key (symbol_id sbn esi)
Extracts written F key old new (Err CannotWrite) = WritesPart written F key old new
Extracts written F key old new (Err _) = ⊥

-- the object has this one information, and the bytes are the values of its first symbols,
-- each held as one fitting value
pub record HoldsFirst (F : List Fact) (key : Key) (info : Information)
    (bytes : List ℕ) : Type 0 where
  pub information : fact_at F (info_address key) ≡ Some (Info key info)
  pub first : IsFirstPart F key info bytes

-- the first bytes of such values were written, in the entries that the input begins with
pub record FirstWritten (input old new : Option (List ℕ)) (key : Key) : Type 0 where
  pub entries : List Fact
  pub begins : IfSome input (λ bytes. BeginsWith MAX_ENTRIES bytes entries)
  pub info : Information
  pub bytes : List ℕ
  pub held : HoldsFirst entries key info bytes
  pub count : ℕ
  pub appended : Appends old new (take count bytes)

-- nothing was written, or these
abbrev pub WritesFirst : {W : Type 0} → (W → Option (List ℕ)) → Option (List ℕ) → Key
    → W → W → Type 0
WritesFirst written input key old new =
    (new ≡ old) ⊎ FirstWritten input (written old) (written new) key

-- how often the sink failed: once if the result says so, never if the object was written,
-- and at most once with another fault
abbrev pub SinkFails : ℕ → ℕ → Result ℕ CommandFault → Type 0
SinkFails old new (Ok n) = new ≡ old
SinkFails old new (Err CannotWrite) = new ≡ old + 1
SinkFails old new (Err _) = (new ≡ old) ⊎ (new ≡ old + 1)
