-- What a command leaves that writes an output.
use Rattle.std.specs.Prelude.{◌≡◌, ◌⊎◌, ◌+◌, ◌<◌, ℕ, List, Option, Some, None, option_map, ⊤}
use Rattle.std.specs.Io.KnownBytes.{Appends}
use Rattle.flute_parts.specs.Devices.{AppendsPart}
use Rattle.flute_output.specs.Entries.{Entries, Leads, OutStays, IsEitherAlways, OutBecomes}
use Rattle.flute_output.specs.Entries.{OutIsAsFound, Lasts, created, whole, taken}
use Rattle.flutejoin.specs.declared.command_fault.CommandFault.{CommandFault}
use Rattle.flutejoin.specs.declared.command_fault.CommandFault.TheVariants.{CannotCreate}
use Rattle.flutejoin.specs.declared.command_fault.CommandFault.TheVariants.{CannotWrite, NotOnDisk}

-- the devices of a command at one moment: the folder of its output and its report, as far as they
-- are known, and how often each has failed
pub record Devices : Type 0 where
  pub folder : Option Entries
  pub folder_failures : ℕ
  pub report : Option (List ℕ)
  pub report_failures : ℕ

-- the folder and the report of a command, put together
abbrev pub devices : Option Entries → ℕ → Option (List ℕ) → ℕ → Devices
devices f m r n =
    record { folder = f; folder_failures = m; report = r; report_failures = n }

-- the same once the file beside OUT was made
abbrev pub with_beside : Devices → Devices
with_beside d = record d { folder = option_map created d.folder }

-- OUT became a file of what was written from nothing, of which Q holds too, and was that or what
-- it was before at any moment. If the folder is not known, so much was written to a sink of unknown
-- bytes.
abbrev pub BecomesWritten : (List ℕ → Entries → Type 0)
    → (Option (List ℕ) → Option (List ℕ) → Type 0) → Option Entries → Option Entries
    → Type 0
BecomesWritten Q P None None = P None None
BecomesWritten Q P None (Some new) = ⊥
BecomesWritten Q P (Some made) None = ⊥
BecomesWritten Q P (Some made) (Some new) =
    (bytes : List ℕ) × P (Some (taken made)) (Some bytes)
    × OutBecomes (whole bytes) made new × IsEitherAlways (whole bytes) made new × Q bytes new

-- the file beside OUT is gone, and a lost power leaves OUT as it is now
abbrev pub IsForGood : List ℕ → Entries → Type 0
IsForGood bytes new = (new.beside ≡ None) × Lasts bytes new

-- nothing more is known
abbrev pub IsThere : List ℕ → Entries → Type 0
IsThere bytes new = ⊤

-- OUT is what it was, and was nothing else in between, whether the file beside it was made or not
abbrev pub OutIsKept : Option Entries → Option Entries → Type 0
OutIsKept old new = Leads OutStays old new ⊎ Leads OutIsAsFound (option_map created old) new

-- the file beside OUT is gone
abbrev pub NothingBeside : Option Entries → Option Entries → Type 0
NothingBeside old new = Leads (λ before after. after.beside ≡ None) old new

-- the file beside OUT is gone, unless it could not be removed: then the folder failed more often
-- than the fault says
pub record IsCleared (old new : Devices) (fault : CommandFault) : Type 0 where
  pub none : new.folder_failures ≡ old.folder_failures → NothingBeside old.folder new.folder
  pub one : fault ≡ CannotWrite → new.folder_failures ≡ old.folder_failures + 1
      → NothingBeside old.folder new.folder

-- the report is as it was
pub record IsUntold (old new : Devices) : Type 0 where
  pub report : new.report ≡ old.report
  pub failures : new.report_failures ≡ old.report_failures

module _ {A : Type 0} (writes : A → Option (List ℕ) → Option (List ℕ) → Type 0)
    (lines : A → List ℕ) where
  -- OUT is what the work wrote, the report has just its lines, and no device failed
  pub record Succeeds (made new : Devices) : Type 0 where
    pub answer : A
    pub out : BecomesWritten IsForGood (writes answer) made.folder new.folder
    pub told : Appends made.report new.report (lines answer)
    pub folder_works : new.folder_failures ≡ made.folder_failures
    pub report_works : new.report_failures ≡ made.report_failures

  -- OUT is what the work wrote, and the report failed
  pub record FailsToTell (made new : Devices) : Type 0 where
    pub answer : A
    pub out : BecomesWritten IsForGood (writes answer) made.folder new.folder
    pub told : AppendsPart made.report new.report (lines answer)
    pub folder_works : new.folder_failures ≡ made.folder_failures
    pub report_fails : new.report_failures ≡ made.report_failures + 1

  -- OUT is what the work wrote, but the disk did not confirm that it has the name, and nothing was
  -- reported
  pub record IsNotOnDisk (made new : Devices) : Type 0 where
    pub answer : A
    pub out : BecomesWritten IsThere (writes answer) made.folder new.folder
    pub folder_fails : made.folder_failures < new.folder_failures
    pub cleared : new.folder_failures ≡ made.folder_failures + 1
        → NothingBeside made.folder new.folder
    pub untold : IsUntold made new

-- the work could be done, so that nothing is wrong with its inputs
abbrev pub CouldBeDone : {A : Type 0} → (A → Option (List ℕ) → Option (List ℕ) → Type 0)
    → Type 0
CouldBeDone {A} writes = (answer : A) × (old : Option (List ℕ)) × (new : Option (List ℕ))
    × writes answer old new

module _ {A : Type 0} (writes : A → Option (List ℕ) → Option (List ℕ) → Type 0)
    (fails : CommandFault → Type 0) (lines : A → List ℕ) where
  -- Once the file beside OUT was made: the work failed, or it succeeded and the file failed. OUT is
  -- then what was found, and nothing was reported. Or the disk did not confirm that it has the name
  -- OUT; or the report failed.
  pub data FailsWriting (made new : Devices) (fault : CommandFault) : Type 0 where
    by_work : fails fault
        → (fault ≡ CannotWrite → made.folder_failures < new.folder_failures)
        → Leads OutIsAsFound made.folder new.folder → IsCleared made new fault
        → IsUntold made new → FailsWriting made new fault
    by_file : fault ≡ CannotWrite → CouldBeDone writes
        → made.folder_failures < new.folder_failures
        → Leads OutIsAsFound made.folder new.folder → IsCleared made new fault
        → IsUntold made new → FailsWriting made new fault
    by_disk : fault ≡ NotOnDisk → IsNotOnDisk writes lines made new
        → FailsWriting made new fault
    by_report : fault ≡ CannotWrite → FailsToTell writes lines made new
        → FailsWriting made new fault

  -- So it is; or the output could not be made, and the work failed or had no fault to report before
  -- a fault of the output.
  pub data Fails (before : Type 0) (old new : Devices) (fault : CommandFault) : Type 0 where
    of_work : fails fault
        → (fault ≡ CannotWrite → old.folder_failures < new.folder_failures)
        → OutIsKept old.folder new.folder → IsCleared old new fault → IsUntold old new
        → Fails before old new fault
    of_create : fault ≡ CannotCreate → before
        → new.folder_failures ≡ old.folder_failures + 1
        → OutIsKept old.folder new.folder → IsUntold old new → Fails before old new fault
    of_file : fault ≡ CannotWrite → CouldBeDone writes
        → old.folder_failures < new.folder_failures
        → OutIsKept old.folder new.folder → IsCleared old new fault → IsUntold old new
        → Fails before old new fault
    of_disk : fault ≡ NotOnDisk → IsNotOnDisk writes lines (with_beside old) new
        → Fails before old new fault
    of_report : fault ≡ CannotWrite → FailsToTell writes lines (with_beside old) new
        → Fails before old new fault

-- at any moment since the file beside it was made, OUT was what it was or one new file, whole
abbrev pub WasWholeAlways : Option Entries → Option Entries → Type 0
WasWholeAlways made new =
    Leads
    (λ before after. (bytes : List ℕ) × IsEitherAlways (whole bytes) before after) made new

-- OUT was so; or the file beside it was not made, and OUT has been nothing else
abbrev pub IsWholeAlways : Option Entries → Option Entries → Type 0
IsWholeAlways old new = Leads OutStays old new ⊎ WasWholeAlways (option_map created old) new
