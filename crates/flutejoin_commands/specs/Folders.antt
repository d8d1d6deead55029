-- What the command `extract --all` leaves.
use Rattle.std.specs.Prelude.{◌≡◌, ◌≢◌, ◌⊎◌, ℕ, ◌++◌, Bool, List, length, Option, None, IfSome, codes}
use Rattle.std.specs.Prelude.{filter}
use Rattle.std.specs.Io.KnownBytes.{Appends}
use Rattle.flute_parts.specs.declared.fact.Fact.{Fact}
use Rattle.flute_output.specs.NewFolders.{NamedFile, Places, LeadsTo, FolderStays, BecomesFolder}
use Rattle.flute_output.specs.declared.output.FinishFault.{FinishFault}
use Rattle.flute_output.specs.declared.output.FinishFault.TheVariants as finish
use Rattle.flute_output.specs.NewFolders.{StaysThere, IsWholeOrNothing, folder_of}
use Rattle.flute_journal.specs.Journal.{IsJournalWithin}
use Rattle.flutejoin.specs.ExtractAll.{ExtractAllFails}
use Rattle.flutejoin.specs.Limits.{Limits, IsOver}
use Rattle.flutejoin.specs.Lines.{count_line}
use Rattle.flutejoin.specs.ObjectFiles.{AreTaken}
use Rattle.flutejoin.specs.declared.limits.TheConstants.{MAX_ENTRIES}
use Rattle.flutejoin.specs.declared.command_fault.CommandFault.{CommandFault}
use Rattle.flutejoin.specs.declared.command_fault.CommandFault.TheVariants.{CannotCreate}
use Rattle.flutejoin.specs.declared.command_fault.CommandFault.TheVariants.{CannotWrite, NotOnDisk}

-- there was no OUT, and it is the folder of these files
pub record IsFolderOf (files : List NamedFile) (old new : Places) : Type 0 where
  pub none : old.out ≡ None
  pub becomes : BecomesFolder (folder_of files) old new

-- whatever a lost power leaves of it is that folder, and nothing is beside it
pub record IsKeptFolder (files : List NamedFile) (old new : Places) : Type 0 where
  pub lasts : StaysThere files new
  pub beside : new.beside ≡ None

-- the journal was read, and its picked objects have these files and lines
pub record TellsFiles (most : Limits) (input : Option (List ℕ)) (picks : Fact → Bool)
    (files : List NamedFile) (told : List ℕ) : Type 0 where
  pub entries : List Fact
  pub journal : IfSome input (λ bytes. IsJournalWithin MAX_ENTRIES bytes entries)
  pub within : ¬ IsOver most entries
  pub taken : AreTaken (filter picks entries) files told

-- OUT is the folder of all files of the journal, and of no others; the report has the lines of all
-- objects and the number of files
pub record LeavesFolder (most : Limits) (input : Option (List ℕ)) (picks : Fact → Bool)
    (old new : Option Places) (report_old report_new : Option (List ℕ)) : Type 0 where
  pub files : List NamedFile
  pub told : List ℕ
  pub tells : TellsFiles most input picks files told
  pub out : LeadsTo (IsFolderOf files) old new
  pub kept : LeadsTo (IsKeptFolder files) old new
  pub report : Appends report_old report_new (told ++ count_line (codes "written") (length files))

-- there is no OUT, nor was there one at any moment
pub record IsNowhere (old new : Places) : Type 0 where
  pub none : old.out ≡ None
  pub out : new.out ≡ None

-- the fault of a command that did not finish its folder
abbrev pub finish_fault : FinishFault CommandFault → CommandFault
finish_fault (finish.Work fault) = fault
finish_fault finish.Write = CannotWrite
finish_fault finish.NotOnDisk = NotOnDisk

-- Why it failed: the folder could not be made; or the work failed, or the disk or the report: there
-- is no OUT. Or OUT is the folder, but the disk did not confirm that it has the name, or the report
-- failed to take the number of files.
pub data FolderFails (most : Limits) (input left : Option (List ℕ)) (picks : Fact → Bool)
    (old new : Option Places) (fault : CommandFault) : Type 0 where
  of_create : fault ≡ CannotCreate → LeadsTo FolderStays old new
      → FolderFails most input left picks old new fault
  of_work : ExtractAllFails most input left fault → LeadsTo IsNowhere old new
      → FolderFails most input left picks old new fault
  of_device : fault ≡ CannotWrite → LeadsTo IsNowhere old new
      → FolderFails most input left picks old new fault
  of_end : (fault ≡ NotOnDisk) ⊎ (fault ≡ CannotWrite) → (files : List NamedFile)
      → (told : List ℕ) → TellsFiles most input picks files told
      → LeadsTo (IsFolderOf files) old new
      → FolderFails most input left picks old new fault

-- at any moment since the folder beside it was made there was no OUT, or one folder, whole; or that
-- was not made, and OUT has been nothing else
abbrev pub IsOneFolderAlways : Option Places → Option Places → Type 0
IsOneFolderAlways old new =
    LeadsTo FolderStays old new
    ⊎ LeadsTo (λ before after. (files : List NamedFile)
    × IsWholeOrNothing (folder_of files) before after) old new

-- The places that names of new folders lead to.
abbrev pub FolderNames : Type 0
FolderNames = List ℕ → Option Places

-- this name leads to these places now, and each other name to what it led to
pub record IsFolderAt (name : List ℕ) (places : Option Places) (old new : FolderNames) : Type 0
  where
    pub here : new name ≡ places
    pub elsewhere : (other : List ℕ) → other ≢ name → new other ≡ old other

-- at any moment there was one folder at this name, whole, or none; and each other name leads to
-- what it led to
pub record KeepsFolder (name : List ℕ) (old new : FolderNames) : Type 0 where
  pub here : IsOneFolderAlways (old name) (new name)
  pub elsewhere : (other : List ℕ) → other ≢ name → new other ≡ old other
