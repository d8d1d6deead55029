-- A folder that is new: it is filled beside its name OUT, and then named so.
use Rattle.std.specs.Prelude.{◌≡◌, ◌⊎◌, ℕ, Bool, true, false, List, [], ◌∷◌, ◌++◌, Option, Some}
use Rattle.std.specs.Prelude.{None, IsSome, option_map, Contains, ⊤}
use Rattle.flute_output.specs.declared.output.FinishFault.{FinishFault}
use Rattle.flute_output.specs.declared.output.FinishFault.TheVariants.{Work, Write, NotOnDisk}

-- a file by its name in the folder, and its bytes
pub record NamedFile : Type 0 where
  pub name : List ℕ
  pub bytes : List ℕ

-- a folder of files whose bytes are on the disk, and whether their names are
pub record Filled : Type 0 where
  pub files : List NamedFile
  pub on_disk : Bool

-- what contracts see of an output that is a folder: OUT, and the folder beside it
pub record Places : Type 0 where
  -- the folder named OUT, if there is one
  pub out : Option Filled
  -- the folder beside it, if there is one
  pub beside : Option Filled
  -- the file that is open in that, if there is one, with the bytes that were taken for it
  pub open_file : Option NamedFile
  -- what OUT has been since the folder beside it was made and is no more, the oldest first
  pub past : List (Option Filled)
  -- whether the disk has confirmed the name OUT as it is
  pub named : Bool

-- R of the entries before and after, if contracts see them; they see them always or never
abbrev pub LeadsTo : (Places → Places → Type 0) → Option Places → Option Places → Type 0
LeadsTo R None None = ⊤
LeadsTo R None (Some new) = ⊥
LeadsTo R (Some old) None = ⊥
LeadsTo R (Some old) (Some new) = R old new

-- f was done, if contracts see the entries
abbrev pub Makes : (Places → Places) → Option Places → Option Places → Type 0
Makes f old new = LeadsTo (λ before after. after ≡ f before) old new

-- a folder without files is made beside OUT, also if one was there
abbrev pub made_beside : Places → Places
made_beside p = record p {
  beside = Some (record { files = []; on_disk = false });
  open_file = None;
  past = [];
}

-- the folder beside OUT was made, and OUT is not there
pub record IsMade (old new : Places) : Type 0 where
  pub none : old.out ≡ None
  pub made : new ≡ made_beside old

-- an empty file of this name is opened
abbrev pub begins : List ℕ → Places → Places
begins name p = record p { open_file = Some (record { name = name; bytes = [] }) }

-- a file with further bytes at its end
abbrev pub with_bytes : List ℕ → NamedFile → NamedFile
with_bytes more file = record file { bytes = file.bytes ++ more }

-- bytes are taken for the open file
abbrev pub puts : List ℕ → Places → Places
puts more p = record p { open_file = option_map (with_bytes more) p.open_file }

-- a folder with further files, which are not on the disk yet
abbrev pub with_files : List NamedFile → Filled → Filled
with_files more f = record { files = f.files ++ more; on_disk = false }

-- the places after this open file is closed, and is one of the folder beside OUT
abbrev pub keeps_open : Option NamedFile → Places → Places
keeps_open None p = record p { open_file = None }
keeps_open (Some file) p =
    record p { beside = option_map (with_files (file ∷ [])) p.beside; open_file = None }

-- the places after their open file is closed, and is one of the folder beside OUT
abbrev pub keeps : Places → Places
keeps p = keeps_open p.open_file p

-- the places after their open file is removed
abbrev pub leaves : Places → Places
leaves p = record p { open_file = None }

-- the folder once it is on the disk, with its files
abbrev pub safely : Filled → Filled
safely f = record f { on_disk = true }

-- the disk has the names of the files in the folder beside OUT
abbrev pub files_synced : Places → Places
files_synced p = record p { beside = option_map safely p.beside }

-- the folder beside OUT is named OUT, in one step
abbrev pub named_out : Places → Places
named_out p = record p { out = p.beside; beside = None; past = p.past ++ p.out ∷ []; named = false }

-- the disk has the name OUT as it is
abbrev pub out_synced : Places → Places
out_synced p = record p { named = true }

-- the folder beside OUT is removed with all that is in it
abbrev pub removed : Places → Places
removed p = record p { beside = None; open_file = None }

-- OUT is what it was, and was nothing else in between
pub record FolderStays (old new : Places) : Type 0 where
  pub out : new.out ≡ old.out
  pub past : new.past ≡ old.past
  pub named : new.named ≡ old.named

-- there is no OUT, nor was there one since the folder beside it was made
pub record IsNothing (p : Places) : Type 0 where
  pub none : p.out ≡ None
  pub untouched : p.past ≡ []

-- there is the folder beside OUT
abbrev pub HasBeside : Places → Type 0
HasBeside p = IsSome p.beside

-- the folder beside OUT is there, and no file is open in it
pub record IsReady (p : Places) : Type 0 where
  pub there : IsSome p.beside
  pub closed : p.open_file ≡ None

-- the files in the folder beside OUT
abbrev pub files_in : Option Filled → List NamedFile
files_in None = []
files_in (Some f) = f.files

-- the files in the folder beside OUT
abbrev pub files_beside : Places → List NamedFile
files_beside p = files_in p.beside

-- the folder beside OUT has these files more, this file is open, if any, and OUT is as it was
pub record Fills (files : List NamedFile) (open_file : Option NamedFile)
    (old new : Places) : Type 0 where
  pub beside : files_beside new ≡ files_beside old ++ files
  pub there : IsSome new.beside
  pub open_is : new.open_file ≡ open_file
  pub stays : FolderStays old new

-- a folder of these files, all of whose names and bytes the disk has
abbrev pub folder_of : List NamedFile → Filled
folder_of files = record { files = files; on_disk = true }

-- there is no OUT, and there was none since the folder beside it was made
pub record StaysNothing (old new : Places) : Type 0 where
  pub out : new.out ≡ None
  pub past : new.past ≡ []
  pub named : new.named ≡ old.named

-- OUT, which was not there, is this folder, and has been nothing else since
pub record BecomesFolder (folder : Filled) (old new : Places) : Type 0 where
  pub out : new.out ≡ Some folder
  pub past : new.past ≡ None ∷ []

-- what OUT was at some moment since the folder beside it was made: whoever looked, or stopped the
-- program between two calls, found this
abbrev pub WasThere : Places → Option Filled → Type 0
WasThere p seen = (seen ≡ p.out) ⊎ Contains p.past seen

-- what is left of a folder once the power was lost: its files, if the disk had their names;
-- else nothing is known
abbrev pub LeavesFiles : Option Filled → Option (List NamedFile) → Type 0
LeavesFiles None left = left ≡ None
LeavesFiles (Some f) left = f.on_disk ≡ true → left ≡ Some f.files

-- what the name OUT may be on the disk, where there was none when the folder beside it was made:
-- what OUT is, if the disk has confirmed that; else also nothing, and what it has been since
abbrev pub MayBeThere : Bool → Places → Option Filled → Type 0
MayBeThere true p seen = seen ≡ p.out
MayBeThere false p seen = (seen ≡ None) ⊎ WasThere p seen

-- whatever a lost power leaves of OUT now is a folder of these files
abbrev pub StaysThere : List NamedFile → Places → Type 0
StaysThere files p = (seen : Option Filled) (left : Option (List NamedFile))
    → MayBeThere p.named p seen → LeavesFiles seen left → left ≡ Some files

-- At any moment since the folder beside it was made there was no OUT, or it was this folder. And if
-- the disk knew that there is none, then a lost power at any of these moments left nothing or this
-- folder, whole.
pub record IsWholeOrNothing (folder : Filled) (old p : Places) : Type 0 where
  pub stopped : (seen : Option Filled) → WasThere p seen → (seen ≡ None) ⊎ (seen ≡ Some folder)
  pub lost_power : old.named ≡ true → (seen : Option Filled) (left : Option (List NamedFile))
      → (seen ≡ None) ⊎ WasThere p seen
      → LeavesFiles seen left → (left ≡ None) ⊎ (left ≡ Some folder.files)

-- what a fault of finishing means for OUT
abbrev pub EndsAt : {E : Type 0} → FinishFault E → Places → Places → Type 0
EndsAt (Work fault) old new = StaysNothing old new
EndsAt Write old new = StaysNothing old new
EndsAt NotOnDisk old new = BecomesFolder (folder_of (files_beside old)) old new

-- nothing is beside OUT
abbrev pub NoneBeside : Places → Places → Type 0
NoneBeside old new = new.beside ≡ None
