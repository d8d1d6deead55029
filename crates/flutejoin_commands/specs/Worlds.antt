-- What a command leaves outside of it: files by their names, standard output and standard error.
use Rattle.std.specs.Prelude.{◌≡◌, ◌≢◌, ◌⊎◌, ◌++◌, ℕ, List, [], length, codes, Option, Some, None}
use Rattle.std.specs.Prelude.{Bool, true, IfSome, option_map, ⊤}
use Rattle.std.specs.Io.KnownBytes.{Appends}
use Rattle.flute_output.specs.Entries.{Entries, Stored}
use Rattle.flute_output.specs.declared.place.Place.{Place}
use Rattle.flute_output.specs.declared.place.Place.TheVariants.{File, Device, StandardOutput}
use Rattle.flutejoin.specs.declared.command_fault.CommandFault.{CommandFault}
use Rattle.flutejoin.specs.declared.command_fault.CommandFault.TheVariants.{CannotCreate}
use Rattle.flutejoin.specs.declared.command_fault.CommandFault.TheVariants.{CannotWrite, NotOnDisk}
use Rattle.flutejoin.specs.declared.command_fault.CommandFault.TheVariants.{OutOfMemory}
use Rattle.flutejoin.specs.OutputGuard.{IsKeptOutput, IsOverwritten}
use Rattle.flutejoin.specs.declared.output_guard.Overwrites.{Overwrites}
use Rattle.flutejoin_commands.specs.Files.{Files}

-- the bytes of a file
abbrev pub bytes_of : Stored → List ℕ
bytes_of file = file.bytes

-- OUT is what the name has, if the files are known
abbrev pub HasOut : Option Files → List ℕ → Option Entries → Type 0
HasOut None name entries = entries ≡ None
HasOut (Some files) name None = ⊥
HasOut (Some files) name (Some e) = option_map bytes_of e.out ≡ files name

-- the name is that of standard output, if the files are known
abbrev pub IsStandard : Option Files → List ℕ → Type 0
IsStandard None name = ⊤
IsStandard (Some files) name = name ≡ codes "-"

-- the name is that of a file, if the files are known
abbrev pub IsFileName : Option Files → List ℕ → Type 0
IsFileName None name = ⊤
IsFileName (Some files) name = name ≢ codes "-"

-- what the name of an output leads to: where the files are known, to a file, or standard output
abbrev pub IsPlaced : {F D : Type 0} → (F → Option Entries) → Option Files → List ℕ
    → Place F D → Type 0
IsPlaced entries files name (File folder) =
    HasOut files name (entries folder) × IsFileName files name
IsPlaced entries files name (Device device) = files ≡ None
IsPlaced entries files name StandardOutput = IsStandard files name

-- there are so many bytes, if they are known
abbrev pub HasSize : Option (List ℕ) → ℕ → Type 0
HasSize bytes n = IfSome bytes (λ b. length b ≡ n)

-- why an output is not made: it cannot be, or there was no memory
abbrev pub IsNotMade : CommandFault → Type 0
IsNotMade fault = (fault ≡ CannotCreate) ⊎ (fault ≡ OutOfMemory)

-- the file of the name, if it is known and there is one, begins as one that is overwritten
abbrev pub MayOverwrite : Option Files → Overwrites → List ℕ → Type 0
MayOverwrite None overwrites name = ⊤
MayOverwrite (Some files) overwrites name = IfSome (files name) (IsOverwritten overwrites)

-- why an output that is there is not overwritten: it is kept, or there was no memory
abbrev pub IsNotOverwritten : CommandFault → Type 0
IsNotOverwritten fault = IsKeptOutput fault ⊎ (fault ≡ OutOfMemory)

-- the bytes that are put aside are known, if the files are
abbrev pub TellsAsides : Option Files → Bool → Type 0
TellsAsides None tells = ⊤
TellsAsides (Some files) tells = tells ≡ true

-- an input has the bytes of another, if the files are known
abbrev pub IsAgain : Option Files → Option (List ℕ) → Option (List ℕ) → Type 0
IsAgain None old new = ⊤
IsAgain (Some files) old new = IfSome old (λ bytes. new ≡ Some bytes)

-- the name of the file beside the one with this name
abbrev pub beside_name : List ℕ → List ℕ
beside_name name = name ++ codes ".partial"

-- one name and the one beside it have these bytes, and all others have what they had
pub record Replaced (name : List ℕ) (out beside : Option (List ℕ)) (old new : Files) : Type 0
  where
    pub here : new name ≡ out
    pub next : new (beside_name name) ≡ beside
    pub elsewhere : (other : List ℕ) → other ≢ name → other ≢ beside_name name
        → new other ≡ old other

-- the two names have what the entries of the folder are, and all others have what they had
abbrev pub Closes : List ℕ → Option Entries → Option Files → Option Files → Type 0
Closes name entries None new = new ≡ None
Closes name None (Some old) new = ⊥
Closes name (Some e) (Some old) None = ⊥
Closes name (Some e) (Some old) (Some new) =
    Replaced name (option_map bytes_of e.out) (option_map bytes_of e.beside) old new

-- OUT is as before, and so is each other name but that of the file beside OUT
abbrev pub KeepsFiles : List ℕ → Option Files → Option Files → Type 0
KeepsFiles name None new = new ≡ None
KeepsFiles name (Some old) None = ⊥
KeepsFiles name (Some old) (Some new) =
    (beside : Option (List ℕ)) × Replaced name (old name) beside old new

-- OUT is as before, and each other name but that of the file beside it; or it may be overwritten
abbrev pub Spares : Overwrites → List ℕ → Option Files → Option Files → Type 0
Spares overwrites name old new = KeepsFiles name old new ⊎ MayOverwrite old overwrites name

-- OUT has what is written from nothing, the name beside it these bytes, and each other name is as
-- before; if the files are not known, so much was written to a sink whose bytes are not known
abbrev pub FileIs : (Option (List ℕ) → Option (List ℕ) → Type 0) → List ℕ
    → Option (List ℕ) → Option Files → Option Files → Type 0
FileIs P name beside None new = P None None × (new ≡ None)
FileIs P name beside (Some old) None = ⊥
FileIs P name beside (Some old) (Some new) =
    (bytes : List ℕ) × P (Some []) (Some bytes) × Replaced name (Some bytes) beside old new

-- OUT has what is written, and nothing is beside it
abbrev pub FileBecomes : (Option (List ℕ) → Option (List ℕ) → Type 0) → List ℕ
    → Option Files → Option Files → Type 0
FileBecomes P name old new = FileIs P name None old new

-- what is outside of a command at one moment, as far as it is known: the files, what was written to
-- standard output and to standard error
pub record Outside : Type 0 where
  pub files : Option Files
  pub output : Option (List ℕ)
  pub errors : Option (List ℕ)

-- what contracts see of a world, put together
abbrev pub outside : Option Files → Option (List ℕ) → Option (List ℕ) → Outside
outside f o e = record { files = f; output = o; errors = e }

module _ {A : Type 0} (writes puts : A → Option (List ℕ) → Option (List ℕ) → Type 0)
    (lines : A → List ℕ) (name : List ℕ) where
  -- OUT has what the work wrote, and standard output has just its lines; or the work was put
  -- into a device; or standard output has it, and standard error just its lines
  pub data Leaves (old new : Outside) : Type 0 where
    in_file : (answer : A) → IsFileName old.files name
        → FileBecomes (writes answer) name old.files new.files
        → Appends old.output new.output (lines answer) → new.errors ≡ old.errors
        → Leaves old new
    in_device : (answer : A) → old.files ≡ None → new.files ≡ None
        → Appends old.output new.output (lines answer) → new.errors ≡ old.errors
        → Leaves old new
    in_output : (answer : A) → IsStandard old.files name → new.files ≡ old.files
        → puts answer old.output new.output → Appends old.errors new.errors (lines answer)
        → Leaves old new

-- why a command ends without its output: a fault of the work, or else of the output
abbrev pub IsReason : (CommandFault → Type 0) → CommandFault → Type 0
IsReason fails fault =
    fails fault ⊎ ((fault ≡ CannotCreate)
    ⊎ ((fault ≡ CannotWrite) ⊎ (fault ≡ OutOfMemory)))

-- the name is that of a file, and the files are known
abbrev pub IsKnownFile : Option Files → List ℕ → Type 0
IsKnownFile None name = ⊥
IsKnownFile (Some files) name = name ≢ codes "-"

-- After a fault other than `cannot write` no line was reported: standard error is as before, and so
-- is standard output if OUT is a file. Then standard error is as before in any case.
pub record TellsNothing (name : List ℕ) (old new : Outside) (fault : CommandFault) : Type 0 where
  pub output : IsKnownFile old.files name → fault ≢ CannotWrite → new.output ≡ old.output
  pub errors : IsKnownFile old.files name ⊎ (fault ≢ CannotWrite) → new.errors ≡ old.errors

module _ {A : Type 0} (writes : A → Option (List ℕ) → Option (List ℕ) → Type 0)
    (fails : CommandFault → Type 0) (name : List ℕ) where
  -- The files are as before, for some reason; or OUT is the file of what the work writes, and its
  -- name could not be brought to the disk, or the lines could not be printed.
  pub data FailsToLeave (old new : Outside) (fault : CommandFault) : Type 0 where
    as_before : IsReason fails fault → KeepsFiles name old.files new.files
        → TellsNothing name old new fault → FailsToLeave old new fault
    in_place : (fault ≡ NotOnDisk) ⊎ (fault ≡ CannotWrite) → (answer : A)
        → (beside : Option (List ℕ)) → FileIs (writes answer) name beside old.files new.files
        → TellsNothing name old new fault → FailsToLeave old new fault
