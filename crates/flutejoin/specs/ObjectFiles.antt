-- Whole objects as files, and the line of each object.
use Rattle.std.specs.Prelude.{◌≡◌, ℕ, ◌-◌, Bool, List, [], ◌∷◌, length, take, Option, Some, None}
use Rattle.std.specs.Prelude.{option_map}
use Rattle.std.specs.Io.KnownBytes.{Appends}
use Rattle.std.specs.List.{flat_map}
use Rattle.flute_parts.specs.declared.key.Key.{Key}
use Rattle.flute_parts.specs.declared.fact.Fact.{Fact}
use Rattle.flute_output.specs.NewFolders.{Filled, Fills, LeadsTo, NamedFile, Places}
use Rattle.flutejoin.specs.FileNames.{file_name}
use Rattle.flutejoin.specs.Lines.{status_line}
use Rattle.flutejoin.specs.Progress.{Progress}
use Rattle.flutejoin.specs.Told.{AreTold, Told}

-- the file of an object of these bytes, if it is whole
abbrev pub named_file : Key → Option (List ℕ) → List NamedFile
named_file key None = []
named_file key (Some bytes) = record { name = file_name key; bytes = bytes } ∷ []

-- the file of an object that is whole, as a list of at most one
abbrev pub object_file : Told → List NamedFile
object_file t = named_file t.key t.bytes

-- the first line of an object: how much of it is held
abbrev pub first_line : Told → List ℕ
first_line t = status_line t.key t.status

-- these are the files of all whole objects of the facts, and the first lines of all
pub record AreTaken (F : List Fact) (files : List NamedFile) (told : List ℕ) : Type 0 where
  pub objects : List Told
  pub are_told : AreTold F objects
  pub files_are : files ≡ flat_map object_file objects
  pub told_is : told ≡ flat_map first_line objects

-- these facts came and nothing else, and of all their objects files and lines were written
pub record TakesAll (F : List Fact) (count : ℕ) (p0 p : Option Places)
    (w0 w : Option (List ℕ)) : Type 0 where
  pub files : List NamedFile
  pub told : List ℕ
  pub taken : AreTaken F files told
  pub filled : LeadsTo (Fills files None) p0 p
  pub written : Appends w0 w told
  pub count_is : count ≡ length files

-- ---- as a walk tells of them

-- the file of the open object, as far as it was written: none if the object is not whole
abbrev pub file_so_far : Option Progress → Option NamedFile
file_so_far None = None
file_so_far (Some p) =
    option_map
    (λ bytes. record { name = file_name p.key; bytes = take p.info.transfer_length bytes }) p.bytes

-- how many bytes it lacks
abbrev pub left_so_far : Option Progress → Option ℕ
left_so_far None = None
left_so_far (Some p) = option_map (λ bytes. p.info.transfer_length - length bytes) p.bytes

-- a file, as a list of at most one
abbrev pub one_file : Option NamedFile → List NamedFile
one_file None = []
one_file (Some file) = file ∷ []

-- of these objects, and of the open one, files and lines were written: into a folder and after
-- lines that were as `at` says
pub record HasFiles (at : Option Places × Option (List ℕ)) (objects : List Told)
    (progress : Option Progress) (places : Option Places) (lines : Option (List ℕ)) (written : ℕ)
    (left : Option ℕ) : Type 0 where
  pub filled : LeadsTo (Fills (flat_map object_file objects) (file_so_far progress)) at.0 places
  pub told : Appends at.1 lines (flat_map first_line objects)
  pub count : written ≡ length (flat_map object_file objects)
  pub left_is : left ≡ left_so_far progress

-- what filling a folder does not change (flute_output: specs/NewFolders, FolderStays)
pub record Lasting : Type 0 where
  pub out : Option Filled
  pub past : List (Option Filled)
  pub named : Bool

-- what of the places is there after a run too
abbrev pub lasting : Places → Lasting
lasting p = record { out = p.out; past = p.past; named = p.named }
