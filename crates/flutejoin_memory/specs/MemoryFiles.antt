-- Files in memory: names, and what they have.
use Rattle.std.specs.Prelude.{ℕ, List, [], ◌∷◌, ◌++◌, Option, Some, None, true, option_map}
use Rattle.std.specs.Prelude.{if◌then◌else◌}
use Rattle.std.specs.Str.{bytes_eq}
use Rattle.flute_output.specs.Entries.{Entries}
use Rattle.flute_output.specs.NewFolders.{Places}
use Rattle.flutejoin_commands.specs.Closings.{Closing, closing}
use Rattle.flutejoin_commands.specs.Files.{Files}
use Rattle.flutejoin_commands.specs.Folders.{FolderNames}
use Rattle.flutejoin_commands.specs.Worlds.{bytes_of, beside_name}

-- a name, and the bytes that it has, if it has some
pub record NamedFile : Type 0 where
  pub name : List ℕ
  pub bytes : Option (List ℕ)

-- each name has what the first of these with that name has
abbrev pub files_of : List NamedFile → Files
files_of [] name = None
files_of (first ∷ rest) name =
    if bytes_eq first.name name then first.bytes else files_of rest name

-- what became of an output of this name, and of the file beside it
abbrev pub closed_as : List ℕ → Entries → List NamedFile
closed_as name e =
    record { name = name; bytes = option_map bytes_of e.out }
    ∷ record { name = beside_name name; bytes = option_map bytes_of e.beside } ∷ []

-- what became of all of these outputs
abbrev pub names_of : List Closing → List NamedFile
names_of [] = []
names_of (c ∷ cs) = closed_as c.name c.entries ++ names_of cs

-- what a name leads to where no folder was made: there is none, and the disk knows that
abbrev pub no_folder : Places
no_folder = record { out = None; beside = None; open_file = None; past = []; named = true }

-- a name, and the places of the new folder that it leads to
pub record NamedFolder : Type 0 where
  pub name : List ℕ
  pub places : Places

-- each name leads to the first of these folders with that name, or else to none
abbrev pub folders_of : List NamedFolder → FolderNames
folders_of [] name = Some no_folder
folders_of (first ∷ rest) name =
    if bytes_eq first.name name then Some first.places else folders_of rest name

-- what became of a world so far: the outputs, and the new folders, that were closed, the last first
pub record Changed : Type 0 where
  pub closed : List Closing
  pub folders : List NamedFolder

-- nothing was closed
abbrev pub unchanged : Changed
unchanged = record { closed = []; folders = [] }

-- an output of this name, with these entries, is closed too
abbrev pub with_closed : List ℕ → Entries → Changed → Changed
with_closed name e c = record c { closed = closing name e ∷ c.closed }

-- a new folder of this name, with these places, is closed too
abbrev pub with_folder : List ℕ → Places → Changed → Changed
with_folder name p c = record c { folders = record { name = name; places = p } ∷ c.folders }
