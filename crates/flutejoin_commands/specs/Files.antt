-- Files by their names.
use Rattle.std.specs.Prelude.{◌≡◌, ℕ, List, Option, Some, None, IsSome, ⊤}

-- which bytes each name has
abbrev pub Files : Type 0
Files = List ℕ → Option (List ℕ)

-- the name has these bytes, if the files are known; they are then known too
abbrev pub HasBytes : Option Files → List ℕ → Option (List ℕ) → Type 0
HasBytes None name bytes = ⊤
HasBytes (Some files) name bytes = (bytes ≡ files name) × IsSome bytes

-- no file has the name, if the files are known
abbrev pub IsNoFile : Option Files → List ℕ → Type 0
IsNoFile None name = ⊤
IsNoFile (Some files) name = files name ≡ None

-- P of the files, if they are known
abbrev pub IfFiles : Option Files → (Files → Type 0) → Type 0
IfFiles None P = ⊤
IfFiles (Some files) P = P files
