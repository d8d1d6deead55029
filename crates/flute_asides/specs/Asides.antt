-- Files that are put aside: what their calls do to a disk, and what is read back.
use Rattle.std.specs.Prelude.{◌≡◌, ◌≢◌, ◌⊎◌, ◌++◌, ◌+◌, ◌≤◌, ℕ, List, [], length, take, drop}
use Rattle.std.specs.Prelude.{Option, Some, None, IfSome, option_map}
use Rattle.std.specs.Io.{StartsWith}
use Rattle.flute_calls.specs.Disks.{Disk, FilesStay, Spoils, Touches, seen}
use Rattle.flute_output.specs.DiskWrites.{Extends}

-- an open file: which it is, where its next read or write begins, and with which permissions it was
-- made
pub record Opened : Type 0 where
  pub number : ℕ
  pub at : ℕ
  pub mode : ℕ

-- what the file has
abbrev pub bytes_of : Opened → Disk → List ℕ
bytes_of o d = (d.files o.number).bytes

-- what its reads give from now on
abbrev pub rest_of : Opened → Disk → List ℕ
rest_of o d = drop o.at (bytes_of o d)

-- its next write begins at its end
abbrev pub IsAtEnd : Opened → Disk → Type 0
IsAtEnd o d = o.at ≡ length (bytes_of o d)

-- its next read or write begins there
abbrev pub moved : ℕ → Opened → Opened
moved n o = record { number = o.number; at = n; mode = o.mode }

-- a file loses all its bytes
pub record Empties (k : ℕ) (old new : Disk) : Type 0 where
  pub bytes : (new.files k).bytes ≡ []
  pub touches : Touches k old new

-- only its owner may read and write a file: the permissions 0600
abbrev pub private_mode : ℕ
private_mode = 384

-- a name leads nowhere, or to a file without bytes
abbrev pub IsVoid : Disk → List ℕ → Type 0
IsVoid d name = IfSome (seen d name) (λ bytes. bytes ≡ [])

-- each name leads where it led; but some that begin so, and led to files without bytes, may lead
-- nowhere
abbrev pub NamesStay : List ℕ → Disk → Disk → Type 0
NamesStay prefix old new = (name : List ℕ) → ((new.names name).leads ≡ (old.names name).leads)
    ⊎ (StartsWith name prefix × IsVoid old name × ((new.names name).leads ≡ None))

-- the same, and each file has what it had
pub record OnlyFrees (prefix : List ℕ) (old new : Disk) : Type 0 where
  pub names : NamesStay prefix old new
  pub files : FilesStay old new

-- there is a new file without bytes, that no name leads to and that only its owner may use; else
-- all is as it was
pub record IsUnnamed (prefix : List ℕ) (o : Opened) (old new : Disk) : Type 0 where
  pub frees : OnlyFrees prefix old new
  pub alone : (name : List ℕ) → (new.names name).leads ≢ Some o.number
  pub empty : bytes_of o new ≡ []
  pub start : o.at ≡ 0
  pub mode : o.mode ≡ private_mode

-- an open file gets these bytes, if its next write begins at its end
abbrev pub Appended : List ℕ → Option Opened → Option Opened → Disk → Disk → Type 0
Appended more None next old new = ⊥
Appended more (Some o) next old new = IsAtEnd o old
    → (next ≡ Some (moved (o.at + length more) o)) × Extends o.number more old new

-- it has what it had, and behind that nobody knows what
abbrev pub Spoiled : Option Opened → Option Opened → Disk → Disk → Type 0
Spoiled None next old new = (next ≡ None) × (new ≡ old)
Spoiled (Some o) next old new =
    IsAtEnd o old → Spoils o.number old new × (option_map (λ p. p.number) next ≡ Some o.number)

-- an open file, if there is one, has no bytes
abbrev pub IsEmptied : Option Opened → Disk → Type 0
IsEmptied o d = IfSome o (λ p. (p.at ≡ 0) × (bytes_of p d ≡ []))

-- what is left to read of an open file, if there is one
abbrev pub left_in : Option Opened → Disk → List ℕ
left_in None d = []
left_in (Some o) d = rest_of o d

-- what an open file has, if there is one
abbrev pub all_of : Option Opened → Disk → List ℕ
all_of None d = []
all_of (Some o) d = bytes_of o d

-- its first bytes, so many
abbrev pub stored : Option Opened → ℕ → Disk → List ℕ
stored o count d = take count (all_of o d)

-- it has as many
abbrev pub HasStored : Option Opened → ℕ → Disk → Type 0
HasStored o count d = count ≤ length (all_of o d)

-- its next write begins behind so many bytes, at its end
abbrev pub EndsAt : Option Opened → ℕ → Disk → Type 0
EndsAt o count d = IfSome o (λ p. (p.at ≡ count) × (length (bytes_of p d) ≡ count))

-- what is put aside: those that are stored, and behind them those that are held
abbrev pub put_aside : Option Opened → ℕ → List ℕ → Disk → List ℕ
put_aside o count held d = stored o count d ++ held
