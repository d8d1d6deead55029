-- What the calls of an output do to a disk.
use Rattle.std.specs.Prelude.{◌≡◌, ◌≢◌, ◌++◌, ℕ, Bool, List, [], Option, Some, None, false, true}
use Rattle.std.specs.Prelude.{length, take}
use Rattle.flute_calls.specs.Disks.{Disk, HasHad, Touches}

-- no other name has led to the file
abbrev pub HasOnly : List ℕ → ℕ → Disk → Type 0
HasOnly name k d = (other : List ℕ) → other ≢ name → HasHad (d.names other) k → ⊥

-- each name but this one is as it was
abbrev pub OnlyNames : List ℕ → Disk → Disk → Type 0
OnlyNames name old new = (other : List ℕ) → other ≢ name → new.names other ≡ old.names other

-- an empty file was made at this name, to which no other name has led
pub record IsBegun (beside : List ℕ) (k : ℕ) (d : Disk) : Type 0 where
  pub leads : (d.names beside).leads ≡ Some k
  pub apart : HasOnly beside k d
  pub empty : d.files k ≡ record { bytes = []; on_disk = false }

-- a file gets these bytes at its end
pub record Extends (k : ℕ) (more : List ℕ) (old new : Disk) : Type 0 where
  pub bytes : (new.files k).bytes ≡ (old.files k).bytes ++ more
  pub touches : Touches k old new

-- a file gets these bytes at its end, and the disk has all of it
pub record Keeps (k : ℕ) (more : List ℕ) (old new : Disk) : Type 0 where
  pub file : new.files k ≡ record { bytes = (old.files k).bytes ++ more; on_disk = true }
  pub touches : Touches k old new

-- what a file has, and behind that the bytes that wait for it
abbrev pub taken_for : ℕ → List ℕ → Disk → List ℕ
taken_for k waiting d = (d.files k).bytes ++ waiting

-- a file that is written: how many bytes it took, whether a call for it failed, which bytes wait
-- for it, and the disk
pub record Writing : Type 0 where
  pub taken : ℕ
  pub is_broken : Bool
  pub waiting : List ℕ
  pub disk : Disk

-- the state of a file that is written, put together
abbrev pub writing : ℕ → Bool → List ℕ → Disk → Writing
writing n is_broken bytes d =
    record { taken = n; is_broken = is_broken; waiting = bytes; disk = d }

-- if no call for it failed, the file is as long as what it took
abbrev pub HasTaken : ℕ → Writing → Type 0
HasTaken k w = w.is_broken ≡ false → length (w.disk.files k).bytes ≡ w.taken

-- the bytes that a file took, and behind them those that wait for it
abbrev pub content : ℕ → Writing → List ℕ
content k w = take w.taken (w.disk.files k).bytes ++ w.waiting

-- a file is written on: these bytes come behind its content, and no other is touched
pub record WritesOn (k : ℕ) (more : List ℕ) (old new : Writing) : Type 0 where
  pub taken : HasTaken k old → HasTaken k new
  pub content : HasTaken k old → content k new ≡ content k old ++ more
  pub touches : Touches k old.disk new.disk

-- no file is open: bytes only wait
pub record Waits (more : List ℕ) (old new : Writing) : Type 0 where
  pub waiting : new.waiting ≡ old.waiting ++ more
  pub disk : new.disk ≡ old.disk

-- no file but the one that may be open is touched
abbrev pub LeavesOthers : Option ℕ → Disk → Disk → Type 0
LeavesOthers None old new = new ≡ old
LeavesOthers (Some k) old new = Touches k old new

-- the one or the other
abbrev pub GoesOn : Option ℕ → List ℕ → Writing → Writing → Type 0
GoesOn None more old new = Waits more old new
GoesOn (Some k) more old new = WritesOn k more old new
