-- What a disk has been, moment by moment.
use Rattle.std.specs.Prelude.{◌≡◌, ◌++◌, List, [], ◌∷◌, None, false}
use Rattle.std.specs.List.{All}
use Rattle.flute_calls.specs.Disks.{Disk}

-- a disk as it is, and as it was at each earlier moment, the latest first
pub record Run : Type 0 where
  pub now : Disk
  pub past : List Disk

-- P of the disk at each moment from old on
pub record Always (P : Disk → Type 0) (old new : Run) : Type 0 where
  pub added : List Disk
  pub past : new.past ≡ added ++ old.past
  pub each : All P added
  pub here : P new.now

-- one call, that has no moment in between
pub record Does (R : Disk → Disk → Type 0) (old new : Run) : Type 0 where
  pub made : R old.now new.now
  pub past : new.past ≡ old.now ∷ old.past

-- nothing is done
abbrev pub IsSame : Disk → Disk → Type 0
IsSame old new = new ≡ old

-- from first to last R, and at each moment M of what was at first
pub record Passes (M R : Disk → Disk → Type 0) (old new : Run) : Type 0 where
  pub made : R old.now new.now
  pub always : Always (M old.now) old new

-- no name leads to a file
abbrev pub empty_disk : Disk
empty_disk = record {
  names = λ name. record { leads = None; before = []; unsure = 0 };
  files = λ k. record { bytes = []; on_disk = false };
}

-- an empty disk, to which nothing was done
abbrev pub no_run : Run
no_run = record { now = empty_disk; past = [] }
