-- What a disk shows of an output: the two entries of its folder.
use Rattle.std.specs.Prelude.{ℕ, Bool, List, [], ◌∷◌, Option, None, option_map, take, map, ◌⊎◌, Contains}
use Rattle.std.specs.Prelude.{if◌then◌else◌, nat_eq}
use Rattle.flute_calls.specs.Disks.{Disk, Held, MayLeave}
use Rattle.flute_calls.specs.Moments.{Run}
use Rattle.flute_output.specs.Entries.{Stored, Entries, Survives}
use Rattle.flute_output.specs.OutMoments.{Moment}
use Rattle.flute_output.specs.DiskWrites.{Writing}

-- a file of the disk, as outputs speak of one
abbrev pub stored_as : Held → Stored
stored_as file = record { bytes = file.bytes; on_disk = file.on_disk }

-- the file that a name leads to
abbrev pub stored_at : Disk → List ℕ → Option Stored
stored_at d name = option_map (λ k. stored_as (d.files k)) (d.names name).leads

-- what it led to last
abbrev pub last_of : List (Option ℕ) → Option ℕ
last_of [] = None
last_of (target ∷ earlier) = target

-- the file that the name led to before that
abbrev pub stored_before : Disk → List ℕ → Option Stored
stored_before d name = option_map (λ k. stored_as (d.files k)) (last_of (d.names name).before)

-- the files that it led to before that and that the disk may still have at the name
abbrev pub stored_unsure : Disk → List ℕ → List (Option Stored)
stored_unsure d name = map (option_map (λ k. stored_as (d.files k)))
    (take (d.names name).unsure (d.names name).before)

-- what a moment shows of OUT: the file, and those that the disk may still have there
abbrev pub moment_at : List ℕ → Disk → Moment
moment_at out d = record { out = stored_at d out; unsure = stored_unsure d out }

-- all moments of a run of the disk, the last one first
abbrev pub disk_moments : List ℕ → Run → List Moment
disk_moments out run = map (moment_at out) (run.now ∷ run.past)

-- Whatever a lost power leaves at a name is what may survive of the file that it leads to, or of
-- one of those that the disk may still have at the name.
abbrev pub LossesAreOfMoments : Type 0
LossesAreOfMoments = (d : Disk) (out : List ℕ) (left : Option (List ℕ)) → MayLeave d out left
    → Survives (moment_at out d).out left
    ⊎ ((file : Option Stored) × Contains (moment_at out d).unsure file × Survives file left)

-- The entries that w shows, the writing into the file made for OUT: `file` is that file's number,
-- None once it is closed, and `is_placed` says whether it has been named OUT. The file beside OUT
-- is as far as this writing filled it; `on_disk` is copied: whether all of it is on the disk.
abbrev pub disk_entries : List ℕ → Option ℕ → Bool → Writing → Entries
disk_entries out file is_placed w = record {
  out = stored_at w.disk out;
  beside = option_map (λ k. record {
    bytes = take w.taken (w.disk.files k).bytes;
    on_disk = (w.disk.files k).on_disk;
  }) file;
  waiting = w.waiting;
  found = if is_placed then stored_before w.disk out else stored_at w.disk out;
  past = if is_placed then stored_before w.disk out ∷ [] else [];
  named = nat_eq (w.disk.names out).unsure 0;
}
