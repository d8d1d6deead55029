-- The disk of the calls in memory: what their changes make of an empty one.
use Rattle.std.specs.Prelude.{◌≡◌, ℕ, ◌<◌, ◌≤◌, ⊤, List, [], ◌∷◌, ◌++◌, length, true, false}
use Rattle.std.specs.Prelude.{Option, Some, None, if◌then◌else◌}
use Rattle.std.specs.Str.{bytes_eq}
use Rattle.std.specs.Bool.{nat_eq}
use Rattle.flute_calls.specs.Disks.{Disk, Entry, Held, led_to, confirmed}
use Rattle.flute_calls.specs.Moments.{Run, no_run}
use Rattle.flute_memory.specs.declared.changes.Change.{Change}
use Rattle.flute_memory.specs.declared.changes.Change.TheVariants.{Made, FolderMade, MadeWithin, Written, Truncated}
use Rattle.flute_memory.specs.declared.changes.Change.TheVariants.{Synced, Renamed, Removed, RemovedWithin}
use Rattle.flute_memory.specs.declared.changes.Change.TheVariants.{Emptied, Confirmed}

-- one name leads there
abbrev pub with_name : List ℕ → Option ℕ → (List ℕ → Entry) → List ℕ → Entry
with_name name target names other =
    if bytes_eq other name then led_to target (names other) else names other

-- one file is this
abbrev pub with_file : ℕ → Held → (ℕ → Held) → ℕ → Held
with_file k file files j = if nat_eq j k then file else files j

-- a file without bytes, or a folder without files
abbrev pub empty : Held
empty = record { bytes = []; on_disk = false }

-- the disk need not have the names in a folder
abbrev pub unsure : ℕ → (ℕ → Held) → ℕ → Held
unsure folder files = with_file folder (record (files folder) { on_disk = false }) files

-- a change, where the next file that is made is k
abbrev pub after : Change → ℕ → Disk → Disk
after (Made name) k d = record {
  names = with_name name.items (Some k) d.names;
  files = with_file k empty d.files;
}
after (FolderMade name) k d = record {
  names = with_name name.items (Some k) d.names;
  files = with_file k empty d.files;
}
after (MadeWithin folder name) k d =
    record d { files = with_file k empty (unsure folder d.files) }
after (Written file bytes) k d = record d {
  files = with_file file (record { bytes = (d.files file).bytes ++ bytes.items; on_disk = false })
      d.files;
}
after (Truncated file) k d = record d { files = with_file file empty d.files }
after (Synced file) k d = record d {
  files = with_file file (record { bytes = (d.files file).bytes; on_disk = true }) d.files;
}
after (Renamed source target) k d = record d {
  names = with_name target.items (d.names source.items).leads
      (with_name source.items None d.names);
}
after (Removed name) k d = record d { names = with_name name.items None d.names }
after (RemovedWithin folder name) k d = record d { files = unsure folder d.files }
after (Emptied folder) k d = record d { files = unsure folder d.files }
after Confirmed k d = record d { names = λ name. confirmed (d.names name) }

-- one change more
abbrev pub next : Run → Change → Run
next r change = record { now = after change (length r.past) r.now; past = r.now ∷ r.past }

-- the run of a disk after further changes
abbrev pub run_from : Run → List Change → Run
run_from r [] = r
run_from r (change ∷ changes) = run_from (next r change) changes

-- the run of a disk on which these changes were made
abbrev pub run_of : List Change → Run
run_of changes = run_from no_run changes

-- the file that a name leads to
abbrev pub leads : Run → List ℕ → Option ℕ
leads r name = (r.now.names name).leads

-- after the change a name leads to where this one did before it
abbrev pub LeadsBack : Change → List ℕ → List ℕ → Type 0
LeadsBack change name earlier = (r : Run) → leads (next r change) name ≡ leads r earlier

-- after the change, which is this one of all, a name leads there
abbrev pub LeadsTo : Change → ℕ → List ℕ → Option ℕ → Type 0
LeadsTo change number name target =
    (r : Run) → length r.past ≡ number → leads (next r change) name ≡ target

-- the files and folders that it is of are among the first k
abbrev pub IsOfEarlier : Change → ℕ → Type 0
IsOfEarlier (MadeWithin folder name) k = folder < k
IsOfEarlier (Written file bytes) k = file < k
IsOfEarlier (Truncated file) k = file < k
IsOfEarlier (Synced file) k = file < k
IsOfEarlier (RemovedWithin folder name) k = folder < k
IsOfEarlier (Emptied folder) k = folder < k
IsOfEarlier change k = ⊤

-- no file from the k-th on was anything
abbrev pub AreUnused : ℕ → Disk → Type 0
AreUnused k d = (j : ℕ) → k ≤ j → d.files j ≡ empty
