-- The files in the folders of a disk in memory.
use Rattle.std.specs.Prelude.{◌≡◌, ℕ, suc, List, [], ◌∷◌, Option, Some, None, option_map}
use Rattle.std.specs.Prelude.{if◌then◌else◌}
use Rattle.std.specs.Str.{bytes_eq}
use Rattle.std.specs.Bool.{nat_eq}
use Rattle.flute_calls.specs.Disks.{Disk}
use Rattle.flute_memory.specs.MemoryDisk.{after, leads, run_of}
use Rattle.flute_memory.specs.declared.changes.Change.{Change}
use Rattle.flute_memory.specs.declared.changes.Change.TheVariants.{MadeWithin, RemovedWithin}
use Rattle.flute_memory.specs.declared.changes.Change.TheVariants.{Emptied}

-- what a name in a folder leads to after a change, where it led to `target` before, and the next
-- file that is made is k
abbrev pub led_within : ℕ → List ℕ → Change → ℕ → Option ℕ → Option ℕ
led_within folder name (MadeWithin f n) k target =
    if nat_eq f folder then if bytes_eq name n.items then Some k else target else target
led_within folder name (RemovedWithin f n) k target =
    if nat_eq f folder then if bytes_eq name n.items then None else target else target
led_within folder name (Emptied f) k target = if nat_eq f folder then None else target
led_within folder name change k target = target

abbrev pub within_from : ℕ → List ℕ → List Change → ℕ → Option ℕ → Option ℕ
within_from folder name [] k target = target
within_from folder name (change ∷ changes) k target =
    within_from folder name changes (suc k) (led_within folder name change k target)

-- the file that a name in a folder leads to
abbrev pub within : ℕ → List ℕ → List Change → Option ℕ
within folder name changes = within_from folder name changes 0 None

-- what a reader finds at this name, of the folder that this number has
abbrev pub seen_in : Option ℕ → List ℕ → List Change → Option (List ℕ)
seen_in None name changes = None
seen_in (Some folder) name changes =
    option_map (λ k. ((run_of changes).now.files k).bytes) (within folder name changes)

-- what a reader finds at this name in the folder of that name
abbrev pub seen_within : List ℕ → List ℕ → List Change → Option (List ℕ)
seen_within folder name changes = seen_in (leads (run_of changes) folder) name changes

-- after the change a name in a folder leads there, whatever it led to before
abbrev pub Decides : Change → ℕ → ℕ → List ℕ → Option ℕ → Type 0
Decides change k folder name target =
    (before : Option ℕ) → led_within folder name change k before ≡ target

-- after the change a name in a folder leads where it led before
abbrev pub IsPassed : Change → ℕ → ℕ → List ℕ → Type 0
IsPassed change k folder name =
    (before : Option ℕ) → led_within folder name change k before ≡ before

-- after the change, which is this one of all, a file has these bytes, where it had those before
abbrev pub AddsBytes : Change → ℕ → ℕ → List ℕ → List ℕ → Type 0
AddsBytes change k file before bytes = (d : Disk) → (d.files file).bytes ≡ before
    → ((after change k d).files file).bytes ≡ bytes
