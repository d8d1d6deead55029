-- What the calls of the library for C write, and why they fail, by the bytes that they are given.
use Rattle.std.specs.Prelude.{◌≡◌, ◌⊎◌, ◌<◌, ◌≤◌, ◌==◌, ℕ, List, Option, Some, true, false}
use Rattle.std.specs.Prelude.{if◌then◌else◌}
use Rattle.flute_streams.specs.Merges.{Merged}
use Rattle.flutejoin.specs.Fill.{WritesFill}
use Rattle.flutejoin.specs.Limits.{Limits, limits_of}
use Rattle.flutejoin.specs.Merge.{MergeFails}
use Rattle.flutejoin.specs.Minus.{WritesMinus}
use Rattle.flutejoin.specs.declared.command_fault.CommandFault.{CommandFault}
use Rattle.flutejoin.specs.declared.command_fault.CommandFault.TheVariants.{Full}
use Rattle.flutejoin.specs.declared.fill.asking.Asking.{Asking}
use Rattle.flutejoin.specs.declared.fill.asking.Asking.TheVariants.{All, Only}
use Rattle.flutejoin.specs.declared.limits.TheConstants.{MAX_ENTRIES}

-- the limits of the commands; if the number is not 0, with `--any-size`
abbrev pub most_for : ℕ → Limits
most_for n = if n == 0 then limits_of false else limits_of true

-- a call fails with `full`: what it could write has more entries than the commands read
abbrev pub IsTooLong : (ℕ → Option (List ℕ) → Option (List ℕ) → Type 0) → CommandFault
    → Type 0
IsTooLong writes fault =
    (fault ≡ Full) × ((count : ℕ) × (old : Option (List ℕ)) × (new : Option (List ℕ))
    × writes count old new × (MAX_ENTRIES < count))

-- the journal of two was appended, of no more entries than the commands read
abbrev pub Merges : List ℕ → List ℕ → Option (List ℕ) → Option (List ℕ) → Type 0
Merges first second old new =
    (count : ℕ) × Merged MAX_ENTRIES count (Some first) (Some second) old new
    × (count ≤ MAX_ENTRIES)

-- why a call of merge fails
abbrev pub MergeCallFails : List ℕ → List ℕ → CommandFault → Type 0
MergeCallFails first second fault =
    MergeFails (Some first) (Some second) fault
    ⊎ IsTooLong (λ count. Merged MAX_ENTRIES count (Some first) (Some second)) fault

-- the journal of what of the first a join would change the second by
abbrev pub Subtracts : List ℕ → List ℕ → Option (List ℕ) → Option (List ℕ) → Type 0
Subtracts first second old new =
    (count : ℕ) × WritesMinus (Some first) (Some second) count old new

-- only what is named, if the number is not 0
abbrev pub asking_for : ℕ → Asking
asking_for n = if n == 0 then All else Only

-- the journal of what lines ask for
abbrev pub Fills : Asking → List ℕ → List ℕ → Option (List ℕ) → Option (List ℕ)
    → Type 0
Fills asking journal lines old new =
    (count : ℕ) × WritesFill asking (Some journal) (Some lines) count old new
