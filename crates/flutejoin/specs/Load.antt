-- Why a journal is not read into a store.
use Rattle.std.specs.Prelude.{◌≡◌, ℕ, List, Option, ⊤, IfSome}
use Rattle.flute_parts.specs.declared.fact.Fact.{Fact}
use Rattle.flute_journal.specs.Whole.{StopsAfter}
use Rattle.flutejoin.specs.Limits.{Limits, BeginsOverLimits, IsOver}
use Rattle.flutejoin.specs.declared.limits.TheConstants.{MAX_ENTRIES}
use Rattle.flutejoin.specs.declared.command_fault.CommandFault.{CommandFault}
use Rattle.flutejoin.specs.declared.command_fault.CommandFault.TheVariants.{Input, Full}
use Rattle.flutejoin.specs.declared.command_fault.CommandFault.TheVariants.{OutOfMemory}

-- the input with this number has this fault after entries within the limits, or begins with
-- entries beyond them; memory may run out at any entry
abbrev pub LoadFails : Limits → ℕ → Option (List ℕ) → Option (List ℕ) → CommandFault
    → Type 0
LoadFails most number input left (Input told fault) =
    (told ≡ number)
    × ((entries : List Fact) × (¬ IsOver most entries)
    × StopsAfter MAX_ENTRIES entries input left fault)
LoadFails most number input left Full = IfSome input (BeginsOverLimits most)
LoadFails most number input left OutOfMemory = ⊤
LoadFails most number input left _ = ⊥

-- a store has no room, or there is no memory
abbrev pub IsRefusal : CommandFault → Type 0
IsRefusal Full = ⊤
IsRefusal OutOfMemory = ⊤
IsRefusal _ = ⊥
