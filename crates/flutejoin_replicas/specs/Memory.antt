-- Inputs in memory.
use Rattle.std.specs.Prelude.{◌≡◌, ℕ, ◌⊎◌, List, length, flat_map, count_by}
use Rattle.flute_parts.specs.Facts.{Same}
use Rattle.flute_journal.specs.declared.fault.ReadFault.TheVariants.{Read}
use Rattle.flutejoin.specs.Joined.{Choice, InputContent, TellAll}
use Rattle.flutejoin.specs.JoinFaults.{JoinFails}
use Rattle.flutejoin.specs.Joined.{content_facts, content_datagrams}
use Rattle.flutejoin.specs.Refused.{is_refused}
use Rattle.flutejoin.specs.declared.join.joined.Joined.{Joined}
use Rattle.flutejoin.specs.declared.command_fault.CommandFault.{CommandFault}
use Rattle.flutejoin.specs.declared.command_fault.CommandFault.TheVariants.{Input, OutOfMemory}
use Rattle.flutejoin.specs.declared.command_fault.CommandFault.TheVariants.{CannotWrite}
use Rattle.flutejoin.specs.declared.command_fault.CommandFault.TheVariants.{CannotPutAside}

-- what the inputs contain together: the facts of all, and how many datagrams and refused ones
pub record Joins {s o y : ℕ} (choice : Choice) (inputs : List (List ℕ))
    (joined : Joined s o y) : Type 0 where
  pub told : List InputContent
  pub tell : TellAll inputs told
  pub content : Same joined.store (flat_map (content_facts choice) told)
  pub datagrams : joined.datagrams ≡ length (flat_map content_datagrams told)
  pub refused : joined.refused ≡ count_by is_refused (flat_map content_datagrams told)

-- their devices fail only for lack of memory
abbrev pub in_memory : CommandFault → CommandFault
in_memory CannotWrite = OutOfMemory
in_memory CannotPutAside = OutOfMemory
in_memory (Input number Read) = OutOfMemory
in_memory fault = fault

-- why they were not joined; memory is asked for the inputs themselves too
abbrev pub MemoryFails : Choice → List (List ℕ) → CommandFault → Type 0
MemoryFails choice inputs fault = (fault ≡ OutOfMemory) ⊎ JoinFails choice inputs fault
