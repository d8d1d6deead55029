-- Which files that are there an output overwrites, and why not.
use Rattle.std.specs.Prelude.{◌≡◌, ◌⊎◌, ℕ, Bool, true, false, List, if◌then◌else◌, ⊤}
use Rattle.flute_journal.specs.Kinds.{HasKind, IsNeither}
use Rattle.flute_journal.specs.declared.kind.Kind.TheVariants.{Datagrams}
use Rattle.flutejoin.specs.declared.output_guard.Overwrites.{Overwrites}
use Rattle.flutejoin.specs.declared.output_guard.Overwrites.TheVariants.{Any, Journals, OtherFiles}
use Rattle.flutejoin.specs.declared.command_fault.CommandFault.{CommandFault}
use Rattle.flutejoin.specs.declared.command_fault.CommandFault.TheVariants.{OutputIsInput}
use Rattle.flutejoin.specs.declared.command_fault.CommandFault.TheVariants.{OutputIsDatagrams}
use Rattle.flutejoin.specs.declared.command_fault.CommandFault.TheVariants.{OutputIsJournal}

-- what a command overwrites that writes a journal, and one that writes something else, if it is
-- forced to or not
abbrev pub overwrites_journal : Bool → Overwrites
overwrites_journal force = if force then Any else Journals

-- what `--force` lets a command overwrite
abbrev pub overwrites_other : Bool → Overwrites
overwrites_other force = if force then Any else OtherFiles

-- a file that begins so is overwritten
abbrev pub IsOverwritten : Overwrites → List ℕ → Type 0
IsOverwritten Any first = ⊤
IsOverwritten Journals first = ¬ HasKind Datagrams first
IsOverwritten OtherFiles first = IsNeither first

-- an input is kept whose bytes would be lost, unless the command is forced
abbrev pub spares : Overwrites → Bool
spares Any = false
spares Journals = true
spares OtherFiles = true

-- why a file is not
abbrev pub IsKeptOutput : CommandFault → Type 0
IsKeptOutput fault =
    (fault ≡ OutputIsDatagrams) ⊎ ((fault ≡ OutputIsJournal) ⊎ (fault ≡ OutputIsInput))
