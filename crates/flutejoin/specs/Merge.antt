-- Why two journals are not read to their ends.
use Rattle.std.specs.Prelude.{◌≡◌, ℕ, zero, suc, ◌⊎◌, List, Option, ⊤, Result, Err}
use Rattle.flute_parts.specs.declared.fact.Fact.{Fact}
use Rattle.flute_journal.specs.Input.{Fails}
use Rattle.flute_journal.specs.Framing.{HasFault}
use Rattle.flute_journal.specs.JournalFraming.{journal_framing}
use Rattle.flutejoin.specs.declared.limits.TheConstants.{MAX_ENTRIES}
use Rattle.flutejoin.specs.declared.command_fault.CommandFault.{CommandFault}
use Rattle.flutejoin.specs.declared.command_fault.CommandFault.TheVariants.{Input, CannotWrite}

-- the input with this number has this fault
abbrev pub MergeFails : Option (List ℕ) → Option (List ℕ) → CommandFault → Type 0
MergeFails first second (Input number fault) =
    ((number ≡ 1) × HasFault journal_framing MAX_ENTRIES first fault)
    ⊎ ((number ≡ 2) × HasFault journal_framing MAX_ENTRIES second fault)
MergeFails first second CannotWrite = ⊤
MergeFails first second _ = ⊥

-- how often each source failed in a command that gave this: only if its input was at fault
abbrev pub FirstInputFails : {T : Type 0} → ℕ → ℕ → Result T CommandFault → Type 0
FirstInputFails old new (Err (Input (suc zero) fault)) = Fails {T = Option Fact} old new (Err fault)
FirstInputFails old new _ = new ≡ old

-- how often the second source failed, by the result of a merge
abbrev pub SecondInputFails : {T : Type 0} → ℕ → ℕ → Result T CommandFault → Type 0
SecondInputFails old new (Err (Input (suc (suc zero)) fault)) =
    Fails {T = Option Fact} old new (Err fault)
SecondInputFails old new _ = new ≡ old
