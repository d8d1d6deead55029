-- What is printed and handed on.
use Rattle.std.specs.Prelude.{◌≡◌, ℕ, Bool, true, false, List, Option, Result, OnOk, IfErr}
use Rattle.flutejoin.specs.declared.command_fault.CommandFault.{CommandFault}
use Rattle.flutejoin.specs.declared.command_fault.CommandFault.TheVariants.{CannotWrite}
use Rattle.flutejoin.specs.declared.command_fault.CommandFault.TheVariants.{NotAllWhole, ValuesDiffer}

-- if the report has not failed, all that was written was handed on
abbrev pub IsHandedOn : ℕ → ℕ → Option (List ℕ) → Option (List ℕ) → Type 0
IsHandedOn failures now written handed_on = now ≡ failures → handed_on ≡ written

-- all was written, and the report failed to hand it on
abbrev pub FailsToFlush : Type 0 → CommandFault → Type 0
FailsToFlush all_written fault = (fault ≡ CannotWrite) × all_written

-- P if all was printed, of whether the objects passed their check
abbrev pub IfPrinted : {T : Type 0} → Result T CommandFault → (Bool → Type 0) → Type 0
IfPrinted result P = OnOk result (P true)
    × IfErr result (λ fault. fault ≡ NotAllWhole → P false)

-- likewise of two journals
abbrev pub IfCompared : {T : Type 0} → Result T CommandFault → (Bool → Type 0) → Type 0
IfCompared result P = OnOk result (P true)
    × IfErr result (λ fault. fault ≡ ValuesDiffer → P false)
