-- An input that is put aside, whole.
use Rattle.std.specs.Prelude.{◌≡◌, ℕ, ◌<◌, List, length, Option, ⊤, IfSome}
use Rattle.flute_journal.specs.declared.fault.ReadFault.TheVariants as read
use Rattle.flutejoin.specs.declared.command_fault.CommandFault.{CommandFault}
use Rattle.flutejoin.specs.declared.command_fault.CommandFault.TheVariants as faults

-- why an input was not put into a sink, by the bytes that were left of it
abbrev pub PutFails : Option (List ℕ) → CommandFault → Type 0
PutFails old (faults.TooLarge number) =
    (number ≡ 1) × IfSome old (λ bytes. 4294967295 < length bytes)
PutFails old (faults.Input number fault) = (number ≡ 1) × (fault ≡ read.Read)
PutFails old faults.CannotWrite = ⊤
PutFails old _ = ⊥
