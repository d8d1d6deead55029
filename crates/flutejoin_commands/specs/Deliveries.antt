-- What an output gets that takes its bytes itself, by how they are delivered.
use Rattle.std.specs.Prelude.{ℕ, List, Option}
use Rattle.flutejoin.specs.declared.command_fault.CommandFault.{CommandFault}
use Rattle.flutejoin_commands.specs.Outlets.{FailsHeld, Held}
use Rattle.flutejoin_commands.specs.declared.delivery.Delivery.{Delivery}
use Rattle.flutejoin_commands.specs.declared.delivery.Delivery.TheVariants.{AtOnce, Whole}
use Rattle.flutejoin_commands.specs.declared.no_output.IfNoOutput.{IfNoOutput}
use Rattle.flutejoin_commands.specs.declared.no_output.IfNoOutput.TheVariants.{Try}

-- what is written as it is written, or what is held first
abbrev pub delivered : {A : Type 0} → Delivery → (A → Option (List ℕ) → Option (List ℕ) → Type 0)
    → A → Option (List ℕ) → Option (List ℕ) → Type 0
delivered (AtOnce if_none) writes = writes
delivered (Whole alloc) writes = Held writes

-- why it fails
abbrev pub FailsDelivered : Delivery → (CommandFault → Type 0) → CommandFault → Type 0
FailsDelivered (AtOnce if_none) fails = fails
FailsDelivered (Whole alloc) fails = FailsHeld fails

-- a work that is held is tried without an output
abbrev pub if_no_output : Delivery → IfNoOutput
if_no_output (AtOnce if_none) = if_none
if_no_output (Whole alloc) = Try
