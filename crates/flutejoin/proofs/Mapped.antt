-- What was read of an input if its fault was mapped to one of the command.
use Rattle.std.proofs.Common.{rules}
use Rattle.std.proofs.Common.{◌≡◌, ℕ, Result, Ok, Err}
use Rattle.std.specs.Prelude.{MatchResult}
use Rattle.flute_journal.specs.declared.fault.ReadFault.{ReadFault}
use Rattle.flutejoin.specs.declared.command_fault.CommandFault.{CommandFault}
use Rattle.flutejoin.specs.declared.command_fault.CommandFault.TheVariants.{Input}

pub read_failed : {T : Type 0} (r : Result T ReadFault) (m : Result T CommandFault) (n : ℕ)
    (g : CommandFault) → MatchResult r (λ x. m ≡ Ok x) (λ f. m ≡ Err (Input n f)) → m ≡ Err g →
    (f : ReadFault) × (r ≡ Err f) × (g ≡ Input n f)
read_failed = search rules

pub read_done : {T : Type 0} (r : Result T ReadFault) (m : Result T CommandFault) (n : ℕ) (x : T)
    → MatchResult r (λ y. m ≡ Ok y) (λ f. m ≡ Err (Input n f)) → m ≡ Ok x → r ≡ Ok x
read_done = search rules
