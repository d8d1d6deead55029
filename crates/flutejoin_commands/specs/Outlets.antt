-- What a command leaves that writes to an output which takes its bytes itself.
use Rattle.std.specs.Prelude.{◌≡◌, ◌⊎◌, ◌+◌, ◌<◌, ℕ, List, [], Option, Some}
use Rattle.std.specs.Io.KnownBytes.{Appends}
use Rattle.flute_parts.specs.Devices.{AppendsPart}
use Rattle.flutejoin.specs.declared.command_fault.CommandFault.{CommandFault}
use Rattle.flutejoin.specs.declared.command_fault.CommandFault.TheVariants.{CannotCreate}
use Rattle.flutejoin.specs.declared.command_fault.CommandFault.TheVariants.{CannotWrite}
use Rattle.flutejoin.specs.declared.command_fault.CommandFault.TheVariants.{OutOfMemory}

-- the devices of the command at one moment: the bytes that its output took, and its report, if
-- they are known, and how often each has failed
pub record Outlets : Type 0 where
  pub output : Option (List ℕ)
  pub output_failures : ℕ
  pub report : Option (List ℕ)
  pub report_failures : ℕ

-- an output that takes bytes directly and the report of a command, put together
abbrev pub outlets : Option (List ℕ) → ℕ → Option (List ℕ) → ℕ → Outlets
outlets o m r n = record { output = o; output_failures = m; report = r; report_failures = n }

-- no line was reported
pub record IsUntoldOut (old new : Outlets) : Type 0 where
  pub report : new.report ≡ old.report
  pub failures : new.report_failures ≡ old.report_failures

-- bytes that were written from nothing were appended
abbrev pub Held : {A : Type 0} → (A → Option (List ℕ) → Option (List ℕ) → Type 0) → A
    → Option (List ℕ) → Option (List ℕ) → Type 0
Held writes answer old new =
    (bytes : List ℕ) × writes answer (Some []) (Some bytes) × Appends old new bytes

-- a fault of the work, or there is no memory to hold what it writes
abbrev pub FailsHeld : (CommandFault → Type 0) → CommandFault → Type 0
FailsHeld fails fault = fails fault ⊎ (fault ≡ OutOfMemory)

module _ {A : Type 0} (writes : A → Option (List ℕ) → Option (List ℕ) → Type 0)
    (lines : A → List ℕ) where
  -- the work was written, the report has just its lines, and no device failed
  pub record PutsOut (old new : Outlets) : Type 0 where
    pub answer : A
    pub out : writes answer old.output new.output
    pub told : Appends old.report new.report (lines answer)
    pub output_works : new.output_failures ≡ old.output_failures
    pub report_works : new.report_failures ≡ old.report_failures

  -- the work was written, and the report failed
  pub record PutsOutUntold (old new : Outlets) : Type 0 where
    pub answer : A
    pub out : writes answer old.output new.output
    pub told : AppendsPart old.report new.report (lines answer)
    pub output_works : new.output_failures ≡ old.output_failures
    pub report_fails : new.report_failures ≡ old.report_failures + 1

-- `before` is known of the work if its output could not be opened, `could` if the output failed
module _ {A : Type 0} (writes : A → Option (List ℕ) → Option (List ℕ) → Type 0)
    (fails : CommandFault → Type 0) (lines : A → List ℕ) (before : Type 0) (could : Type 0)
  where
    -- The work failed, or its output could not be opened, or failed: then no line was reported. Or
    -- the report failed.
    pub data FailsOut (old new : Outlets) (fault : CommandFault) : Type 0 where
      of_work : fails fault
          → (fault ≡ CannotWrite → old.output_failures < new.output_failures)
          → IsUntoldOut old new → FailsOut old new fault
      of_open : fault ≡ CannotCreate → before
          → new.output_failures ≡ old.output_failures + 1 → new.output ≡ old.output
          → IsUntoldOut old new → FailsOut old new fault
      of_output : fault ≡ CannotWrite → could → old.output_failures < new.output_failures
          → IsUntoldOut old new → FailsOut old new fault
      of_report : fault ≡ CannotWrite → PutsOutUntold writes lines old new
          → FailsOut old new fault
