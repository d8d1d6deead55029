-- What a run leaves.
use Rattle.std.specs.Prelude.{◌≡◌, ◌≢◌, ℕ, ◌<◌, ◌+◌, ◌-◌, ◌^◌, List, Bool, true, ⊤, length}
use Rattle.std.specs.Prelude.{slice_get, slice_index, replicate, count_by, Some, IfSome, min}
use Rattle.flute_parts.specs.declared.fact.Fact.{Fact}
use Rattle.flutejoin_replicas.specs.declared.steps.Step.{Step}
use Rattle.flutejoin_replicas.specs.declared.steps.StepFault.{StepFault}
use Rattle.flutejoin_replicas.specs.declared.steps.StepFault.TheVariants.{OutOfMemory}
use Rattle.flutejoin_replicas.specs.declared.runs.RunFault.{RunFault}
use Rattle.flutejoin_replicas.specs.declared.runs.RunFault.TheVariants.{Start, At}
use Rattle.flutejoin.specs.declared.limits.TheConstants.{MAX_ENTRIES}
use Rattle.flutejoin_replicas.specs.Held.{Held, Capacity}
use Rattle.flutejoin_replicas.specs.Steps.{NamesReplicas, LoadsJournal, EachSame, EachBelow}
use Rattle.flutejoin_replicas.specs.Known.{nothing_held, known, known_after, known_of_done}
use Rattle.flutejoin_replicas.specs.Known.{done_among, Fits, IsRetried}
use Rattle.flutejoin_replicas.specs.Counts.{is_refused_take}
use Rattle.flutejoin_replicas.specs.Outcome.{HasCause, NeedsNothing}

-- new replicas hold nothing, and nothing was refused to them
abbrev pub new_held : ℕ → Held
new_held count = record { contents = nothing_held count; refused = replicate count 0 }

-- a run of all the steps on new replicas
pub record IsRunDone (count : ℕ) (steps : List Step) (now : Held) : Type 0 where
  pub as_many : length now.contents ≡ count
  pub named : (k : ℕ) (step : Step) → slice_get steps k ≡ Some step
      → NamesReplicas count step
  pub journals : (k : ℕ) (step : Step) → slice_get steps k ≡ Some step
      → LoadsJournal MAX_ENTRIES step
  -- each replica has what it was given, whichever lists the journals are of
  pub content : (origins : ℕ → List Fact) → Fits steps origins
      → EachSame (known (nothing_held count) steps origins) now.contents
  pub refused : (r : ℕ)
      → slice_index now.refused r ≡ min (count_by (is_refused_take r) steps) (2 ^ 64 - 1)

-- step k has a cause for its fault, by what the replicas were given before it
abbrev pub HasCauseAt : Capacity → ℕ → List Step → ℕ → StepFault → Type 0
HasCauseAt capacity count steps k fault =
    (origins : ℕ → List Fact) → Fits steps origins
    → IfSome (slice_get steps k) (λ step. HasCause capacity
    (known_after (nothing_held count) (slice_get steps) origins k) step (origins k) fault)

-- a step has no cause for a fault, but perhaps lack of memory
abbrev pub HasNoCause : Capacity → List (List Fact) → Step → List Fact → Type 0
HasNoCause capacity held step origin =
    (fault : StepFault) → fault ≢ OutOfMemory → ¬ HasCause capacity held step origin fault

-- step k has a cause for its fault, and no step before it has one
pub record IsFirstWithCause (capacity : Capacity) (count : ℕ) (steps : List Step) (k : ℕ)
    (fault : StepFault) : Type 0 where
  pub cause : HasCauseAt capacity count steps k fault
  pub none_before : (origins : ℕ → List Fact) → Fits steps origins → (j : ℕ) (step : Step)
      → j < k → slice_get steps j ≡ Some step
      → HasNoCause capacity (known_after (nothing_held count) (slice_get steps) origins j) step
      (origins j)

-- a run that stopped: for lack of memory for the replicas, or at a step with a cause
abbrev pub IsRunRefused : Capacity → ℕ → List Step → RunFault → Type 0
IsRunRefused capacity count steps Start = ⊤
IsRunRefused capacity count steps (At k fault) =
    (k < length steps) × IsFirstWithCause capacity count steps k fault

-- the step that a run stopped at is none that takes no memory, by what was given before it
abbrev pub StopsAtNeed : ℕ → List Step → RunFault → Type 0
StopsAtNeed count steps Start = ⊤
StopsAtNeed count steps (At k fault) =
    (origins : ℕ → List Fact) → Fits steps origins
    → IfSome (slice_get steps k)
    (λ step. ¬ NeedsNothing (known_after (nothing_held count) (slice_get steps) origins k) step)

-- all the steps in turn, of which some were done
pub record IsDriven (before : Held) (steps : List Step) (done : List Bool)
    (now : Held) : Type 0 where
  pub as_many : length now.contents ≡ length before.contents
  -- a step that was done names replicas that are there, and a `Load` read a journal
  -- within the bound
  pub named : (k : ℕ) (step : Step) → slice_get steps k ≡ Some step
      → slice_get done k ≡ Some true → NamesReplicas (length before.contents) step
  pub journals : (k : ℕ) (step : Step) → slice_get steps k ≡ Some step
      → slice_get done k ≡ Some true → LoadsJournal MAX_ENTRIES step
  -- a step that takes no memory, by what was held at first or what the steps done before
  -- it gave, was done
  pub sure : (k : ℕ) (step : Step) → slice_get steps k ≡ Some step
      → NeedsNothing before.contents step → slice_get done k ≡ Some true
  pub sure_since : (origins : ℕ → List Fact) → Fits steps origins → (k : ℕ) (step : Step)
      → slice_get steps k ≡ Some step
      → NeedsNothing (known_after before.contents (done_among steps done) origins k) step
      → slice_get done k ≡ Some true
  -- each replica has what the steps that were done gave it
  pub least : (origins : ℕ → List Fact) → Fits steps origins
      → EachBelow (known_of_done before.contents steps done origins) now.contents
  -- and no more than what all steps give it
  pub most : (origins : ℕ → List Fact) → Fits steps origins
      → EachBelow now.contents (known before.contents steps origins)
  -- if each step that was not done is followed by the same step, it has exactly that
  pub whole : IsRetried steps done → (origins : ℕ → List Fact) → Fits steps origins
      → EachSame (known before.contents steps origins) now.contents
  -- each refused datagram is counted, in 64 bits that stay at their greatest
  pub refused : (r : ℕ) → r < length before.contents → slice_index before.refused r < 2 ^ 64
      → slice_index now.refused r
      ≡ min (slice_index before.refused r + count_by (is_refused_take r) steps) (2 ^ 64 - 1)
