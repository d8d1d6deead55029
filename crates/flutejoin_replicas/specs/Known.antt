-- What each replica was given in a list of steps.
use Rattle.std.specs.Prelude.{◌≡◌, ℕ, zero, suc, ◌+◌, ◌<◌, List, [], Bool, true, false, Option}
use Rattle.std.specs.Prelude.{Some, None, length, slice_get, replicate}
use Rattle.flute_parts.specs.declared.fact.Fact.{Fact}
use Rattle.flutejoin_replicas.specs.declared.steps.Step.{Step}
use Rattle.flutejoin_replicas.specs.Steps.{held_by, held_after_step, FitsStep}

-- new replicas, each with nothing
abbrev pub nothing_held : ℕ → List (List Fact)
nothing_held count = replicate count []

abbrev pub held_after_next : List (List Fact) → Option Step → List Fact → List (List Fact)
held_after_next held None origin = held
held_after_next held (Some step) origin = held_after_step held step origin

-- what each replica was given in the first n steps, beginning with what it held;
-- origins has a list for each step
unfoldable pub known_after : List (List Fact) → (ℕ → Option Step) → (ℕ → List Fact)
    → ℕ → List (List Fact)
known_after held steps origins zero = held
known_after held steps origins (suc n) =
    held_after_next (known_after held steps origins n) (steps n) (origins n)

-- the same in all the steps of a list
abbrev pub known : List (List Fact) → List Step → (ℕ → List Fact) → List (List Fact)
known held steps origins = known_after held (slice_get steps) origins (length steps)

-- what replica r of so many new ones was given in the steps
abbrev pub known_by : ℕ → List Step → (ℕ → List Fact) → ℕ → List Fact
known_by count steps origins r = held_by (known (nothing_held count) steps origins) r

-- each step has an origin that fits it
abbrev pub Fits : List Step → (ℕ → List Fact) → Type 0
Fits steps origins =
    (k : ℕ) (step : Step) → slice_get steps k ≡ Some step → FitsStep step (origins k)

-- a step that was done
abbrev pub if_done : Option Bool → Option Step → Option Step
if_done (Some true) step = step
if_done (Some false) step = None
if_done None step = None

-- the steps that were done, at their places
abbrev pub done_among : List Step → List Bool → ℕ → Option Step
done_among steps done k = if_done (slice_get done k) (slice_get steps k)

-- what each replica was given in the steps that were done, each with its own origin
abbrev pub known_of_done : List (List Fact) → List Step → List Bool → (ℕ → List Fact)
    → List (List Fact)
known_of_done held steps done origins =
    known_after held (done_among steps done) origins (length steps)

-- each step that was not done is followed directly by the same step, so the last was done
abbrev pub IsRetried : List Step → List Bool → Type 0
IsRetried steps done =
    (k : ℕ) → slice_get done k ≡ Some false
    → (k + 1 < length steps) × (slice_get steps (k + 1) ≡ slice_get steps k)
