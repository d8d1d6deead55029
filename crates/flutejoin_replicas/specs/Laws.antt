-- Replicas that were given the same.
use Rattle.std.specs.Prelude.{ℕ, List}
use Rattle.flute_parts.specs.declared.fact.Fact.{Fact}
use Rattle.flute_parts.specs.Facts.{Same, SameMembers}
use Rattle.flutejoin_replicas.specs.declared.steps.Step.{Step}
use Rattle.flutejoin_replicas.specs.Known.{Fits, known_by}

-- F is what replica r holds, of so many new ones that were given the steps: the same
-- as what it was given
pub record IsLeft (count : ℕ) (steps : List Step) (origins : ℕ → List Fact) (r : ℕ)
    (F : List Fact) : Type 0 where
  pub fits : Fits steps origins
  pub same : Same F (known_by count steps origins r)

-- F and G are what two replicas hold, of one run or of two, that were given lists of facts
-- with the same members
pub record GivenTheSame (F G : List Fact) : Type 0 where
  pub count : ℕ
  pub steps : List Step
  pub origins : ℕ → List Fact
  pub replica : ℕ
  pub left : IsLeft count steps origins replica F
  pub other_count : ℕ
  pub other_steps : List Step
  pub other_origins : ℕ → List Fact
  pub other_replica : ℕ
  pub other_left : IsLeft other_count other_steps other_origins other_replica G
  pub members :
      SameMembers (known_by count steps origins replica)
      (known_by other_count other_steps other_origins other_replica)
