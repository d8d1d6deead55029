-- What replicas were given in steps, one after the other (specs/Known).
use Rattle.std.proofs.Common.{◌≡◌, ℕ, zero, suc, ◌<◌, ◌+◌, Bool, List, length, Option, Some, refl}
use Rattle.std.proofs.Common.{ap, ◌∙◌, arith, add-one}
use Rattle.std.proofs.Math.ListN.{set}
use Rattle.std.specs.Prelude.{slice_get}
use Rattle.flute_parts.specs.declared.fact.Fact.{Fact}
use Rattle.flutejoin.proofs.Public.{slice_get-set_other, slice_get-set_same}
use Rattle.flutejoin_replicas.specs.declared.steps.Step.{Step}
use Rattle.flutejoin_replicas.specs.Known.{known_after, done_among, held_after_next, if_done}

-- what was given in the first steps depends on these alone
pub known_after-agree : (held : List (List Fact)) (f g : ℕ → Option Step) (origins : ℕ → List Fact)
    (k : ℕ) → ((j : ℕ) → j < k → f j ≡ g j)
    → known_after held f origins k ≡ known_after held g origins k
unfolding known_after
known_after-agree held f g origins zero same = refl
known_after-agree held f g origins (suc k) same =
    rw (
      known_after-agree held f g origins k (λ j below. same j (omega arith)),
      same k (omega arith),
    ) refl

pub known_after-next : (held : List (List Fact)) (f : ℕ → Option Step) (origins : ℕ → List Fact)
    (k : ℕ) (o : Option Step) → f k ≡ o
    → known_after held f origins (k + 1) ≡ held_after_next (known_after held f origins k) o
    (origins k)
unfolding known_after
known_after-next held f origins k o e = rw (add-one, e) refl

pub known_after-none : (held : List (List Fact)) (f : ℕ → Option Step) (origins : ℕ → List Fact)
    → known_after held f origins 0 ≡ held
unfolding known_after
known_after-none held f origins = refl

-- what was given by the steps done, when one more is marked
pub known_after-marked : (held : List (List Fact)) (steps : List Step) (done : List Bool)
    (origins : ℕ → List Fact) (k : ℕ) {step : Step} (b : Bool)
    → slice_get steps k ≡ Some step → k < length done
    → known_after held (done_among steps (set done k b)) origins (k + 1)
    ≡ held_after_next (known_after held (done_among steps done) origins k)
    (if_done (Some b) (Some step)) (origins k)
known_after-marked held steps done origins k {step = step} b is within =
    known_after-next held (done_among steps (set done k b)) origins k
    (if_done (Some b) (Some step)) (rw (slice_get-set_same done k b within, is) refl)
    ∙ ap (λ A. held_after_next A (if_done (Some b) (Some step)) (origins k))
    (known_after-agree held (done_among steps (set done k b)) (done_among steps done) origins k
    (λ j below. ap (λ o. if_done o (slice_get steps j))
    (slice_get-set_other done k j b (λ e. absurd (omega arith)))))
