-- run: the steps done so far (specs/Runs).
use Rattle.std.proofs.Common.{◌≡◌, ℕ, Bool, true, false, List, [], ◌∷◌, ◌++◌, take, cond, refl, sym}
use Rattle.std.proofs.Common.{◌∙◌, ap, subst, arith, ◌<◌, ◌≤◌, ◌+◌, ◌-◌, ◌^◌, length, get_or, inl}
use Rattle.std.proofs.Common.{inr, zero, suc, Some, add-one, min, count_by}
use Rattle.std.specs.Prelude.{slice_get, slice_index, replicate, IfSome}
use Rattle.std.proofs.lemmas.Bool.{cases_lt}
use Rattle.std.proofs.lemmas.Bool.Decides.{nat_tests}
use Rattle.std.proofs.lemmas.List.{take_all, length-replicate, get_or-set_same}
use Rattle.std.proofs.lemmas.List.Sums.{count_by_more_no, count_by_more_yes}
use Rattle.std.proofs.lemmas.Option.{slice_get_within, get_or_from_slice_get}
use Rattle.flute_parts.specs.declared.fact.Fact.{Fact}
use Rattle.flute_parts.specs.Facts.{Same}
use Rattle.flute_wire.specs.Reading.{facts}
use Rattle.flute_parts.proofs.Public.{Below-from_Same, Below-trans, Same-itself}
use Rattle.flutejoin.proofs.Public.{IsJournal-from_within, some_same}
use Rattle.flutejoin_replicas.proofs.Receptions.{Below-right, IsOver-below, IsLonger-same}
use Rattle.flutejoin_replicas.proofs.Receptions.{never_both, begins_below, HasCell-below}
use Rattle.flutejoin_replicas.proofs.Receptions.{HasCells-below}
use Rattle.flutejoin_replicas.specs.declared.steps.Step.{Step}
use Rattle.flutejoin_replicas.specs.declared.steps.Step.TheVariants.{Take, Load, Add, Merge, Reopen}
use Rattle.flutejoin_replicas.specs.declared.steps.StepFault.{StepFault}
use Rattle.flutejoin_replicas.specs.declared.steps.StepFault.TheVariants.{NoReplica, Journal, Full}
use Rattle.flutejoin_replicas.specs.declared.steps.StepFault.TheVariants.{OutOfMemory}
use Rattle.flutejoin.specs.declared.limits.TheConstants.{MAX_ENTRIES}
use Rattle.flutejoin_replicas.specs.Held.{Held, Capacity}
use Rattle.flutejoin_replicas.specs.Steps.{held_by, given_to, held_after_step, NamesReplicas}
use Rattle.flutejoin_replicas.specs.Steps.{target_of, LoadsJournal, FitsStep, EachSame, EachBelow}
use Rattle.flutejoin_replicas.specs.Known.{nothing_held, known_after, Fits}
use Rattle.flutejoin_replicas.specs.Counts.{is_refused_take, one_more}
use Rattle.flutejoin_replicas.specs.Outcome.{IsDone, IsRefused, HasCause, LoadsOver, NeedsNothing}
use Rattle.flutejoin_replicas.specs.Runs.{new_held, IsRunDone, HasNoCause, IsFirstWithCause}
use Rattle.flutejoin_replicas.proofs.Places.{EachSame-itself, EachSame-sym, EachSame-trans}
use Rattle.flutejoin_replicas.proofs.Places.{EachBelow-from_same, given_to-each_same}

-- replicas that hold the same hold the same after a step
pub held_after-same : (A B : List (List Fact)) (step : Step) (origin : List Fact) → EachSame A B
    → EachSame (held_after_step A step origin) (held_after_step B step origin)
held_after-same A B (Take replica sender datagram) origin h =
    given_to-each_same A B replica (facts sender datagram) (facts sender datagram) h
    (Same-itself (facts sender datagram))
held_after-same A B (Load replica journal) origin h =
    given_to-each_same A B replica origin origin h (Same-itself origin)
held_after-same A B (Add replica fact) origin h =
    given_to-each_same A B replica (fact ∷ []) (fact ∷ []) h (Same-itself (fact ∷ []))
held_after-same A B (Merge into from) origin h =
    given_to-each_same A B into (held_by A from) (held_by B from) h (h.each from)
held_after-same A B (Reopen replica) origin h = h

-- what holds of the first k steps
abbrev pub EachOf : (ℕ → Step → Type 0) → List Step → ℕ → Type 0
EachOf P steps k = (j : ℕ) (step : Step) → j < k → slice_get steps j ≡ Some step → P j step

-- the step has no cause for a fault but want of memory, by what was given before it
abbrev IsClearAt : Capacity → ℕ → List Step → (ℕ → List Fact) → ℕ → Step → Type 0
IsClearAt limit count steps origins j step =
    HasNoCause limit (known_after (nothing_held count) (slice_get steps) origins j) step
    (origins j)

-- the run of the first k steps
pub record RunSoFar (limit : Capacity) (count : ℕ) (steps : List Step) (k : ℕ) (now : Held)
    : Type 0 where
  pub as_many : length now.contents ≡ count
  pub named : EachOf (λ j. NamesReplicas count) steps k
  pub journals : EachOf (λ j. LoadsJournal MAX_ENTRIES) steps k
  pub content : (origins : ℕ → List Fact) → Fits steps origins
      → EachSame (known_after (nothing_held count) (slice_get steps) origins k) now.contents
  pub clear : (origins : ℕ → List Fact) → Fits steps origins
      → EachOf (IsClearAt limit count steps origins) steps k
  pub refused : (r : ℕ)
      → slice_index now.refused r ≡ min (count_by (is_refused_take r) (take k steps)) (2 ^ 64 - 1)

known_after-more : (held : List (List Fact)) (steps : List Step) (origins : ℕ → List Fact) (k : ℕ)
    (step : Step) → slice_get steps k ≡ Some step
    → known_after held (slice_get steps) origins (k + 1) ≡ held_after_step
    (known_after held (slice_get steps) origins k) step (origins k)
unfolding known_after
known_after-more held steps origins k step e = rw (add-one, e) refl

known_after-start : (held : List (List Fact)) (steps : List Step) (origins : ℕ → List Fact)
    → known_after held (slice_get steps) origins 0 ≡ held
unfolding known_after
known_after-start held steps origins = refl

pub one_more-min : (n : ℕ) (b : Bool)
    → cond b (one_more (min n (2 ^ 64 - 1))) (min n (2 ^ 64 - 1)) ≡ min (n + cond b 1 0)
    (2 ^ 64 - 1)
one_more-min n true = grind (arith, nat_tests)
one_more-min n false = omega arith

pub count_by-more : (p : Step → Bool) (steps : List Step) (k : ℕ) (step : Step) (b : Bool)
    → slice_get steps k ≡ Some step → p step ≡ b
    → count_by p (take (k + 1) steps) ≡ count_by p (take k steps) + cond b 1 0
count_by-more p steps k step true is e =
    count_by_more_yes p steps k step (slice_get_within steps k step is)
    (ap p (get_or_from_slice_get steps k step step is) ∙ e)
count_by-more p steps k step false is e =
    count_by_more_no p steps k step (slice_get_within steps k step is)
    (ap p (get_or_from_slice_get steps k step step is) ∙ e) ∙ omega arith

pub run_start : (limit : Capacity) (count : ℕ) (steps : List Step)
    → RunSoFar limit count steps 0 (new_held count)
run_start limit count steps =
    record {
      as_many = length-replicate count [];
      named = λ j step h. absurd (omega arith);
      journals = λ j step h. absurd (omega arith);
      content =
          λ origins fits. rw (known_after-start (nothing_held count) steps origins)
          (EachSame-itself (nothing_held count));
      clear = λ origins fits j step h. absurd (omega arith);
      refused = λ r. zeros count r;
    }
  where
    zeros : (count r : ℕ) → get_or {A = ℕ} (replicate count 0) r 0 ≡ 0
    zeros zero r = refl
    zeros (suc count) zero = refl
    zeros (suc count) (suc r) = zeros count r

-- what holds of each step so far holds of one more
pub each_more : (P : ℕ → Step → Type 0) (steps : List Step) (k : ℕ) {step : Step}
    → slice_get steps k ≡ Some step → P k step → EachOf P steps k → EachOf P steps (k + 1)
each_more P steps k {step = step} is here before j s within e =
    elim (cases_lt j k) [
      | inl below ↦ before j s below e
      | inr above ↦
          let same : j ≡ k = omega arith in
          let Q : ℕ → Type 0 = λ i. slice_get steps i ≡ Some s in
          let R : ℕ → Type 0 = λ i. P i s in
          let step_is = some_same (slice_get steps k) step s is (subst Q same e) in
          subst R (sym same) (subst (P k) step_is here)
    ]

-- replicas that hold the same have the same causes
pub HasCause-same : (limit : Capacity) (A B : List (List Fact)) (step : Step) (origin : List Fact)
    (fault : StepFault) → EachSame A B → HasCause limit A step origin fault
    → HasCause limit B step origin fault
HasCause-same limit A B step origin NoReplica h cause = λ named. let P : ℕ → Type 0 =
    λ n. NamesReplicas n step in cause (subst P (sym h.count) named)
HasCause-same limit A B (Load replica journal) origin (Journal fault) h cause = cause
HasCause-same limit A B (Reopen replica) origin (Journal fault) h cause = (
  cause.0,
  IsLonger-same (held_by A replica) (held_by B replica) MAX_ENTRIES
      (h.each replica) cause.1,
)
HasCause-same limit A B (Take replica sender datagram) origin (Journal fault) h cause = cause
HasCause-same limit A B (Add replica fact) origin (Journal fault) h cause = cause
HasCause-same limit A B (Merge into from) origin (Journal fault) h cause = cause
HasCause-same limit A B step origin Full h (inl over) =
    inl (IsOver-below _ _ limit (Below-from_Same _ _
    ((held_after-same A B step origin h).each (target_of step))) over)
HasCause-same limit A B step origin Full h (inr begins) = inr begins
HasCause-same limit A B step origin OutOfMemory h cause = tt

-- a `Load` that was done began with no entries over the limit
no_start_over : (limit : Capacity) (before : Held) (step : Step) (now : Held)
    → IsDone limit before step now → LoadsOver limit step → ⊥
no_start_over limit before (Load replica journal) now done begins =
    let F = done.journal.0 in
    let same =
    (done.content F (inl (IsJournal-from_within journal F done.journal.1))).each replica in
    let there : held_by (given_to before.contents replica F) replica
    ≡ held_by before.contents replica ++ F =
    get_or-set_same before.contents replica
    (held_by before.contents replica ++ F) [] done.named in
    let P : List Fact → Type 0 = λ G. Same G (held_by now.contents replica) in
    done.within
    (IsOver-below begins.0 (held_by now.contents replica) limit
    (Below-trans begins.0 F (held_by now.contents replica)
    (begins_below journal F begins.0 (IsJournal-from_within journal F done.journal.1) begins.1)
    (Below-trans F (held_by before.contents replica ++ F) (held_by now.contents replica)
    (Below-right (held_by before.contents replica) F)
    (Below-from_Same (held_by before.contents replica ++ F) (held_by now.contents replica)
    (subst P there same))))
    begins.2)
no_start_over limit before (Take replica sender datagram) now done begins = begins
no_start_over limit before (Add replica fact) now done begins = begins
no_start_over limit before (Merge into from) now done begins = begins
no_start_over limit before (Reopen replica) now done begins = begins

-- a step that was done had no cause for a fault but want of memory
done_clear : (limit : Capacity) (before : Held) (step : Step) (now : Held) (origin : List Fact)
    → IsDone limit before step now → FitsStep step origin
    → HasNoCause limit before.contents step origin
done_clear limit before step now origin done fits NoReplica not_memory cause = cause done.named
done_clear limit before (Load replica journal) now origin done fits
    (Journal fault) not_memory cause =
    never_both journal done.journal.0 cause.0 fault done.journal.1 cause.1
done_clear limit before (Reopen replica) now origin done fits (Journal fault) not_memory cause =
    done.readable cause.1
done_clear limit before (Take replica sender datagram) now origin done fits
    (Journal fault) not_memory cause = cause
done_clear limit before (Add replica fact) now origin done fits (Journal fault) not_memory cause =
    cause
done_clear limit before (Merge into from) now origin done fits (Journal fault) not_memory cause =
    cause
done_clear limit before step now origin done fits Full not_memory (inl over) =
    done.within (IsOver-below _ _ limit (Below-from_Same _ _
    ((done.content origin fits).each (target_of step))) over)
done_clear limit before step now origin done fits Full not_memory (inr begins) =
    no_start_over limit before step now done begins
done_clear limit before step now origin done fits OutOfMemory not_memory cause = not_memory refl

pub run_more : {limit : Capacity} {count : ℕ} {steps : List Step} {k : ℕ} (step : Step)
    {before now : Held} → RunSoFar limit count steps k before → slice_get steps k ≡ Some step
    → IsDone limit before step now → RunSoFar limit count steps (k + 1) now
run_more {limit = limit} {count = count} {steps = steps} {k = k} step {before = before} {now = now}
    so_far is done =
    let Q : ℕ → Type 0 = λ n. NamesReplicas n step in
    let counted = is_refused_take in
    record {
      as_many = done.as_many ∙ so_far.as_many;
      named =
          each_more (λ j. NamesReplicas count) steps k is (subst Q so_far.as_many done.named)
          so_far.named;
      journals = each_more (λ j. LoadsJournal MAX_ENTRIES) steps k is done.journal so_far.journals;
      content = λ origins fits.
          rw (known_after-more (nothing_held count) steps origins k step is)
          (EachSame-trans _ _ _
          (held_after-same _ _ step (origins k) (so_far.content origins fits))
          (done.content (origins k) (fits k step is)));
      clear = λ origins fits.
          let given = known_after (nothing_held count) (slice_get steps) origins k in
          each_more (IsClearAt limit count steps origins) steps k is
          (λ f g c. done_clear limit before step now (origins k) done (fits k step is) f g
          (HasCause-same limit given before.contents step (origins k) f
          (so_far.content origins fits) c))
          (so_far.clear origins fits);
      refused = λ r.
          done.refused r
          ∙ ap (λ n. cond (counted r step) (one_more n) n) (so_far.refused r)
          ∙ one_more-min (count_by (counted r) (take k steps)) (counted r step)
          ∙ ap (λ n. min n (2 ^ 64 - 1))
          (sym (count_by-more (counted r) steps k step (counted r step) is refl));
    }

pub run_refused : {limit : Capacity} {count : ℕ} {steps : List Step} {k : ℕ} (step : Step)
    {before now : Held} {fault : StepFault} → RunSoFar limit count steps k before
    → slice_get steps k ≡ Some step → IsRefused limit before step now fault
    → IsFirstWithCause limit count steps k fault
run_refused {limit = limit} {count = count} {steps = steps} {k = k} step {before = before}
    {fault = fault} so_far is refused =
    record {
      cause = λ origins fits.
          let given = known_after (nothing_held count) (slice_get steps) origins k in
          rw is
          (HasCause-same limit before.contents given step (origins k) fault
          (EachSame-sym _ _ (so_far.content origins fits))
          (refused.cause (origins k) (fits k step is)));
      none_before = so_far.clear;
    }

-- a step that needs nothing needs nothing where more is held
pub NeedsNothing-below : (A B : List (List Fact)) (step : Step) → EachBelow A B
    → NeedsNothing A step → NeedsNothing B step
NeedsNothing-below A B (Take replica sender datagram) h needs = (
  omega (arith, needs.0, h.count),
  HasCells-below (held_by A replica) (held_by B replica)
      (facts sender datagram) (h.each replica) needs.1,
)
NeedsNothing-below A B (Add replica fact) h needs = (
  omega (arith, needs.0, h.count),
  HasCell-below (held_by A replica) (held_by B replica) fact
      (h.each replica) needs.1,
)
NeedsNothing-below A B (Merge into from) h needs = (omega (arith, needs.0, h.count), needs.1)
NeedsNothing-below A B (Load replica journal) h needs = needs
NeedsNothing-below A B (Reopen replica) h needs = needs

-- the step that a run stops at is not sure of success, by what was given before it either
pub run_stops_at_need : {limit : Capacity} {count : ℕ} {steps : List Step} {k : ℕ} (step : Step)
    {before : Held} → RunSoFar limit count steps k before → slice_get steps k ≡ Some step
    → ¬ NeedsNothing before.contents step → (origins : ℕ → List Fact) → Fits steps origins
    → IfSome (slice_get steps k)
    (λ s. ¬ NeedsNothing (known_after (nothing_held count) (slice_get steps) origins k) s)
run_stops_at_need step {before = before} so_far is needy origins fits =
    rw is (λ needs.
    let same = EachBelow-from_same _ _ (so_far.content origins fits) in
    needy (NeedsNothing-below _ before.contents step same needs))

pub run_done : (limit : Capacity) (count : ℕ) (steps : List Step) (k : ℕ) (now : Held)
    → RunSoFar limit count steps k now → length steps ≤ k → k ≤ length steps
    → IsRunDone count steps now
run_done limit count steps k now so_far past within =
    let e : k ≡ length steps = omega arith in
    let P : ℕ → Type 0 = λ n. RunSoFar limit count steps n now in
    let all = subst P e so_far in
    record {
      as_many = all.as_many;
      named = λ j s e. all.named j s (slice_get_within steps j s e) e;
      journals = λ j s e. all.journals j s (slice_get_within steps j s e) e;
      content = all.content;
      refused =
          λ r. all.refused r ∙ ap (λ ss. min (count_by (is_refused_take r) ss) (2 ^ 64 - 1))
          (take_all (length steps) steps (omega arith));
    }
