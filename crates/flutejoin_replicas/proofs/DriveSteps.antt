-- Replicas::drive: steps done in turn, some of them refused (specs/Runs).
use Rattle.std.proofs.Common.{◌≡◌, ℕ, Bool, true, false, cond, eqb, ◌^◌, min, take, count_by, List}
use Rattle.std.proofs.Common.{[], ◌∷◌, ◌++◌, refl, sym, ◌∙◌, ap, subst, arith, ◌<◌, ◌≤◌, ◌+◌, ◌-◌}
use Rattle.std.proofs.Common.{length, ◌⊎◌, inl, inr, zero, suc, Option, Some, None, add-one}
use Rattle.std.proofs.Common.{append_assoc, Result, Ok, Err, OnOk, IfErr, IsOk, is_ok}
use Rattle.std.proofs.Math.ListN.{set}
use Rattle.std.specs.Prelude.{slice_get, slice_index, is_none}
use Rattle.std.proofs.lemmas.Bool.{cases_eq, cases_lt, cases_Bool, false≢true, and_parts, eqb-true}
use Rattle.std.proofs.lemmas.List.{take_all, set_past, get_or-set_other, get_or-set_same, set-set}
use Rattle.std.proofs.lemmas.List.{set-get_or}
use Rattle.std.proofs.lemmas.Option.{slice_get_within}
use Rattle.flute_parts.specs.declared.fact.Fact.{Fact}
use Rattle.flute_parts.specs.Facts.{Same}
use Rattle.flute_wire.specs.Content.{Content}
use Rattle.flute_wire.specs.Reading.{packet, packet_facts, facts}
use Rattle.flute_parts.proofs.Public.{Below-itself, Same-append, Same-from_Below, Same-itself}
use Rattle.flute_parts.proofs.Public.{Same-trans, Same-twice}
use Rattle.flutejoin.proofs.Public.{IsJournal-from_within, Same-from_journals}
use Rattle.flutejoin_replicas.specs.declared.steps.Step.{Step}
use Rattle.flutejoin_replicas.specs.declared.steps.Step.TheVariants.{Take, Load, Add, Merge, Reopen}
use Rattle.flutejoin_replicas.specs.declared.steps.StepFault.{StepFault}
use Rattle.flutejoin.specs.declared.limits.TheConstants.{MAX_ENTRIES}
use Rattle.flutejoin_replicas.specs.Held.{Held, Capacity}
use Rattle.flutejoin_replicas.specs.Steps.{held_by, given_to, held_after_step, NamesReplicas}
use Rattle.flutejoin_replicas.specs.Steps.{LoadsJournal, FitsStep, EachSame, EachBelow}
use Rattle.flutejoin_replicas.specs.Known.{known_after, done_among, held_after_next, if_done, Fits}
use Rattle.flutejoin_replicas.specs.Known.{IsRetried}
use Rattle.flutejoin.specs.Refused.{is_refused}
use Rattle.flutejoin_replicas.specs.Counts.{is_refused_take, one_more}
use Rattle.flutejoin_replicas.specs.Outcome.{IsDone, IsRefused, NeedsNothing}
use Rattle.flutejoin_replicas.specs.Runs.{IsDriven}
use Rattle.flutejoin_replicas.proofs.Places.{EachSame-itself, EachSame-sym, EachSame-trans}
use Rattle.flutejoin_replicas.proofs.Places.{EachBelow-itself, EachBelow-trans, EachBelow-from_same}
use Rattle.flutejoin_replicas.proofs.Places.{EachSame-set, given_to-each_below}
use Rattle.flutejoin.proofs.Public.{slice_get-set_other, slice_get-set_same, some_same}
use Rattle.flutejoin_replicas.proofs.RunSteps.{EachOf, each_more, held_after-same, one_more-min}
use Rattle.flutejoin_replicas.proofs.RunSteps.{count_by-more, NeedsNothing-below}
use Rattle.flutejoin_replicas.proofs.Outcomes.{held_after-above}
use Rattle.flutejoin_replicas.proofs.KnownSteps.{known_after-agree, known_after-marked}
use Rattle.flutejoin_replicas.proofs.KnownSteps.{known_after-next, known_after-none}

-- replicas that hold more hold more after a step
pub held_after-below : (A B : List (List Fact)) (step : Step) (origin : List Fact) → EachBelow A B
    → EachBelow (held_after_step A step origin) (held_after_step B step origin)
held_after-below A B (Take replica sender datagram) origin h =
    given_to-each_below A B replica (facts sender datagram) (facts sender datagram) h
    (Below-itself (facts sender datagram))
held_after-below A B (Load replica journal) origin h =
    given_to-each_below A B replica origin origin h (Below-itself origin)
held_after-below A B (Add replica fact) origin h =
    given_to-each_below A B replica (fact ∷ []) (fact ∷ []) h (Below-itself (fact ∷ []))
held_after-below A B (Merge into from) origin h =
    given_to-each_below A B into (held_by A from) (held_by B from) h (h.each from)
held_after-below A B (Reopen replica) origin h = h

-- a refused datagram has no facts
refused_facts : (sender : ℕ) (d : List ℕ) → is_refused d ≡ true → facts sender d ≡ []
unfolding facts
refused_facts sender d h = go (packet d) h
  where
    go : (o : Option Content) → is_none o ≡ true → packet_facts sender o ≡ []
    go None e = refl
    go (Some content) e = cc

-- so a `Take` of one, at a replica that is there, needs nothing
refused_needs_nothing : (r : ℕ) (held : List (List Fact)) (step : Step) → r < length held
    → is_refused_take r step ≡ true → NeedsNothing held step
refused_needs_nothing r held (Take replica sender datagram) within h =
    let both = and_parts (eqb replica r) (is_refused datagram) h in
    (omega (arith, within, eqb-true replica r both.0), rw (refused_facts sender datagram both.1) tt)
refused_needs_nothing r held (Load replica journal) within h = cc
refused_needs_nothing r held (Add replica fact) within h = cc
refused_needs_nothing r held (Merge into from) within h = cc
refused_needs_nothing r held (Reopen replica) within h = cc

-- the marked ones of the first k steps name replicas and load journals
abbrev AreNamed : Held → List Step → List Bool → ℕ → Type 0
AreNamed before steps done = EachOf (λ j step. slice_get done j ≡ Some true
    → NamesReplicas (length before.contents) step × LoadsJournal MAX_ENTRIES step) steps

-- those of the first k steps of which P holds are marked
abbrev AreMarked : (ℕ → Step → Type 0) → List Step → List Bool → ℕ → Type 0
AreMarked P steps done = EachOf (λ j step. P j step → slice_get done j ≡ Some true) steps

-- a step needs nothing by what the done ones gave before it
abbrev NeedsNothingSince : Held → List Step → List Bool → (ℕ → List Fact) → ℕ → Step → Type 0
NeedsNothingSince before steps done origins j step =
    NeedsNothing (known_after before.contents (done_among steps done) origins j) step

-- the first k steps, refused or not
pub record DriveSoFar (before : Held) (steps : List Step) (done : List Bool) (k : ℕ) (now : Held)
    : Type 0 where
  pub as_many : length now.contents ≡ length before.contents
  pub named : AreNamed before steps done k
  pub sure : AreMarked (λ j step. NeedsNothing before.contents step) steps done k
  pub sure_since : (origins : ℕ → List Fact) → Fits steps origins
      → AreMarked (NeedsNothingSince before steps done origins) steps done k
  pub kept : EachBelow before.contents now.contents
  pub least : (origins : ℕ → List Fact) → Fits steps origins
      → EachBelow (known_after before.contents (done_among steps done) origins k) now.contents
  pub most : (origins : ℕ → List Fact) → Fits steps origins
      → EachBelow now.contents (known_after before.contents (slice_get steps) origins k)
  pub refused : (r : ℕ) → r < length before.contents → slice_index before.refused r < 2 ^ 64
      → slice_index now.refused r
      ≡ min (slice_index before.refused r + count_by (is_refused_take r) (take k steps))
      (2 ^ 64 - 1)

-- the step is the k-th, and has a mark
pub record IsNext (steps : List Step) (done : List Bool) (k : ℕ) (step : Step) : Type 0 where
  pub is : slice_get steps k ≡ Some step
  pub within : k < length done

pub drive_start : (before : Held) (steps : List Step) (done : List Bool)
    → DriveSoFar before steps done 0 before
drive_start before steps done =
    record {
      as_many = refl;
      named = λ j step below. absurd (omega arith);
      sure = λ j step below. absurd (omega arith);
      sure_since = λ origins fits j step below. absurd (omega arith);
      kept = EachBelow-itself before.contents;
      least = λ origins fits. rw (known_after-none before.contents (done_among steps done) origins)
          (EachBelow-itself before.contents);
      most = λ origins fits. rw (known_after-none before.contents (slice_get steps) origins)
          (EachBelow-itself before.contents);
      refused = λ r within small. omega (arith, small);
    }

-- a step that was done has an origin that fits it
some_origin : (limit : Capacity) (before : Held) (step : Step) (now : Held)
    → IsDone limit before step now → (origin : List Fact) × FitsStep step origin
some_origin limit before (Take replica sender datagram) now done = ([], tt)
some_origin limit before (Load replica journal) now done =
    (done.journal.0, inl (IsJournal-from_within journal done.journal.0 done.journal.1))
some_origin limit before (Add replica fact) now done = ([], tt)
some_origin limit before (Merge into from) now done = ([], tt)
some_origin limit before (Reopen replica) now done = ([], tt)

-- so it takes nothing away
done_above : (limit : Capacity) (before : Held) (step : Step) (now : Held)
    → IsDone limit before step now → EachBelow before.contents now.contents
done_above limit before step now done =
    let o = some_origin limit before step now done in
    EachBelow-trans before.contents (held_after_step before.contents step o.0) now.contents
    (held_after-above before.contents step o.0)
    (EachBelow-from_same (held_after_step before.contents step o.0) now.contents
    (done.content o.0 o.1))

-- the marks of earlier steps stay, and one more is set
named_more : {before mid : Held} {steps : List Step} {done : List Bool} {k : ℕ} {step : Step}
    (b : Bool) → DriveSoFar before steps done k mid → IsNext steps done k step
    → (b ≡ true → NamesReplicas (length before.contents) step × LoadsJournal MAX_ENTRIES step)
    → AreNamed before steps (set done k b) (k + 1)
named_more {before = before} {steps = steps} {done = done} {k = k} b so_far next here =
    each_more (λ j s. slice_get (set done k b) j ≡ Some true
    → NamesReplicas (length before.contents) s × LoadsJournal MAX_ENTRIES s) steps k next.is
    (λ marked.
    let on : Some b ≡ Some true =
    sym (slice_get-set_same done k b next.within) ∙ marked in here (cc))
    (λ j s below e marked.
    so_far.named j s below e
    (sym (slice_get-set_other done k j b (λ d. absurd (omega arith))) ∙ marked))

-- what is marked wherever P holds so far is so one step further
marked_more : (P : ℕ → Step → Type 0) {steps : List Step} {done : List Bool} {k : ℕ} {step : Step}
    (b : Bool) → IsNext steps done k step → (P k step → b ≡ true) → AreMarked P steps done k
    → AreMarked P steps (set done k b) (k + 1)
marked_more P {steps = steps} {done = done} {k = k} b next here so_far =
    each_more (λ j s. P j s → slice_get (set done k b) j ≡ Some true) steps k next.is
    (λ holds. slice_get-set_same done k b next.within ∙ ap Some (here holds))
    (λ j s below e holds.
    slice_get-set_other done k j b (λ d. absurd (omega arith)) ∙ so_far j s below e holds)

-- a mark that is set changes nothing of what was given before its step
known_after-before : (held : List (List Fact)) (steps : List Step) (done : List Bool)
    (origins : ℕ → List Fact) (k j : ℕ) (b : Bool) → j ≤ k
    → known_after held (done_among steps (set done k b)) origins j
    ≡ known_after held (done_among steps done) origins j
known_after-before held steps done origins k j b low =
    known_after-agree held (done_among steps (set done k b)) (done_among steps done) origins j
    (λ i below. ap (λ o. if_done o (slice_get steps i))
    (slice_get-set_other done k i b (λ e. absurd (omega arith))))

-- what needs nothing, by what is held at first or was given since, is done, one step further
sure_more : {before mid : Held} {steps : List Step} {done : List Bool} {k : ℕ} {step : Step}
    (b : Bool) → DriveSoFar before steps done k mid → IsNext steps done k step
    → (NeedsNothing mid.contents step → b ≡ true)
    → AreMarked (λ j s. NeedsNothing before.contents s) steps (set done k b) (k + 1)
sure_more {before = before} {mid = mid} {step = step} b so_far next here =
    marked_more (λ j s. NeedsNothing before.contents s) b next
    (λ needs. here (NeedsNothing-below before.contents mid.contents step so_far.kept needs))
    so_far.sure

sure_since_more : {before mid : Held} {steps : List Step} {done : List Bool} {k : ℕ} {step : Step}
    (b : Bool) → DriveSoFar before steps done k mid → IsNext steps done k step
    → (NeedsNothing mid.contents step → b ≡ true)
    → (origins : ℕ → List Fact) → Fits steps origins
    → AreMarked (NeedsNothingSince before steps (set done k b) origins) steps (set done k b)
    (k + 1)
sure_since_more {before = before} {mid = mid} {steps = steps} {done = done} {k = k} {step = step} b
    so_far next here origins fits =
    marked_more (NeedsNothingSince before steps (set done k b) origins) b next
    (λ needs.
    let P : List (List Fact) → Type 0 = λ A. NeedsNothing A step in
    let same = known_after-before before.contents steps done origins k k b (omega arith) in
    here (NeedsNothing-below _ mid.contents step (so_far.least origins fits) (subst P same needs)))
    (λ j s below e needs.
    let P : List (List Fact) → Type 0 = λ A. NeedsNothing A s in
    let same = known_after-before before.contents steps done origins k j b (omega arith) in
    so_far.sure_since origins fits j s below e (subst P same needs))

-- the count of refused datagrams, one step further
counted_more : (old : ℕ) {mid now : ℕ} (r : ℕ) (steps : List Step) (k : ℕ) {step : Step}
    → slice_get steps k ≡ Some step
    → mid ≡ min (old + count_by (is_refused_take r) (take k steps)) (2 ^ 64 - 1)
    → now ≡ cond (is_refused_take r step) (one_more mid) mid
    → now ≡ min (old + count_by (is_refused_take r) (take (k + 1) steps)) (2 ^ 64 - 1)
counted_more old r steps k {step = step} is before e =
    let counts = is_refused_take r in
    e ∙ ap (λ n. cond (counts step) (one_more n) n) before
    ∙ one_more-min (old + count_by counts (take k steps)) (counts step)
    ∙ ap (λ n. min n (2 ^ 64 - 1))
    (append_one old (count_by counts (take k steps)) (cond (counts step) 1 0))
    ∙ ap (λ n. min (old + n) (2 ^ 64 - 1))
    (sym (count_by-more counts steps k step (counts step) is refl))
  where
    append_one : (a b c : ℕ) → a + b + c ≡ a + (b + c)
    append_one a b c = omega arith

pub drive_more : (limit : Capacity) {before : Held} {steps : List Step} {done : List Bool} {k : ℕ}
    {step : Step} {mid : Held} (now : Held) (r : Result (Unit {0}) StepFault)
    → DriveSoFar before steps done k mid → IsNext steps done k step
    → OnOk r (IsDone limit mid step now) → IfErr r (λ f. IsRefused limit mid step now f)
    → (NeedsNothing mid.contents step → IsOk r)
    → DriveSoFar before steps (set done k (is_ok r)) (k + 1) now
drive_more limit {before = before} {steps = steps} {done = done} {k = k} {step = step} {mid = mid}
    now (Ok x) so_far next done_now refused needs =
    record {
      as_many = done_now.as_many ∙ so_far.as_many;
      named =
          let Q : ℕ → Type 0 = λ n. NamesReplicas n step in
          named_more true so_far next
          (λ _. (subst Q so_far.as_many done_now.named, done_now.journal));
      sure = sure_more true so_far next (λ _. refl);
      sure_since = sure_since_more true so_far next (λ _. refl);
      kept =
          EachBelow-trans before.contents mid.contents now.contents so_far.kept
          (done_above limit mid step now done_now);
      least = λ origins fits.
          rw (known_after-marked before.contents steps done origins k true next.is next.within)
          (EachBelow-trans _ _ _
          (held_after-below _ _ step (origins k) (so_far.least origins fits))
          (EachBelow-from_same _ _ (done_now.content (origins k) (fits k step next.is))));
      most = λ origins fits.
          rw (known_after-next before.contents (slice_get steps) origins k (Some step) next.is)
          (EachBelow-trans _ _ _
          (EachBelow-from_same _ _
          (EachSame-sym _ _ (done_now.content (origins k) (fits k step next.is))))
          (held_after-below _ _ step (origins k) (so_far.most origins fits)));
      refused = λ r there small.
          counted_more (slice_index before.refused r) r steps k next.is
          (so_far.refused r there small) (done_now.refused r);
    }
drive_more limit {before = before} {steps = steps} {done = done} {k = k} {step = step} {mid = mid}
    now (Err f) so_far next done_now refused needs =
    record {
      as_many = sym refused.kept.count ∙ so_far.as_many;
      named = named_more false so_far next (λ off. absurd (false≢true off));
      sure = sure_more false so_far next needs;
      sure_since = sure_since_more false so_far next needs;
      kept =
          EachBelow-trans before.contents mid.contents now.contents so_far.kept refused.kept;
      least = λ origins fits.
          rw (known_after-marked before.contents steps done origins k false next.is
          next.within)
          (EachBelow-trans _ _ _ (so_far.least origins fits) refused.kept);
      most = λ origins fits.
          rw (known_after-next before.contents (slice_get steps) origins k (Some step) next.is)
          (EachBelow-trans _ _ _ (refused.no_more (origins k) (fits k step next.is))
          (held_after-below _ _ step (origins k) (so_far.most origins fits)));
      refused = λ r there small.
          counted_more (slice_index before.refused r) r steps k next.is
          (so_far.refused r there small)
          (ap (λ counts. slice_index counts r) refused.refused ∙ sym (not_counted r there));
    }
  where
    not_counted : (r : ℕ) → r < length before.contents
        → cond (is_refused_take r step) (one_more (slice_index mid.refused r))
        (slice_index mid.refused r) ≡ slice_index mid.refused r
    not_counted r there = elim (cases_Bool (is_refused_take r step)) [
      | inl counts ↦
          let within : r < length mid.contents = omega (arith, there, so_far.as_many) in
          let none = refused_needs_nothing r mid.contents step within counts in
          absurd (false≢true (needs none))
      | inr misses ↦ rw misses refl
    ]

-- the same is given twice
given_to-twice : (A : List (List Fact)) (i : ℕ) (F G : List Fact) → Same F G
    → EachSame (given_to (given_to A i F) i G) (given_to A i G)
given_to-twice A i F G same =
    elim (cases_lt i (length A)) [
      | inl within ↦
          rw (
            set-set A i (held_by A i ++ F) (held_by (set A i (held_by A i ++ F)) i
                ++ G),
            get_or-set_same A i (held_by A i ++ F) [],
          )
          (EachSame-set A A i ((held_by A i ++ F) ++ G) (held_by A i ++ G) within
          (EachSame-itself A)
          (Same-trans ((held_by A i ++ F) ++ G) ((held_by A i ++ G) ++ G) (held_by A i ++ G)
          (Same-append (held_by A i ++ F) (held_by A i ++ G) G G
          (Same-append (held_by A i) (held_by A i) F G (Same-itself (held_by A i)) same)
          (Same-itself G))
          (rw append_assoc (Same-append (held_by A i) (held_by A i) (G ++ G) G
          (Same-itself (held_by A i)) (Same-twice G)))))
      | inr past ↦
          let e : given_to A i F ≡ A = set_past A i (held_by A i ++ F) past in
          rw e (EachSame-itself (given_to A i G))
    ]

-- what a replica holds is given to it again
given_itself : (A : List (List Fact)) (i : ℕ) → EachSame (given_to A i (held_by A i)) A
given_itself A i =
    elim (cases_lt i (length A)) [
      | inl within ↦
          let P : List (List Fact) → Type 0 = λ B. EachSame (given_to A i (held_by A i)) B in
          subst P (set-get_or A i [])
          (EachSame-set A A i (held_by A i ++ held_by A i) (held_by A i) within (EachSame-itself A)
          (Same-twice (held_by A i)))
      | inr past ↦
          let e : given_to A i (held_by A i) ≡ A = set_past A i (held_by A i ++ held_by A i) past in
          rw e (EachSame-itself A)
    ]

origins_same : (bs : List ℕ) (replica : ℕ) (F G : List Fact) → FitsStep (Load replica bs) F
    → FitsStep (Load replica bs) G → Same F G
origins_same bs replica F G (inl h) (inl k) = Same-from_journals bs F G h k
origins_same bs replica F G (inl h) (inr none) = absurd (none.0 F h)
origins_same bs replica F G (inr none) (inl k) = absurd (none.0 G k)
origins_same bs replica F G (inr none) (inr also) = rw (none.1, also.1) (Same-itself [])

-- a step made again gives nothing more
pub held_after-twice : (A : List (List Fact)) (step : Step) (origin again : List Fact)
    → FitsStep step origin → FitsStep step again
    → EachSame (held_after_step (held_after_step A step origin) step again)
    (held_after_step A step again)
held_after-twice A (Take replica sender datagram) origin again f g =
    given_to-twice A replica (facts sender datagram) (facts sender datagram)
    (Same-itself (facts sender datagram))
held_after-twice A (Load replica journal) origin again f g =
    given_to-twice A replica origin again (origins_same journal replica origin again f g)
held_after-twice A (Add replica fact) origin again f g =
    given_to-twice A replica (fact ∷ []) (fact ∷ []) (Same-itself (fact ∷ []))
held_after-twice A (Merge into from) origin again f g =
    elim (cases_eq from into) [
      | inl e ↦
          let P : ℕ → Type 0 =
          λ j. EachSame (given_to (given_to A into (held_by A j)) into
          (held_by (given_to A into (held_by A j)) j)) (given_to A into (held_by A j)) in
          subst P (sym e) (given_itself (given_to A into (held_by A into)) into)
      | inr ne ↦
          rw (get_or-set_other A into from (held_by A into ++ held_by A from) [] ne)
          (given_to-twice A into (held_by A from) (held_by A from) (Same-itself (held_by A from)))
    ]
held_after-twice A (Reopen replica) origin again f g = EachSame-itself A

known_after-suc : (held : List (List Fact)) (f : ℕ → Option Step) (origins : ℕ → List Fact) (k : ℕ)
    (o : Option Step) → f k ≡ o
    → known_after held f origins (suc k) ≡ held_after_next (known_after held f origins k) o
    (origins k)
unfolding known_after
known_after-suc held f origins k o e = rw e refl

mark_cases : (marks : List Bool) (k : ℕ) → k < length marks
    → (slice_get marks k ≡ Some true) ⊎ (slice_get marks k ≡ Some false)
mark_cases [] k within = absurd (omega arith)
mark_cases (true ∷ marks) zero within = inl refl
mark_cases (false ∷ marks) zero within = inr refl
mark_cases (mark ∷ marks) (suc k) within = mark_cases marks k (omega arith)

step_there : (steps : List Step) (k : ℕ) → k < length steps
    → (step : Step) × (slice_get steps k ≡ Some step)
step_there [] k within = absurd (omega arith)
step_there (step ∷ steps) zero within = (step, refl)
step_there (step ∷ steps) (suc k) within = step_there steps k (omega arith)

-- if the last step was done, the steps done gave what all steps give; else they and the last step
-- did
abbrev Settled : List (List Fact) → List Step → List Bool → (ℕ → List Fact) → ℕ → Type 0
Settled held steps done origins zero = Unit {0}
Settled held steps done origins (suc m) =
    (slice_get done m ≡ Some true → EachSame (known_after held (done_among steps done) origins
    (suc m)) (known_after held (slice_get steps) origins (suc m)))
    × (slice_get done m ≡ Some false → (step : Step) → slice_get steps m ≡ Some step → EachSame
    (held_after_step (known_after held (done_among steps done) origins (suc m)) step
    (origins m)) (known_after held (slice_get steps) origins (suc m)))

-- each refused step is made again, and the steps have origins
record IsRetriedFrom (steps : List Step) (done : List Bool) (origins : ℕ → List Fact)
    : Type 0 where
  same : length steps ≡ length done
  retried : IsRetried steps done
  fits : Fits steps origins

one_further : (held : List (List Fact)) {steps : List Step} {done : List Bool}
    {origins : ℕ → List Fact} (n : ℕ) (step : Step) → IsRetriedFrom steps done origins
    → Settled held steps done origins n → slice_get steps n ≡ Some step
    → EachSame
    (held_after_step (known_after held (done_among steps done) origins n) step (origins n))
    (held_after_step (known_after held (slice_get steps) origins n) step (origins n))
one_further held {steps = steps} {done = done} {origins = origins} zero step run settled is =
    rw (
      known_after-none held (done_among steps done) origins,
      known_after-none held (slice_get steps) origins,
    )
    (EachSame-itself (held_after_step held step (origins 0)))
one_further held {steps = steps} {done = done} {origins = origins} (suc m) step run settled is =
    elim (mark_cases done m (omega (arith, run.same, slice_get_within steps (suc m) step is))) [
      | inl on ↦ held_after-same _ _ step (origins (suc m)) (settled.0 on)
      | inr off ↦
          let Q : ℕ → Type 0 = λ i. slice_get steps i ≡ slice_get steps m in
          let before : slice_get steps m ≡ Some step =
          sym (subst Q (add-one m) (run.retried m off).1) ∙ is in
          EachSame-trans _ _ _
          (EachSame-sym _ _
          (held_after-twice (known_after held (done_among steps done) origins (suc m)) step
          (origins m) (origins (suc m)) (run.fits m step before) (run.fits (suc m) step is)))
          (held_after-same _ _ step (origins (suc m)) (settled.1 off step before))
    ]

settled : (held : List (List Fact)) {steps : List Step} {done : List Bool}
    {origins : ℕ → List Fact} (n : ℕ) → IsRetriedFrom steps done origins → n ≤ length steps
    → Settled held steps done origins n
settled held zero run within = tt
settled held {steps = steps} {done = done} {origins = origins} (suc m) run within =
    let there = step_there steps m (omega arith) in
    let some = known_after held (done_among steps done) origins in
    let every = known_after held (slice_get steps) origins in
    let all : every (suc m) ≡ held_after_step (every m) there.0 (origins m) =
    known_after-suc held (slice_get steps) origins m (Some there.0) there.1 in
    let so_far = settled held m run (omega arith) in
    let further = one_further held m there.0 run so_far there.1 in (
      λ on.
          let e : some (suc m) ≡ held_after_step (some m) there.0 (origins m) =
          known_after-suc held (done_among steps done) origins m (Some there.0)
          (rw (on, there.1) refl) in
          rw (e, all) further,
      λ off step is.
          let e : some (suc m) ≡ some m =
          known_after-suc held (done_among steps done) origins m None (rw off refl) in
          let P : Step → Type 0 = λ t.
          EachSame (held_after_step (some m) t (origins m))
          (held_after_step (every m) there.0 (origins m)) in
          rw (e, all) (subst P (some_same (slice_get steps m) there.0 step there.1 is) further),
    )

-- where each refused step is made again, the steps done gave all
retried_gives_all : (held : List (List Fact)) {steps : List Step} {done : List Bool}
    {origins : ℕ → List Fact} (n : ℕ) → n ≡ length steps → IsRetriedFrom steps done origins
    → EachSame (known_after held (done_among steps done) origins n)
    (known_after held (slice_get steps) origins n)
retried_gives_all held {steps = steps} {done = done} {origins = origins} zero e run =
    rw (
      known_after-none held (done_among steps done) origins,
      known_after-none held (slice_get steps) origins,
    ) (EachSame-itself held)
retried_gives_all held {done = done} (suc m) e run =
    elim (mark_cases done m (omega (arith, run.same))) [
      | inl on ↦ (settled held (suc m) run (omega arith)).0 on
      | inr off ↦ absurd (omega (arith, (run.retried m off).0))
    ]

pub drive_done : {before : Held} {steps : List Step} {done : List Bool} {k : ℕ} {now : Held}
    → DriveSoFar before steps done k now → length steps ≡ length done → length steps ≤ k
    → k ≤ length steps → IsDriven before steps done now
drive_done {before = before} {steps = steps} {done = done} {k = k} {now = now} so_far same past
    within =
    let e : k ≡ length steps = omega arith in
    let P : ℕ → Type 0 = λ n. DriveSoFar before steps done n now in
    let all = subst P e so_far in
    record {
      as_many = all.as_many;
      named = λ j s is on. (all.named j s (slice_get_within steps j s is) is on).0;
      journals = λ j s is on. (all.named j s (slice_get_within steps j s is) is on).1;
      sure = λ j s is needs. all.sure j s (slice_get_within steps j s is) is needs;
      sure_since = λ origins fits j s is needs.
          all.sure_since origins fits j s (slice_get_within steps j s is) is needs;
      least = all.least;
      most = all.most;
      whole = λ retried origins fits.
          let run : IsRetriedFrom steps done origins =
          record { same = same; retried = retried; fits = fits } in
          let given = retried_gives_all before.contents (length steps) refl run in
          let low =
          EachBelow-trans _ _ _ (EachBelow-from_same _ _ (EachSame-sym _ _ given))
          (all.least origins fits) in
          let high = all.most origins fits in
          record { count = low.count; each = λ r. Same-from_Below _ _ (low.each r) (high.each r) };
      refused = λ r there small.
          let counted : List Step → ℕ = λ ss.
          slice_index before.refused r + count_by (is_refused_take r) ss in
          all.refused r there small
          ∙ ap (λ ss. min (counted ss) (2 ^ 64 - 1)) (take_all (length steps) steps (omega arith));
    }
