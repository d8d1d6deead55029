-- Replicas: journals that were loaded, or written and read back.
use Rattle.std.proofs.Common.{◌≡◌, ◌≢◌, ℕ, List, [], ◌++◌, refl, sym, ◌∙◌, ap, subst, arith, ◌+◌}
use Rattle.std.proofs.Common.{length, ◌⊎◌, inl, inr, Option, Some, Err}
use Rattle.std.specs.Prelude.{IfSome}
use Rattle.std.specs.Io.KnownBytes.{Appends}
use Rattle.std.proofs.Math.ListN.{set, length-set}
use Rattle.std.proofs.lemmas.List.{set-get_or}
use Rattle.flute_parts.specs.declared.fact.Fact.{Fact}
use Rattle.flute_parts.specs.Facts.{Same, Below}
use Rattle.flute_parts.proofs.Public.{Below-from_Same, Below-trans, Same-append, Same-itself}
use Rattle.flute_parts.proofs.Public.{Same-sym, Same-trans}
use Rattle.flute_journal.specs.declared.fault.ReadFault.{ReadFault}
use Rattle.flute_journal.specs.declared.fault.ReadFault.TheVariants as read
use Rattle.flute_journal.specs.declared.fault.LoadFault.{LoadFault}
use Rattle.flute_journal.specs.declared.fault.LoadFault.TheVariants as load
use Rattle.flute_journal.proofs.Public.{written_journal}
use Rattle.flute_journal.specs.Journal.{Journal, IsJournal}
use Rattle.flute_journal.specs.JournalFraming.{journal_framing}
use Rattle.flute_journal.specs.Framing.{Stops}
use Rattle.flute_journal.specs.Whole.{StopsAfter}
use Rattle.flute_journal.specs.Stores.{FailsToLoad, IsJournalOf, IsLoadFault}
use Rattle.flutejoin_replicas.specs.declared.steps.Step.TheVariants.{Load, Reopen}
use Rattle.flutejoin_replicas.specs.declared.steps.StepFault.{StepFault}
use Rattle.flutejoin_replicas.specs.declared.steps.StepFault.TheVariants as step
use Rattle.flutejoin_replicas.specs.declared.steps.StepFault.TheVariants.{Full, OutOfMemory}
use Rattle.flutejoin.specs.declared.limits.TheConstants.{MAX_ENTRIES}
use Rattle.flutejoin_replicas.specs.Faults.{fault_of_read, fault_of_load}
use Rattle.flutejoin_replicas.specs.Held.{Held, Capacity, IsOver}
use Rattle.flutejoin_replicas.specs.Steps.{held_by, FitsStep, EachSame}
use Rattle.flutejoin_replicas.specs.Outcome.{IsDone, IsRefused, IsLonger}
use Rattle.flutejoin.proofs.Public.{IsJournal-from_within, Same-from_journals}
use Rattle.flutejoin_replicas.proofs.Receptions.{IsOver-below, too_many, not_longer, begins_below}
use Rattle.flutejoin_replicas.proofs.Places.{EachSame-itself, EachSame-set}
use Rattle.flutejoin_replicas.proofs.Outcomes.{IsChangedAt, given_done, between_refused, over_given}
use Rattle.flutejoin_replicas.proofs.Outcomes.{unchanged_refused, others_at, content_at}

-- a `Load` gives what its journal was written of, whichever list that is taken for
origin_same : (bs : List ℕ) (replica : ℕ) (F origin : List Fact) → IsJournal bs F
    → FitsStep (Load replica bs) origin → Same F origin
origin_same bs replica F origin journal (inl fits) = Same-from_journals bs F origin journal fits
origin_same bs replica F origin journal (inr none) = absurd (none.0 F journal)

-- what was loaded is what its journal was written of
given_same : (i : ℕ) (old loaded : List Fact) (bs : List ℕ) → IsJournalOf MAX_ENTRIES bs loaded
    → (origin : List Fact) → FitsStep (Load i bs) origin → Same (old ++ loaded) (old ++ origin)
given_same i old loaded bs read origin fits =
    let F = read.0 in
    Same-append old old loaded origin (Same-itself old)
    (Same-trans loaded F origin read.2
    (origin_same bs i F origin (IsJournal-from_within bs F read.1) fits))

-- a `Load` that was done
pub loaded_done : (limit : Capacity) {before now : Held} {i : ℕ} {old content : List Fact}
    (loaded : List Fact) {bs : List ℕ} → IsChangedAt before now i old content
    → IsJournalOf MAX_ENTRIES bs loaded → Same content (old ++ loaded) → ¬ IsOver content limit
    → IsDone limit before (Load i bs) now
loaded_done limit {i = i} {old = old} {content = content} loaded {bs = bs} h read joined inside =
    given_done limit (Load i bs) h
    (record {
      named = λ k. k;
      journal = (read.0, read.1);
      readable = tt;
      accepted = λ r. refl;
    })
    (λ origin fits. (
      origin,
      refl,
      Same-trans content (old ++ loaded) (old ++ origin) joined
          (given_same i old loaded bs read origin fits),
    ))
    inside

-- a `Load` whose store was not taken in whole
pub loaded_refused : (limit : Capacity) {before now : Held} {i : ℕ} {old content : List Fact}
    (loaded : List Fact) {bs : List ℕ} (fault : StepFault)
    → IsChangedAt before now i old content → IsJournalOf MAX_ENTRIES bs loaded
    → Below old content → Below content (old ++ loaded)
    → ((fault ≡ Full) × IsOver (old ++ loaded) limit) ⊎ (fault ≡ OutOfMemory)
    → IsRefused limit before (Load i bs) now fault
loaded_refused limit {before = before} {now = now} {i = i} {old = old} {content = content} loaded
    {bs = bs} fault h read below above cause =
    let whole : (origin : List Fact) → FitsStep (Load i bs) origin
    → Below (old ++ loaded) (old ++ origin) = λ origin fits.
    Below-from_Same (old ++ loaded) (old ++ origin)
    (given_same i old loaded bs read origin fits) in
    let P : StepFault → Type 0 = λ f. IsRefused limit before (Load i bs) now f in
    elim cause [
      | inl full ↦
          subst P (sym full.0)
          (between_refused limit (Load i bs) Full h (λ e. e)
          (λ origin fits.
          let F = old ++ origin in
          let over = IsOver-below (old ++ loaded) F limit (whole origin fits) full.1 in
          inl (over_given limit before.contents i old origin h.within h.held over))
          below
          (λ origin fits. (
            origin,
            refl,
            Below-trans content (old ++ loaded) (old ++ origin) above (whole origin fits),
          )))
      | inr memory ↦
          subst P (sym memory)
          (between_refused limit (Load i bs) OutOfMemory h (λ e. e) (λ origin _. tt) below
          (λ origin fits. (
            origin,
            refl,
            Below-trans content (old ++ loaded) (old ++ origin) above (whole origin fits),
          )))
    ]

-- a fault of a reader of known bytes that does not fail: no memory, or the fault of the bytes
abbrev TellsFault : Capacity → List ℕ → ReadFault → Type 0
TellsFault limit bs f =
    (fault_of_read f ≡ OutOfMemory) ⊎
    ((fault_of_read f ≡ step.Journal f) ×
    ((es : List Fact) × Stops journal_framing bs MAX_ENTRIES es f × ¬ IsOver es limit))

tells_fault : (limit : Capacity) (bs : List ℕ) (left : Option (List ℕ)) (es : List Fact)
    (f : ReadFault) → ¬ IsOver es limit → StopsAfter MAX_ENTRIES es (Some bs) left f → f ≢ read.Read
    → TellsFault limit bs f
tells_fault limit bs left es read.Read inside h other = absurd (other refl)
tells_fault limit bs left es read.OutOfMemory inside h other = inl refl
tells_fault limit bs left es (read.Information i) inside h other = inr (refl, (es, h, inside))
tells_fault limit bs left es read.Magic inside h other = inr (refl, (es, h, inside))
tells_fault limit bs left es read.Version inside h other = inr (refl, (es, h, inside))
tells_fault limit bs left es read.Kind inside h other = inr (refl, (es, h, inside))
tells_fault limit bs left es read.Key inside h other = inr (refl, (es, h, inside))
tells_fault limit bs left es read.EmptySymbol inside h other = inr (refl, (es, h, inside))
tells_fault limit bs left es read.Order inside h other = inr (refl, (es, h, inside))
tells_fault limit bs left es read.Count inside h other = inr (refl, (es, h, inside))
tells_fault limit bs left es read.Cut inside h other = inr (refl, (es, h, inside))
tells_fault limit bs left es read.TooMany inside h other = inr (refl, (es, h, inside))
tells_fault limit bs left es read.Trailing inside h other = inr (refl, (es, h, inside))

-- a reader of known bytes has this fault, and did not fail
pub record HasFault (limit : Capacity) (bs : List ℕ) (left : Option (List ℕ)) (fault : LoadFault)
    : Type 0 where
  pub cause : IsLoadFault limit.sessions limit.objects limit.symbols MAX_ENTRIES (Some bs) left
      fault
  pub other : fault ≢ load.Read read.Read

-- a `Load` whose journal was not read
pub not_loaded : (limit : Capacity) (before : Held) (i : ℕ) {bs : List ℕ} {left : Option (List ℕ)}
    (fault : LoadFault) → HasFault limit bs left fault
    → IsRefused limit before (Load i bs) before (fault_of_load fault)
not_loaded limit before i {bs = bs} load.Full has =
    unchanged_refused limit before (Load i bs) before Full refl (λ origin _. inr has.cause)
not_loaded limit before i {bs = bs} load.OutOfMemory has =
    unchanged_refused limit before (Load i bs) before OutOfMemory refl (λ origin _. tt)
not_loaded limit before i {bs = bs} {left = left} (load.Read f) has =
    let P : StepFault → Type 0 = λ g. IsRefused limit before (Load i bs) before g in
    let cause = has.cause in
    elim (tells_fault limit bs left cause.0 f cause.1 cause.2 (λ e. has.other (ap load.Read e))) [
      | inl memory ↦ subst P (sym memory)
          (unchanged_refused limit before (Load i bs) before OutOfMemory refl (λ origin _. tt))
      | inr at ↦ subst P (sym at.0)
          (unchanged_refused limit before (Load i bs) before (step.Journal f) refl
          (λ origin _. at.1))
    ]

-- a `Reopen` that was done
pub reopened_done : (limit : Capacity) {before now : Held} {i : ℕ} {old content : List Fact}
    (bs : List ℕ) → IsChangedAt before now i old content → IsJournal bs old
    → IsJournalOf MAX_ENTRIES bs content
    → ¬ IsOver content limit → IsDone limit before (Reopen i) now
reopened_done limit {before = before} {now = now} {i = i} {old = old} {content = content} bs h
    written read inside =
    let F = read.0 in
    let whole : Same old F =
    Same-from_journals bs old F written (IsJournal-from_within bs F read.1) in
    let again : Same old content = Same-trans old F content whole (Same-sym content F read.2) in
    let stays : set before.contents i old ≡ before.contents =
    ap (set before.contents i) (sym h.held) ∙ set-get_or before.contents i [] in
    record {
      named = h.within;
      as_many = ap length h.contents ∙ length-set before.contents i content;
      journal = tt;
      readable = λ many.
          let P : List Fact → Type 0 = λ G. IsLonger G MAX_ENTRIES in
          not_longer old F bs read.1 whole (subst P h.held many);
      content = λ origin _.
          let P : List (List Fact) → Type 0 = λ A. EachSame A now.contents in
          subst P stays (rw h.contents
          (EachSame-set before.contents before.contents i old content h.within
          (EachSame-itself before.contents) again));
      others = others_at before now i old content h;
      refused = λ r. rw h.refused refl;
      within = λ over. let P : List Fact → Type 0 = λ G. IsOver G limit in
          inside (subst P (content_at before now i old content h) over);
    }

-- a `Reopen` whose journal was not read back
pub not_reopened : (limit : Capacity) (before : Held) (i : ℕ) {old : List Fact} {bs : List ℕ}
    {left : Option (List ℕ)} (fault : LoadFault) → held_by before.contents i ≡ old
    → IsJournal bs old → HasFault limit bs left fault
    → IsRefused limit before (Reopen i) before (fault_of_load fault)
not_reopened limit before i {old = old} {bs = bs} load.Full held written has =
    let cause = has.cause in
    unchanged_refused limit before (Reopen i) before Full refl
    (λ origin _. inl (rw held
    (IsOver-below cause.0 old limit (begins_below bs old cause.0 written cause.1) cause.2)))
not_reopened limit before i load.OutOfMemory held written has =
    unchanged_refused limit before (Reopen i) before OutOfMemory refl (λ origin _. tt)
not_reopened limit before i {old = old} {bs = bs} {left = left} (load.Read f) held written has =
    let P : StepFault → Type 0 = λ g. IsRefused limit before (Reopen i) before g in
    let cause = has.cause in
    elim (tells_fault limit bs left cause.0 f cause.1 cause.2 (λ e. has.other (ap load.Read e))) [
      | inl memory ↦ subst P (sym memory)
          (unchanged_refused limit before (Reopen i) before OutOfMemory refl (λ origin _. tt))
      | inr at ↦ subst P (sym at.0)
          (unchanged_refused limit before (Reopen i) before (step.Journal f) refl (λ origin _.
          let many = too_many bs old at.1.0 f written at.1.1 in (many.0, rw held many.1)))
    ]

-- the bytes that a source is known to have
pub journal_known : (old : Option (List ℕ)) (bs cs : List ℕ) (F : List Fact) → old ≡ Some bs
    → bs ≡ cs → IfSome old (λ bytes. IsJournalOf MAX_ENTRIES bytes F) → IsJournalOf MAX_ENTRIES cs F
journal_known old bs cs F known is h =
    let P : List ℕ → Type 0 = λ bytes. IsJournalOf MAX_ENTRIES bytes F in
    let Q : Option (List ℕ) → Type 0 = λ o. IfSome o P in
    subst P is (subst Q known h)

pub fault_known : (limit : Capacity) {old : Option (List ℕ)} (left : Option (List ℕ))
    {bs cs : List ℕ} (f : LoadFault) → old ≡ Some bs → bs ≡ cs
    → IsLoadFault limit.sessions limit.objects limit.symbols MAX_ENTRIES old left f
    → f ≢ load.Read read.Read → HasFault limit cs left f
fault_known limit left f known is h other =
    let Q : Option (List ℕ) → Type 0 =
    λ o. IsLoadFault limit.sessions limit.objects limit.symbols MAX_ENTRIES o left f in
    record { cause = subst Q (known ∙ ap Some is) h; other = other }

-- a source that counts no failure did not fail
pub did_not_fail : (T : Type 0) (f : LoadFault) (n : ℕ) → FailsToLoad {T = T} n n (Err f)
    → f ≢ load.Read read.Read
did_not_fail T f n e is =
    let P : LoadFault → Type 0 = λ g. FailsToLoad {T = T} n n (Err g) in
    let one : n ≡ n + 1 = subst P is e in
    omega (arith, one)

-- the bytes that a sink took since it was new
pub written_whole : (old new : Option (List ℕ)) (bs cs : List ℕ) → old ≡ Some [] → new ≡ Some cs
    → Appends old new bs → cs ≡ bs
written_whole old new bs cs first last h =
    let P : Option (List ℕ) → Type 0 = λ o. Appends o new bs in
    let Q : Option (List ℕ) → Type 0 = λ o. Appends (Some []) o bs in
    subst Q last (subst P first h)

-- the journal of what a replica holds, as it was written
pub journal_written : (bs cs : List ℕ) (F G : List Fact) → cs ≡ bs → F ≡ G → Journal bs F
    → IsJournal cs G
journal_written bs cs F G is same journal =
    let P : List ℕ → Type 0 = λ xs. Journal xs G in
    let Q : List Fact → Type 0 = λ H. Journal bs H in
    written_journal cs G (subst P (sym is) (subst Q same journal))
