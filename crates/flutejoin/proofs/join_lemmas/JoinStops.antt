-- join_to: which input stops the join, which devices failed, and what the join returns.
use Rattle.std.proofs.Common.{rules}
use Rattle.std.proofs.Common.{◌≡◌, ℕ, zero, suc, ◌+◌, ◌-◌, ◌*◌, ◌^◌, ◌<◌, ◌≤◌, Bool, true, false}
use Rattle.std.proofs.Common.{List, [], ◌∷◌, ◌++◌, length, count_by, Option, Some}
use Rattle.std.proofs.Common.{None, Result, inl, inr, refl, sym, ap, ◌∙◌, subst, arith}
use Rattle.std.specs.Prelude.{min, not, sum_by, slice_get, ◌⊎◌, IfErr}
use Rattle.std.specs.List.{flat_map, AllByRecursion}
use Rattle.std.proofs.lemmas.List.Sums.{count_by-le-length, sum_by-cons}
use Rattle.std.proofs.lemmas.Option.{slice_get_within}
use Rattle.flute_parts.specs.Facts.{Same}
use Rattle.flute_parts.specs.declared.fact.Fact.{Fact}
use Rattle.flute_parts.proofs.Public.{Over-below, Same-append, Same-itself, Same-sym, Same-trans}
use Rattle.flute_streams.specs.Chains.{beside, taken}
use Rattle.flute_journal.specs.JournalFraming.{journal_framing}
use Rattle.flute_journal.specs.Kinds.{HasKind, IsNeither}
use Rattle.flute_streams.specs.Scopes.{is_chosen}
use Rattle.flute_streams.specs.Streams.{Behaviour}
use Rattle.flute_streams.specs.FirstFaults.{FirstFault, TellBefore}
use Rattle.flute_streams.specs.StreamMerges.{IsWithinLimits, NoneFails, AppendsNoJournal}
use Rattle.flute_streams.specs.StreamMerges.{AppendsPartOf}
use Rattle.flute_journal.specs.Framing.{HasFault}
use Rattle.flute_streams.specs.declared.streams.either.Either.{Either}
use Rattle.flute_streams.specs.declared.streams.either.Either.TheVariants.{First, Second}
use Rattle.flute_journal.specs.declared.fault.LoadFault.{LoadFault}
use Rattle.flute_journal.specs.declared.fault.LoadFault.TheVariants as load
use Rattle.flute_journal.specs.declared.fault.ReadFault.{ReadFault}
use Rattle.flute_journal.specs.declared.fault.ReadFault.TheVariants.{Read}
use Rattle.flute_journal.specs.declared.kind.Kind.TheVariants as kinds
use Rattle.flute_streams.specs.declared.merge.all_streams.MergedJournal.{MergedJournal}
use Rattle.flute_streams.specs.declared.merge.streams_fault.InputFault.{InputFault}
use Rattle.flutejoin.specs.declared.command_fault.CommandFault.{CommandFault}
use Rattle.flutejoin.specs.declared.command_fault.CommandFault.TheVariants.{Input, Full}
use Rattle.flutejoin.specs.declared.command_fault.CommandFault.TheVariants.{OutOfMemory}
use Rattle.flutejoin.specs.declared.command_fault.CommandFault.TheVariants.{CannotWrite}
use Rattle.flutejoin.specs.declared.command_fault.CommandFault.TheVariants.{CannotPutAside}
use Rattle.flutejoin.specs.declared.join.join_counts.JoinCounts.{JoinCounts}
use Rattle.flutejoin.specs.declared.join.join_input.JoinInput.{JoinInput}
use Rattle.flutejoin.specs.InputStreams.{failures_of, NoneFailed, OneFailed}
use Rattle.flutejoin.specs.Joined.{Choice, facts_by, InputContent, of_journal, of_file}
use Rattle.flutejoin.specs.Joined.{content_facts, content_others, is_of_others, Tells, TellAll}
use Rattle.flutejoin.specs.JoinFaults.{IsValid, FirstInput, HasKnownKind, IsOfAKind, IsJournalAt}
use Rattle.flutejoin.specs.JoinFaults.{IsFileAt, JoinFails}
use Rattle.flutejoin.specs.JoinParts.{FileFails}
use Rattle.flutejoin.specs.Joining.{JoinsTo}
use Rattle.flutejoin.specs.JoinFaults.{JoinToFails, of_inputs, of_source, of_sink, of_aside}
use Rattle.flutejoin.specs.JoinFaults.{NamesOneOf, WantsAside}
use Rattle.flutejoin.specs.JoinParts.{InspectionFails, of_kind, of_file as of_a_file}
use Rattle.flutejoin.specs.JoinParts.{of_journal as of_a_journal}
use Rattle.flutejoin.specs.JoinParts.{SomeInspectionFails, IsInspected, AreInspected, IsReady}
use Rattle.flutejoin.specs.JoinParts.{JoinsInspected, NeverStop}
use Rattle.flutejoin.specs.Refused.{AreReasons, all_counts, is_refused}
use Rattle.flutejoin.specs.Limits.{IsOver}
use Rattle.flutejoin.specs.Status.{of_load}
use Rattle.flutejoin.proofs.Firsts.{at_place, first_at, first_with}
use Rattle.flutejoin.proofs.join_lemmas.Inspections.{all_known}
use Rattle.flutejoin.proofs.join_lemmas.JoinStreams.{all_taken, joins, are_ready, as_streams}
use Rattle.flutejoin.proofs.join_lemmas.JoinStreams.{valid_before, over_same}
use Rattle.flutejoin.proofs.join_lemmas.Receptions.{Below-left}

-- nothing was appended
pub nothing_appended : (w : Option (List ℕ)) → AppendsNoJournal w w
nothing_appended w = search rules

pub no_journal_of_part : {A E S : Type 0} (b : Behaviour S) (r : Result A E) (xs : List S)
    (u v : Option (List ℕ)) → IfErr r (λ _. AppendsPartOf b xs u v)
    → IfErr r (λ _. AppendsNoJournal u v)
no_journal_of_part x0 x1 x2 x3 x4 x5 = search rules

read_or_not : (f : ReadFault) → (f ≡ Read) ⊎ (f ≡ Read → ⊥)
read_or_not f = search rules

-- Which input stops.

-- what holds of each element holds of element k
one_of : {X : Type 0} (P : X → Type 0) (k : ℕ) (xs : List X) (x : X) → AllByRecursion P xs
    → slice_get xs k ≡ Some x → P x
one_of P k [] x h e = let within = slice_get_within [] k x e in absurd (omega arith)
one_of P zero (y ∷ xs) x h e = let same : y ≡ x = cc in rw (← same) h.0
one_of P (suc k) (y ∷ xs) x h e = one_of P k xs x h.1 e

module _ {R : Type 0} (unread : R → Option (List ℕ)) (buffered : R → List ℕ)
    (failures : R → ℕ) {S : Type 0}
    (b : Behaviour S) where
  abbrev all : Behaviour (Either S (JoinInput R))
  all = joins unread buffered failures b

  abbrev streams : List (JoinInput R) → List (Either S (JoinInput R))
  streams xs = as_streams unread buffered failures b xs

  -- the stream of an input, by its place
  record OneAt (xs : List (JoinInput R)) (n : ℕ) (s : Either S (JoinInput R)) : Type 0 where
    pub input : JoinInput R
    pub own : slice_get xs n ≡ Some input
    pub is : s ≡ Second input

  one_at : (xs : List (JoinInput R)) (n : ℕ) (s : Either S (JoinInput R))
      → slice_get (streams xs) n ≡ Some s → OneAt xs n s
  one_at [] n s e = let within = slice_get_within [] n s e in absurd (omega arith)
  one_at (x ∷ xs) zero s e = record { input = x; own = refl; is = cc }
  one_at (x ∷ xs) (suc n) s e = search (rules, one_at xs n s e)

  -- an input, with its place, that has this fault, while those before it contain facts
  pub record StopsIn (xs : List (JoinInput R)) (place : ℕ) (fault : LoadFault) : Type 0 where
    pub input : JoinInput R
    pub own : slice_get xs place ≡ Some input
    pub stops : all.stops (Second input) fault
    pub before : TellBefore all place (streams xs)

  -- the stream of something that is held, by its place
  held_at : (ws : List S) (xs : List (JoinInput R)) (k : ℕ) (s : Either S (JoinInput R))
      → k < length ws → slice_get (beside ws xs) k ≡ Some s
      → (w : S) × (slice_get ws k ≡ Some w) × (s ≡ First w)
  held_at [] xs k s near e = absurd (omega (arith, near))
  held_at (w ∷ ws) xs zero s near e = (w, refl, cc)
  held_at (w ∷ ws) xs (suc k) s near e = held_at ws xs k s (omega (arith, near)) e

  -- behind these are the inputs
  input_at : (ws : List S) (xs : List (JoinInput R)) (k n : ℕ) (s : Either S (JoinInput R))
      → k ≡ length ws + n → slice_get (beside ws xs) k ≡ Some s → OneAt xs n s
  input_at [] xs k n s at e =
      let same : k ≡ n = omega (arith, at) in
      one_at xs n s (subst (λ m. slice_get (streams xs) m ≡ Some s) same e)
  input_at (w ∷ ws) xs zero n s at e = absurd (omega (arith, at))
  input_at (w ∷ ws) xs (suc k) n s at e = input_at ws xs k n s (omega (arith, at)) e

  before_input : (ws : List S) (xs : List (JoinInput R)) (k n : ℕ) → k ≡ length ws + n
      → TellBefore all k (beside ws xs) → TellBefore all n (streams xs)
  before_input [] xs k n at t =
      let same : k ≡ n = omega (arith, at) in
      subst (λ m. TellBefore all m (streams xs)) same t
  before_input (w ∷ ws) xs zero n at t = absurd (omega (arith, at))
  before_input (w ∷ ws) xs (suc k) n at t = before_input ws xs k n (omega (arith, at)) t.1

  module _ (ws : List S) (xs : List (JoinInput R)) (few : length ws ≤ 64) (many : length xs ≤ 64)
      {now : List (Either S (JoinInput R))} (first : InputFault)
      (f : FirstFault all (beside (taken ws) (taken xs)) now first) where
    here : FirstFault all (beside ws xs) now first
    here = subst (λ l. FirstFault all (beside ws l) now first) (all_taken xs many)
        (subst (λ l. FirstFault all (beside l (taken xs)) now first) (all_taken ws few) f)

    -- what is held has this fault
    stops_held : first.number < length ws → (NeverStop b ws → ⊥)
    stops_held near never =
        let w = held_at ws xs first.number here.stopped.new near here.stopped.was in
        one_of (λ s. (fault : LoadFault) → b.stops s fault → ⊥) first.number ws w.0 never w.1
        first.fault (subst (λ s. all.stops s first.fault) w.2 here.stopped.stop.stops)

    -- or an input
    stops_in : (place : ℕ) → first.number ≡ length ws + place → StopsIn xs place first.fault
    stops_in place at =
        let o = input_at ws xs first.number place here.stopped.new at here.stopped.was in
        record {
          input = o.input;
          own = o.own;
          stops = subst (λ s. all.stops s first.fault) o.is here.stopped.stop.stops;
          before = before_input ws xs first.number place at here.before;
        }

  -- the fault is one of reading (LoadFault: Read)
  reads : (x : JoinInput R) (fault : LoadFault) → all.stops (Second x) fault
      → (f : ReadFault) × (fault ≡ load.Read f)
  reads x0 x1 x2 = search rules

  module _ {xs : List (JoinInput R)} {place : ℕ} {fault : LoadFault}
      (h : StopsIn xs place fault) where
    -- so it is not `OutOfMemory`, `CannotWrite` or `CannotPutAside`, and names an input
    no_memory : of_load (place + 1) fault ≡ OutOfMemory → ⊥
    no_memory e = search rules

    no_sink : of_load (place + 1) fault ≡ CannotWrite → ⊥
    no_sink e = search rules

    names_one : NamesOneOf (length xs) (of_load (place + 1) fault)
    names_one = search (rules, slice_get_within)

    no_aside : of_load (place + 1) fault ≡ CannotPutAside → ⊥
    no_aside e = search rules

    module _ (choice : Choice) (contents datagrams : List (List ℕ))
        (ready : are_ready unread buffered failures b xs)
        (inspected : AreInspected unread buffered choice xs contents datagrams) where
      -- the bytes of this input
      own_bytes : (xs : List (JoinInput R)) (contents datagrams : List (List ℕ)) (n : ℕ)
          (x : JoinInput R) → AreInspected unread buffered choice xs contents datagrams → slice_get
          xs n ≡ Some x → (bytes : List ℕ) × (slice_get contents n ≡ Some bytes) ×
          ((own : List (List ℕ)) × IsInspected unread buffered choice x bytes own)
      own_bytes [] contents datagrams n x h e = search rules
      own_bytes (y ∷ xs) [] datagrams n x h e = absurd h
      own_bytes (y ∷ xs) (bytes ∷ contents) datagrams zero x h e = search rules
      own_bytes (y ∷ xs) (bytes ∷ contents) datagrams (suc n) x h e =
          own_bytes xs contents h.1 n x h.4 e

      stops_one : (x : JoinInput R) (bytes : List ℕ) (own : List (List ℕ)) (f : ReadFault)
          → IsReady unread buffered failures x → IsInspected unread buffered choice x bytes own
          → all.stops (Second x) (load.Read f)
          → HasKind kinds.Journal bytes × HasFault journal_framing 16777216 (Some bytes) f
      stops_one other bytes own f r i s = search rules

      -- the join fails with the first input's fault (specs/JoinFaults)
      first_fails : JoinToFails choice contents (of_load (place + 1) fault)
      first_fails =
          let f = reads h.input fault h.stops in
          let own = own_bytes xs contents datagrams place h.input inspected h.own in
          let one =
          stops_one h.input own.0 own.2.0 f.0
          (one_of (IsReady unread buffered failures) place xs h.input ready h.own) own.2.1
          (rw (← f.1) h.stops) in
          let known = all_known choice unread buffered xs contents datagrams inspected in
          let before =
          valid_before unread buffered failures b choice place xs contents datagrams ready
          inspected
          h.before in
          let told : JoinToFails choice contents (Input (place + 1) f.0) =
          elim (read_or_not f.0) [
            | inl is ↦ of_source (place + 1) (cc)
                (inr (
                  known,
                  first_at IsValid (HasKind kinds.Journal) contents place own.0 own.1 before
                      one.0,
                ))
            | inr other ↦ of_inputs
                (inr (
                  known,
                  first_at IsValid (IsJournalAt f.0) contents place own.0 own.1 before
                      (one.0, one.1, other),
                ))
          ] in
          subst (λ g. JoinToFails choice contents (of_load (place + 1) g)) (sym f.1) told

  -- what a fault is with which a join stopped, whatever stream it was
  pub record StopFault (ws : List S) (xs : List (JoinInput R)) (fault : CommandFault) : Type 0
    where
      pub no_memory : fault ≡ OutOfMemory → ⊥
      pub no_sink : fault ≡ CannotWrite → ⊥
      pub no_aside : NeverStop b ws → fault ≡ CannotPutAside → ⊥
      pub names : NamesOneOf (length xs) fault
      pub fails : (choice : Choice) (contents datagrams : List (List ℕ))
          → are_ready unread buffered failures b xs
          → AreInspected unread buffered choice xs contents datagrams
          → NeverStop b ws ⊎ WantsAside contents → JoinToFails choice contents fault

  held_fault : (ws : List S) (xs : List (JoinInput R)) → (NeverStop b ws → ⊥)
      → StopFault ws xs CannotPutAside
  held_fault ws xs stops = record {
    no_memory = λ e. absurd cc;
    no_sink = λ e. absurd cc;
    no_aside = λ never _. stops never;
    names = tt;
    fails = λ choice contents datagrams _ _ why. elim why [
      | inl never ↦ absurd (stops never)
      | inr wants ↦ of_aside refl wants
    ];
  }

  input_fault : (ws : List S) (xs : List (JoinInput R)) {place : ℕ} {fault : LoadFault}
      → StopsIn xs place fault → StopFault ws xs (of_load (place + 1) fault)
  input_fault ws xs h = record {
    no_memory = no_memory h;
    no_sink = no_sink h;
    no_aside = λ _. no_aside h;
    names = names_one h;
    fails = λ choice contents datagrams ready inspected _.
        first_fails h choice contents datagrams ready inspected;
  }

  module _ (ws : List S) (xs : List (JoinInput R)) (few : length ws ≤ 64) (many : length xs ≤ 64)
      {now : List (Either S (JoinInput R))} (first : InputFault)
      (f : FirstFault all (beside (taken ws) (taken xs)) now first) where
    pub stopped_held : first.number < length ws → StopFault ws xs CannotPutAside
    stopped_held near = held_fault ws xs (stops_held ws xs few many first f near)

    pub stopped_in : (place : ℕ) → first.number ≡ length ws + place
        → StopFault ws xs (of_load (place + 1) first.fault)
    stopped_in place at = input_fault ws xs (stops_in ws xs few many first f place at)

  -- Which sources have failed, from which streams have.

  -- the source of one input, if its stream has not failed, and if it has
  fails_none : (x y : JoinInput R) → all.fails (Second x) (Second y) None
      → failures_of failures y ≡ failures_of failures x
  fails_none other another h = search rules

  fails_once : (x y : JoinInput R) → all.fails (Second x) (Second y) (Some (load.Read Read))
      → failures_of failures y ≡ failures_of failures x + 1
  fails_once other another h = search rules

  none_at : (xs ys : List (JoinInput R)) → NoneFails all (streams xs) (streams ys)
      → (k : ℕ) (x y : JoinInput R) → slice_get xs k ≡ Some x → slice_get ys k ≡ Some y
      → failures_of failures y ≡ failures_of failures x
  none_at [] ys h k x y was is = search rules
  none_at (z ∷ xs) [] h k x y was is = absurd h
  none_at (z ∷ xs) (v ∷ ys) h zero x y was is = search rules
  none_at (z ∷ xs) (v ∷ ys) h (suc k) x y was is = none_at xs ys h.1 k x y was is

  none_fails : (ws nows : List S) (xs ys : List (JoinInput R)) → length ys ≡ length xs
      → NoneFails all (beside ws xs) (beside nows ys) → NoneFails all (streams xs) (streams ys)
  none_fails [] [] xs ys same h = h
  none_fails (w ∷ ws) (v ∷ nows) xs ys same h = none_fails ws nows xs ys same h.1
  none_fails (w ∷ ws) [] xs [] same h = absurd h
  none_fails (w ∷ ws) [] xs (y ∷ ys) same h = absurd h.0
  none_fails [] (v ∷ nows) [] ys same h = absurd h
  none_fails [] (v ∷ nows) (x ∷ xs) ys same h = absurd h.0

  pub none_failed : (ws nows : List S) {xs ys : List (JoinInput R)} → length ws ≤ 64
      → length xs ≤ 64 → length ys ≡ length xs
      → NoneFails all (beside (taken ws) (taken xs)) (beside nows (taken ys))
      → NoneFailed failures xs ys
  none_failed ws nows {xs = xs} {ys = ys} few many same f =
      let all_ys = all_taken ys (omega (arith, many, same)) in
      let here = subst (λ l. NoneFails all (beside ws xs) (beside nows l)) all_ys
      (subst (λ l. NoneFails all (beside ws l) (beside nows (taken ys))) (all_taken xs many)
      (subst (λ l. NoneFails all (beside l (taken xs)) (beside nows (taken ys)))
      (all_taken ws few) f)) in
      record { as_many = same; each = none_at xs ys (none_fails ws nows xs ys same here) }

  -- one stream failed: only the source of that input did
  module _ (ws nows : List S) {xs ys : List (JoinInput R)} (few : length ws ≤ 64)
      (many : length xs ≤ 64) (same : length ys ≡ length xs) {first : InputFault}
      (held : length nows ≡ length ws) where
    pub read_failed : FirstFault all (beside (taken ws) (taken xs)) (beside nows (taken ys)) first
        → (place : ℕ) → first.number ≡ length ws + place → (number : ℕ)
        → of_load (place + 1) first.fault ≡ Input number Read → OneFailed failures number xs ys
    read_failed f place at number e =
        let h = here ws xs few many first
        (subst (λ l. FirstFault all (beside (taken ws) (taken xs)) (beside nows l) first)
        (all_taken ys (omega (arith, many, same))) f) in
        let stop = h.stopped.stop in
        let x = input_at ws xs first.number place h.stopped.new at h.stopped.was in
        let y = input_at nows ys first.number place stop.stream (omega (arith, at, held)) stop.is in
        let f = told_read first.fault (place + 1) e in
        record {
          place = place;
          number_is = f.1;
          before = x.input;
          after = y.input;
          was = x.own;
          is = y.own;
          failed =
              fails_once x.input y.input
              (rw (← f.0) (subst (λ z. all.fails (Second x.input) z (Some first.fault)) y.is
              (subst (λ z. all.fails z stop.stream (Some first.fault)) x.is stop.fails)));
        }
      where
        told_read : (f : LoadFault) (m : ℕ) → of_load m f ≡ Input number Read
            → (f ≡ load.Read Read) × (number ≡ m)
        told_read (load.Read f) m d = (let same : f ≡ Read = cc in ap load.Read same, cc)
        told_read load.Full m d = absurd cc
        told_read load.OutOfMemory m d = absurd cc

-- Two passes, one after the other.

pub none_failed_more : {R : Type 0} (failures : R → ℕ) (xs ys zs : List (JoinInput R))
    → NoneFailed failures xs ys → NoneFailed failures ys zs → NoneFailed failures xs zs
none_failed_more failures xs ys zs h k = record {
  as_many = cc;
  each = λ j x z was is. let y = at_place ys j
      (let within = slice_get_within xs j x was in omega arith) in k.each j
      y.0 z y.1 is ∙ h.each j x y.0 was y.1;
}

pub one_failed_more : {R : Type 0} (failures : R → ℕ) (number : ℕ) (xs ys zs : List (JoinInput R)) →
    NoneFailed failures xs ys → OneFailed failures number ys zs → OneFailed failures number xs zs
one_failed_more failures number xs ys zs h k =
    let x = at_place xs k.place
    (let within = slice_get_within ys k.place k.before k.was in omega arith) in record {
      place = k.place;
      number_is = k.number_is;
      before = x.0;
      after = k.after;
      was = x.1;
      is = k.is;
      failed = search rules;
    }

-- What the whole join returns.

file_not_held : {choice : Choice} (P : List ℕ → Type 0) (inputs : List (List ℕ))
    (number : ℕ) (first : FirstInput HasKnownKind P number inputs) (fault : CommandFault)
    → HasKind kinds.Datagrams first.bytes → FileFails number (Some first.bytes) fault
    → JoinToFails choice inputs fault
file_not_held {choice} P inputs number first (Input told f) kind h =
    elim (read_or_not f) [
      | inl is ↦ of_source number (cc)
          (inl (first_with HasKnownKind P (HasKind kinds.Datagrams) number inputs first kind))
      | inr other ↦
          let Q : CommandFault → Type 0 = λ g. JoinFails choice inputs g in
          of_inputs (subst Q (sym (ap (λ m. Input m f) h.0))
          (inl (first_with HasKnownKind P (IsFileAt f) number inputs first (kind, h.1, other))))
    ]
file_not_held {choice} P inputs number first OutOfMemory kind h =
    of_inputs (number, first_with HasKnownKind P IsOfAKind number inputs first (inr kind))
file_not_held {choice} P inputs number first CannotPutAside kind h = of_aside refl
    (number, first_with HasKnownKind P (HasKind kinds.Datagrams) number inputs first kind)
file_not_held {choice} P inputs number first fault kind h = absurd h

pub not_inspected : {choice : Choice} (inputs : List (List ℕ)) (fault : CommandFault)
    → SomeInspectionFails inputs fault → JoinToFails choice inputs fault
not_inspected {choice} inputs fault h = go h.1.here
  where
    go : InspectionFails h.0 h.1.bytes fault → JoinToFails choice inputs fault
    go (of_kind is neither) =
        let P : CommandFault → Type 0 = λ g. JoinToFails choice inputs g in
        rw is (of_inputs
        (first_with HasKnownKind (λ bytes. InspectionFails h.0 bytes fault)
        (λ bytes. IsNeither bytes) h.0 inputs h.1 neither))
    go (of_a_file kind fails) =
        file_not_held (λ bytes. InspectionFails h.0 bytes fault) inputs h.0 h.1 fault kind fails
    go (of_a_journal kind is) =
        let P : CommandFault → Type 0 = λ g. JoinToFails choice inputs g in
        rw is (of_inputs (
          h.0,
          first_with HasKnownKind
              (λ bytes. InspectionFails h.0 bytes fault) IsOfAKind h.0 inputs h.1 (inl kind),
        ))

-- inputs contain at most so many facts of other objects
others_few : (choice : Choice) (inputs : List (List ℕ)) (told : List InputContent)
    → TellAll inputs told → sum_by (content_others choice) told ≤ length inputs * 16777216
unfolding TellAll
others_few choice [] [] h = omega arith
others_few choice [] (x ∷ told) h = elim h [ ]
others_few choice (bytes ∷ inputs) [] h = elim h [ ]
others_few choice (bytes ∷ inputs) (x ∷ told) h =
    let rest = others_few choice inputs told h.1 in
    let all = sum_by-cons (content_others choice) x told in
    omega (arith, one x h.0)
  where
    one : (x : InputContent) → Tells bytes x → content_others choice x ≤ 16777216
    one (of_journal entries) k =
        let few = count_by-le-length (λ f. not (is_chosen choice.takes f)) entries in
        omega arith
    one (of_file datagrams) k =
        let few = count_by-le-length (is_of_others choice) datagrams in
        omega arith

-- what was counted: the entries that were written, and the datagrams of the files
pub record HasCounted (choice : Choice) (datagrams : List (List ℕ)) (passed : ℕ)
    (joined : MergedJournal) (counts : JoinCounts) : Type 0 where
  pub entries : counts.entries ≡ joined.entries
  pub datagrams_are : counts.datagrams ≡ length datagrams
  pub refused : counts.refused ≡ count_by is_refused datagrams
  pub reasons : AreReasons counts.reasons datagrams
  pub for_all : all_counts counts.reasons ≡ counts.refused
  pub of_files : ℕ
  pub of_files_are : of_files ≡ count_by (is_of_others choice) datagrams
  pub others : counts.others ≡ min (of_files + passed) (2 ^ 64 - 1)

-- the datagram files alone are over the limits
pub full_of_files : {choice : Choice} {inputs datagrams : List (List ℕ)} {store : List Fact}
    {passed : ℕ} {joined : MergedJournal} {w w' : Option (List ℕ)}
    → JoinsInspected choice inputs datagrams store passed joined w w'
    → IsOver choice.most (flat_map (facts_by choice) datagrams) → JoinToFails choice inputs Full
full_of_files {choice} {inputs} {datagrams} h over =
    let files = flat_map (facts_by choice) datagrams in
    let told = flat_map (content_facts choice) h.told in
    of_inputs (
      h.told,
      h.tell,
      over_same choice.most (files ++ h.entries) told (Same-sym told (files ++ h.entries) h.same)
          (Over-below files (files ++ h.entries) choice.most.sessions choice.most.objects
          choice.most.symbols (Below-left files h.entries) over),
    )

module _ {choice : Choice} {inputs datagrams : List (List ℕ)} {facts : List Fact} {passed : ℕ}
    {joined : MergedJournal} {w w' : Option (List ℕ)} where
  -- all datagram files are held
  module _ (h : JoinsInspected choice inputs datagrams facts passed joined w w')
      (held : Same facts (flat_map (facts_by choice) datagrams)) where
    abbrev told : List Fact
    told = flat_map (content_facts choice) h.told

    abbrev written : List Fact
    written = facts ++ h.entries

    same_told : Same told written
    same_told = search (rules, Same-trans, facts_by, Same-sym, Same-append, Same-itself) steps
        400000

    within_limits : (within : Bool) → joined.within ≡ within
        → IsWithinLimits choice.most.sessions choice.most.objects choice.most.symbols told within
    within_limits true e = λ over. subst
        (IsWithinLimits choice.most.sessions choice.most.objects choice.most.symbols written) e
        h.limits (over_same choice.most told written same_told over)
    within_limits false e = over_same choice.most written told (Same-sym told written same_told)
        (rw e at h.limits)

    -- the join's result: `Full`, `CannotWrite`, or what JoinsTo says
    pub full_together : joined.within ≡ false → JoinToFails choice inputs Full
    full_together over = of_inputs (h.told, h.tell, within_limits false over)

    pub not_written : joined.within ≡ true → JoinToFails choice inputs CannotWrite
    not_written within = of_sink refl
        (record { told = h.told; tell = h.tell; together = within_limits true within })

    pub joins_to : {counts : JoinCounts} → length inputs ≤ 64 → joined.within ≡ true → joined.cut ≡
        false → HasCounted choice datagrams passed joined counts → JoinsTo choice inputs counts w w'
    joins_to {counts = counts} few within whole counted =
        let puts = rw whole at h.puts in
        record {
          told = h.told;
          tell = h.tell;
          within = within_limits true within;
          writes = record {
            bytes = puts.bytes;
            journal = (
              puts.journal.0,
              record {
                valid = puts.journal.1.valid;
                rising = puts.journal.1.rising;
                same = Same-trans told written puts.journal.0 same_told puts.journal.1.same;
              },
              puts.journal.2,
              puts.journal.3,
            );
            entries = cc;
            appended = puts.appended;
          };
          datagrams = cc;
          refused = cc;
          reasons = rw h.datagrams_are counted.reasons;
          for_all = counted.for_all;
          others =
              let total = others_few choice inputs h.told h.tell in
              omega arith;
        }
