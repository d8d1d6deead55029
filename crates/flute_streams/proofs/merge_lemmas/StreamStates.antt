-- The state of a merge of streams between two turns, and how the merge ends (merge_into).
use Rattle.flute_streams.specs.Lowest.{AreSpelled}
use Rattle.flute_streams.proofs.Common.{Address, AllByRecursion, Appends, Appends-nil}
use Rattle.flute_streams.proofs.Common.{Appends-trans, AppendsPart, AppendsPartOf, AreNew}
use Rattle.flute_streams.proofs.Common.{Behaviour, Below-from_Same, Bool, CanGoOn, Collects, Counts}
use Rattle.flute_streams.proofs.Common.{EachSince, EndsMerged, Fact, GoOnAt, Input, InputFault}
use Rattle.flute_streams.proofs.Common.{IsCounted, IsCutAfter, IsFact, IsRising, IsSized, IsTrue}
use Rattle.flute_streams.proofs.Common.{IsWithinLimits, Journal, List, Lowest, NamesInput, None}
use Rattle.flute_streams.proofs.Common.{NoneFails, OneFails, Option, Over, Over-below, PutsBytes}
use Rattle.flute_streams.proofs.Common.{ReadsAhead, Same, Same-append, Same-sym}
use Rattle.flute_streams.proofs.Common.{Same-trans, Some, StopsIn, StreamsFault, Tally, Write}
use Rattle.flute_streams.proofs.Common.{Written, [], address, address_same, all_of, ap}
use Rattle.flute_streams.proofs.Common.{append_assoc, arith, cases_Bool, cut_end, cut_entry}
use Rattle.flute_streams.proofs.Common.{cut_header, end, entry, fact_at, fact_at-elsewhere}
use Rattle.flute_streams.proofs.Common.{fact_at-nil, false, without_end, header, heads, inl, inr}
use Rattle.flute_streams.proofs.Common.{is_after, last_of, length, length-append, most_of}
use Rattle.flute_streams.proofs.Common.{none-some, refl, rising_unique, rules}
use Rattle.flute_streams.proofs.Common.{spelling, sym, true, written_up_to, ℕ, ◌++◌}
use Rattle.flute_streams.proofs.Common.{◌+◌}
use Rattle.flute_streams.proofs.Common.{◌<◌, ◌^◌, ◌∙◌, ◌∷◌, ◌≡◌}
use Rattle.flute_streams.proofs.Common.{◌≤◌}
use Rattle.flute_journal.proofs.Public.{Below-more}
use Rattle.flute_journal.proofs.Public.{rises_more}
use Rattle.flute_journal.proofs.Public.{all_append, all_more}
use Rattle.flute_journal.proofs.Public.{without_end-snoc, written-snoc}
use Rattle.flute_journal.proofs.Public.{last_of-snoc, rising-rises, rises-rising}
use Rattle.flute_journal.proofs.Public.{put_first, written-more, written-whole}
use Rattle.flute_journal.proofs.Public.{written-part}
use Rattle.flute_streams.proofs.merge_lemmas.StreamTurns.{Run, starts, nows, givens, givens_at}
use Rattle.flute_streams.proofs.merge_lemmas.StreamTurns.{Went, Stays, Turned, turn, new_runs}
use Rattle.flute_streams.proofs.merge_lemmas.StreamTurns.{new_starts, new_nows, new_givens}
use Rattle.flute_streams.proofs.merge_lemmas.StreamTurns.{new_stays, went_stays, given_same}
use Rattle.flute_streams.proofs.merge_lemmas.StreamTurns.{given_length, fewer_all}
use Rattle.flute_streams.proofs.merge_lemmas.StreamTurns.{taken_same, taken_some, lowest-sized}
use Rattle.flute_streams.proofs.merge_lemmas.StreamStops.{reads_now, none_fails, ended_whole}
use Rattle.flute_streams.proofs.merge_lemmas.StreamStops.{StoppedAll, stopped_all, short_header}
use Rattle.flute_streams.proofs.merge_lemmas.StreamStops.{HoldFrom, short_entry, short_end}
use Rattle.flute_streams.proofs.merge_lemmas.StreamStops.{told_whole}

-- what holds of the addresses of all facts holds of an address that has a value
named_all : (P : Address → Type 0) (fs : List Fact) (a : Address) (g : Fact)
    → AllByRecursion (λ f. P (address f)) fs → fact_at fs a ≡ Some g → P a
named_all P [] a g h e = absurd (none-some g (sym (fact_at-nil a) ∙ e))
named_all P (f ∷ fs) a g h e = elim (cases_Bool _) [
  | inl s ↦ rw (← address_same (address f) a s) h.0
  | inr s ↦ named_all P fs a g h.1 (sym (fact_at-elsewhere f fs a s) ∙ e)
]

-- The limits of a store, and the tally that counts against them.

pub over_more : (F : List Fact) (f : Fact) (s o y : ℕ) → Over F s o y → Over (F ++ f ∷ []) s o y
over_more F f s o y h = search (rules, Over-below, Below-more)

pub counted : (s o y : ℕ) (tally : Tally s o y) (b : Bool) (F : List Fact) →
    (b ≡ true → Counts s o y F tally) → (b ≡ false → Over F s o y) → IsCounted s o y tally b F
counted s o y tally true F h k = h refl
counted s o y tally false F h k = k refl

within_same : {s o y : ℕ} (tally : Tally s o y) (within : Bool) {F : List Fact} (G : List Fact)
    → Same F G → IsCounted s o y tally within G → IsWithinLimits s o y F within
within_same {s} {o} {y} tally true {F} G e h =
    λ k. h.within (Over-below F G s o y (Below-from_Same F G e) k)
within_same {s} {o} {y} tally false {F} G e h =
    Over-below G F s o y (Below-from_Same G F (Same-sym F G e)) h

module _ {S : Type 0} (b : Behaviour S) where
  -- what is said of a merge that stopped
  pub record Stopping (patient : Bool) (old new : List S) (w w' : Option (List ℕ))
      (fault : StreamsFault) : Type 0 where
    pub short : AppendsPartOf b old w w'
    pub reads_ahead : patient ≡ false → ReadsAhead b old new w w' fault
    pub names : NamesInput b old fault
    pub can_go_on : CanGoOn b old new fault

  -- a write failed after these entries
  at_write : {patient : Bool} {old now : List S} {w w' : Option (List ℕ)} (read : List (List Fact))
      {entries : List Fact} {bytes : List ℕ} → AppendsPartOf b old w w' → EachSince b.reads old now
      read → Collects (all_of read) entries → Appends w w' bytes → IsCutAfter entries bytes →
      Stopping patient old now w w' Write
  at_write = search rules

  -- an input stopped after these entries
  at_input : {patient : Bool} {p : Option Address} {runs : List (Run S)} {new : List S}
      {w w' : Option (List ℕ)} {fault : InputFault} {entries : List Fact} → StoppedAll b p
      fault.number fault.fault runs new → AppendsPartOf b (starts runs) w w' → Collects
      (all_of (givens_at b p runs)) entries →
      (patient ≡ false → Appends w w' (written_up_to entries)) → Stopping patient (starts runs) new
      w w' (Input fault) × OneFails b fault.number fault.fault (starts runs) new
  at_input = grind arith

  none_collects : Collects [] []
  none_collects = search rules

  -- it stopped before the header was written

  pub stop_first : (patient : Bool) (old new : List S) (w : Option (List ℕ)) (fault : InputFault)
      → AreNew b old → StopsIn b None old new fault
      → Stopping patient old new w w (Input fault) × OneFails b fault.number fault.fault old new
  stop_first patient old new w fault n h =
      let s = stopped_all b None fault.number fault.fault (new_runs b old) new (new_stays b old n)
      (rw (new_nows b old) h) in
      rw (← new_starts b old) (at_input {entries = []} s (short_header b [] header (Appends-nil w) refl)
      (rw (new_givens b old) none_collects) (λ p. Appends-nil w))

  -- What the streams gave was appended, merged. What they hold is above it.
  pub record State (failed : Bool) (Also : List Fact → Type 0) (old now : List S)
      (w w' : Option (List ℕ)) (count : ℕ) : Type 0 where
    pub runs : List (Run S)
    pub starts_are : starts runs ≡ old
    pub nows_are : nows runs ≡ now
    pub joined : List Fact
    pub went : AllByRecursion (Went b (last_of None joined)) runs
    pub collects : Collects (all_of (givens runs)) joined
    pub few : length joined ≤ length (all_of (givens runs))
    pub written : Written failed w w' (without_end joined)
    pub count_is : count ≡ length joined
    pub also : Also joined

  first_turn : (old now : List S) → AreNew b old → GoOnAt b None old now
      → Turned b None (new_runs b old) now
  first_turn old now n h = turn b None (new_runs b old) now (new_stays b old n)
      (rw (new_nows b old) h)

  pub state_start : {failed : Bool} {Also : List Fact → Type 0} {old now : List S}
      {w w' : Option (List ℕ)} → Also [] → AreNew b old → GoOnAt b None old now → Written failed w
      w' header → State failed Also old now w w' 0
  state_start {old} {now} also n h a =
      let t = first_turn _ _ n h in
      let e = ap all_of t.givens_are ∙ new_givens b old in
      record {
        runs = t.next;
        starts_are = t.starts_are ∙ new_starts b old;
        nows_are = t.nows_are;
        joined = [];
        went = t.went;
        collects = search rules;
        few = omega arith;
        written = a;
        count_is = refl;
        also = also;
      }

  stays : (place : Option Address) (runs : List (Run S)) → AllByRecursion (Went b place) runs
      → AllByRecursion (Stays b place) runs
  stays place [] w = tt
  stays place (r ∷ runs) w = grind (arith, stays place runs w.1)

  -- what holds of streams by their runs
  of_runs : (P : List S → List S → Type 0) (runs : List (Run S)) {old now : List S}
      → starts runs ≡ old → nows runs ≡ now → P (starts runs) (nows runs) → P old now
  of_runs P runs e f h = rw (← e, ← f) h

  -- a failed write of the header
  pub stop_header : (patient : Bool) (old now : List S) {w w' : Option (List ℕ)} → AreNew b old
      → GoOnAt b None old now → AppendsPart w w' header
      → Stopping patient old now w w' Write × NoneFails b old now
  stop_header patient old now {w} {w'} n h a =
      let t = first_turn old now n h in
      let e = ap all_of t.givens_are ∙ new_givens b old in
      let s = stays None t.next t.went in
      of_runs (λ l m. Stopping patient l m w w' Write × NoneFails b l m) t.next
      (t.starts_are ∙ new_starts b old) t.nows_are (
        at_write (givens t.next)
            (short_header b a.part a.rest a.appended (sym a.whole)) (reads_now b None t.next s)
            (rw e none_collects) a.appended (cut_header refl (a.rest, a.cut, sym a.whole)),
        none_fails b
            None t.next s,
      )

  heads-above : (place : Option Address) (runs : List (Run S)) → AllByRecursion (Went b place) runs
      → AllByRecursion (λ f. IsTrue (is_after place (address f))) (heads b (nows runs))
  heads-above place [] w = tt
  heads-above place (r ∷ runs) w = grind (arith, all_append, nows, heads-above place runs w.1)

  heads-sized : (place : Option Address) (runs : List (Run S))
      → AllByRecursion (Went b place) runs → AllByRecursion IsSized (heads b (nows runs))
  heads-sized place [] w = tt
  heads-sized place (r ∷ runs) w = grind (arith, all_append, nows, heads-sized place runs w.1)

  streams-spelled : (place : Option Address) (runs : List (Run S))
      → AllByRecursion (Went b place) runs → AreSpelled b (nows runs)
  streams-spelled place [] w = tt
  streams-spelled place (r ∷ runs) w = (w.0.gave.spelled, streams-spelled place runs w.1)

  -- as many facts as were given, and may still be
  most-given : (place : Option Address) (runs : List (Run S)) → AllByRecursion (Went b place) runs
      → most_of b (nows runs) + length (all_of (givens runs)) ≤ most_of b (starts runs)
  most-given place [] w = omega arith
  most-given place (r ∷ runs) w = omega
      (arith, w.0.fewer, most-given place runs w.1, length-append r.given (all_of (givens runs)))

  module _ {failed : Bool} {Also : List Fact → Type 0} {old now : List S}
      {w w' : Option (List ℕ)} {count : ℕ} (state : State failed Also old now w w' count) where
    abbrev last : Option Address
    last = last_of None state.joined

    -- all was written where the sink has not failed
    whole_yet : failed ≡ false → Appends w w' (without_end state.joined)
    whole_yet = search rules

    pub few-joined : count ≤ most_of b old
    few-joined = search (rules, most-given)

    -- the bytes of what is held, where they lie in memory
    pub spelled_now : AreSpelled b now
    spelled_now = search (rules, streams-spelled)

    moved : (P : List S → List S → Type 0) → P (starts state.runs) (nows state.runs) → P old now
    moved P h = search rules

    stopped_here : (patient : Bool) {w'' : Option (List ℕ)} {bytes : List ℕ} → Appends w w'' bytes →
        IsCutAfter state.joined bytes → AppendsPartOf b (starts state.runs) w w'' → Stopping patient
        old now w w'' Write
    stopped_here patient a begins short =
        grind (arith, moved, at_write, starts, nows, givens, reads_now, stays)

    pub no_failure : NoneFails b old now
    no_failure = search (rules, none_fails, stays)

    -- A turn at the lowest address g.
    module _ {g : Fact} (lowest : Lowest (heads b now) g) where
      low : Lowest (heads b (nows state.runs)) g
      low = search rules

      pub sized-lowest : IsSized g
      sized-lowest = search (rules, lowest-sized, heads, heads-sized)

      above : IsTrue (is_after last (address g))
      above = named_all (λ a. IsTrue (is_after last a)) (heads b (nows state.runs)) (address g) g
          (heads-above last state.runs state.went) low.comes

      -- the entries that were written, and g after them, rise
      rising_next : IsRising (state.joined ++ g ∷ [])
      rising_next = rises-rising _ (rises_more _ _ g (rising-rises _ state.collects.rising) above)

      from_next : HoldFrom b last (address g) state.runs
      from_next = search rules

      next_stays : AllByRecursion (Stays b (Some (address g))) state.runs
      next_stays = search (rules, went_stays)

      module _ (valid : IsFact g) where
        collects_next : Collects (all_of (givens_at b (Some (address g)) state.runs))
            (state.joined ++ g ∷ [])
        collects_next = record {
          valid = all_more IsFact state.joined g state.collects.valid valid;
          rising = rising_next;
          same = Same-trans _ _ _ (given_same b (address g) state.runs) (Same-append _ _ _ _
              state.collects.same (taken_same (heads b (nows state.runs)) g low.comes));
        }

        next_bytes : (next : Bool) (w'' : Option (List ℕ)) → PutsBytes failed next w' w'' (entry g)
            → Written next w w'' (without_end (state.joined ++ g ∷ []))
        next_bytes next w'' a = rw (← without_end-snoc _ g)
            (written-more _ _ w w' _ _ _ (state.written, a))

        -- the state after this turn
        pub state_turn : (next : Bool) (Next : List Fact → Type 0) (new : List S)
            (w'' : Option (List ℕ))
            → ((F : List Fact) → IsRising (F ++ g ∷ []) → Also F → Next (F ++ g ∷ []))
            → PutsBytes failed next w' w'' (entry g) → GoOnAt b (Some (address g)) now new
            → State next Next old new w w'' (count + 1)
        state_turn next Next new w'' k a h =
            let t = turn b (Some (address g)) state.runs new next_stays (rw state.nows_are h) in
            let given = ap (λ l. length (all_of l)) t.givens_are in
            record {
              runs = t.next;
              starts_are = t.starts_are ∙ state.starts_are;
              nows_are = t.nows_are;
              joined = state.joined ++ g ∷ [];
              went = rw (last_of-snoc None state.joined g) t.went;
              collects = rw t.givens_are collects_next;
              few = omega (
                arith,
                given,
                given_length b (address g) state.runs,
                taken_some
                    (heads b (nows state.runs)) g low.comes,
                length-append state.joined (g ∷ []),
                state.few,
              );
              written = next_bytes next w'' a;
              count_is = omega (arith, length-append state.joined (g ∷ []), state.count_is);
              also = k state.joined rising_next state.also;
            }

        -- the write of its entry failed, or after it an input stopped
        pub stop_entry : (patient : Bool) {w'' : Option (List ℕ)} → failed ≡ false
            → AppendsPart w' w'' (entry g) → Stopping patient old now w w'' Write
        stop_entry patient {w''} good a =
            let bs : List ℕ = without_end state.joined ++ a.part in
            let appended : Appends w w'' bs = Appends-trans w w' w'' (without_end state.joined)
            a.part (whole_yet good) a.appended in stopped_here patient appended
            (cut_entry g valid a.part (a.rest, a.cut, sym a.whole) refl) (short_entry b state.joined
            g bs a.rest from_next collects_next appended (append_assoc (without_end state.joined)
            a.part a.rest ∙ ap (λ l. without_end state.joined ++ l) (sym a.whole) ∙
            without_end-snoc state.joined g))

        pub stop_input : (patient next : Bool) (new : List S) (w'' : Option (List ℕ))
            (fault : InputFault) → PutsBytes failed next w' w'' (entry g) →
            (patient ≡ false → next ≡ false) → StopsIn b (Some (address g)) now new fault → Stopping
            patient old new w w'' (Input fault) × OneFails b fault.number fault.fault old new
        stop_input patient next new w'' fault a eager h =
            let s : StoppedAll b (Some (address g)) fault.number fault.fault state.runs new = grind
            (arith, stopped_all, next_stays) in
            let bytes = next_bytes next w'' a in
            let part = written-part next w w'' _ bytes in
            rw (← state.starts_are) (at_input s (short_entry b state.joined g part.bytes part.more
            from_next collects_next part.appended part.whole) collects_next
            (λ p. rw (← written-snoc state.joined g) (written-whole next w w'' _ (eager p) bytes)))

      pub turn-falls : (new : List S) → GoOnAt b (Some (address g)) now new
          → most_of b new < most_of b now
      turn-falls new h =
          omega (arith, fewer_all b (address g) now new h, taken_some (heads b now) g lowest.comes)

    -- After the last turn: no stream holds a fact.

    module _ (none : heads b now ≡ []) where
      none_left : heads b (nows state.runs) ≡ []
      none_left = search rules

      pub stop_end : (patient : Bool) {w'' : Option (List ℕ)} → failed ≡ false
          → AppendsPart w' w'' (end count) → Stopping patient old now w w'' Write
      stop_end patient {w''} good a =
          let bs : List ℕ = without_end state.joined ++ a.part in
          let appended : Appends w w'' bs =
          Appends-trans w w' w'' (without_end state.joined) a.part
          (whole_yet good) a.appended in
          stopped_here patient appended
          (cut_end a.part (a.rest, a.cut, sym a.whole ∙ ap end state.count_is) refl)
          (short_end b bs (record { went = state.went; none = none_left }) state.collects appended
          a.cut
          (append_assoc (without_end state.joined) a.part a.rest
          ∙ ap (λ l. without_end state.joined ++ l) (sym a.whole ∙ ap end state.count_is)))

      whole : (next : Bool) (w'' : Option (List ℕ)) → PutsBytes failed next w' w'' (end count)
          → Written next w w'' (spelling state.joined)
      whole next w'' a = rw (← state.count_is) (written-more _ _ w w' _ _ _ (state.written, a))

      -- the journal of other facts with the same value at each address is the one that was written
      others_too : (next : Bool) (w'' : Option (List ℕ)) → PutsBytes failed next w' w'' (end count)
          → (others : List Fact) → Same (all_of (givens state.runs)) others → (bytes : List ℕ) →
          Journal bytes others → Written next w w'' bytes
      others_too next w'' a others m bytes j = search
          (rules, all_of, Same-trans, Same-sym, rising_unique, whole)

  pub finished : {s o y : ℕ} (tally : Tally s o y) (within next : Bool) {failed : Bool}
      {old now : List S} {w w' : Option (List ℕ)} {count : ℕ}
      → (state : State failed (IsCounted s o y tally within) old now w w' count)
      → (w'' : Option (List ℕ)) → most_of b old < 2 ^ 64 → heads b now ≡ []
      → PutsBytes failed next w' w'' (end count)
      → EndsMerged b old now s o y (record { entries = count; within = within; cut = next }) w w''
  finished {s} {o} {y} tally within next {failed} {old} {now} {w} {w'} {count} state w'' few none a
      = moved state (λ l m. EndsMerged b l m s o y
      (record { entries = count; within = within; cut = next }) w w'') (record {
        merged = record {
          told = givens state.runs;
          tell = told_whole b (last_of None state.joined) state.runs state.went
              (none_left state none);
          limits = within_same tally within state.joined state.collects.same state.also;
          puts = record {
            bytes = spelling state.joined;
            journal = (
              state.joined,
              state.collects,
              omega
                  (arith, few, state.count_is, few-joined state),
              refl,
            );
            entries = state.count_is;
            appended = whole state none next w'' a;
          };
          as_others = others_too state none next w'' a;
        };
        ends = ended_whole b (last_of None state.joined) state.runs state.went
            (none_left state none);
      })

-- the first state, and the state after a turn
pub ruleset turns = (state_start, put_first, state_turn)
