-- Runs: the journals that were put aside, as streams (specs/Asides).
use Rattle.std.proofs.lemmas.Grind.{common_steps}
use Rattle.std.proofs.Common.{rules}
use Rattle.std.proofs.Common.{◌≡◌, ℕ, ◌*◌, ◌^◌, ◌<◌, ◌≤◌, List, [], ◌∷◌, ◌++◌, length, Option}
use Rattle.std.proofs.Common.{Some, ap, map, subst, sym, ◌∙◌}
use Rattle.std.proofs.Common.{arith}
use Rattle.std.proofs.lemmas.List.{length-map}
use Rattle.std.specs.Prelude.{IfSome, OnOk, Result, Ok, Err}
use Rattle.std.specs.List.{AllByRecursion}
use Rattle.std.specs.Io.KnownBytes.{Appends}
use Rattle.flute_parts.specs.Facts.{Same}
use Rattle.flute_parts.specs.declared.fact.Fact.{Fact}
use Rattle.flute_parts.proofs.Public.{rising_unique, Same-append, Same-itself}
use Rattle.flute_parts.proofs.Public.{Same-sym, Same-trans}
use Rattle.flute_streams.specs.Advances.{AreNew}
use Rattle.flute_journal.specs.Journal.{IsJournalWithin, Journal}
use Rattle.flute_streams.specs.OwnedStreams.{owned_behaviour, owned_limit}
use Rattle.flute_streams.specs.StreamMerges.{all_of, Each}
use Rattle.flute_streams.specs.Listed.{listed_behaviour}
use Rattle.flute_streams.specs.Streams.{Behaviour, IsNew, most_of}
use Rattle.flute_streams.specs.Chains.{chained, taken}
use Rattle.flute_streams.specs.Eithers.{either_behaviour}
use Rattle.flute_streams.specs.declared.streams.either.Either.{Either}
use Rattle.flute_streams.specs.declared.streams.either.Either.TheVariants.{First, Second}
use Rattle.flute_streams.proofs.Public.{taken_all}
use Rattle.flute_journal.specs.declared.format.version.Version.TheVariants.{Two}
use Rattle.flute_streams.specs.declared.streams.owned_journal_stream.OwnedJournalStream.{OwnedJournalStream}
use Rattle.flute_journal.proofs.Public.{journal_parts}
use Rattle.flutejoin.specs.Asides.{AreHeld, AreRunsOf, HoldTogether, IsNewRun, IsRunOf}
use Rattle.flutejoin.specs.JoinParts.{AreNewlyHeld, End}
use Rattle.flutejoin.proofs.join_lemmas.Receptions.{IsJournal-from_bound, Same-from_journals}

-- a journal that was written, within a bound
pub within : (limit : ℕ) (bytes : List ℕ) (facts : List Fact) (j : Journal bytes facts)
    → length j.0 ≤ limit → IsJournalWithin limit bytes j.0
within _ bytes facts j few =
    let parts = journal_parts _ _ _ j in
    let one = rising_unique _ _ parts.collects.rising j.1.rising
    (Same-trans _ _ _ (Same-sym _ _ parts.collects.same) j.1.same) in record {
      are_items = record {
        told = Two;
        valid = rw (← one) parts.valid;
        in_order = j.1.rising;
        few = few;
      };
      bytes_are = j.3;
    }

-- what was written to nothing is all that there is
pub all_written : (bytes : List ℕ) (new : Option (List ℕ)) → Appends (Some []) new bytes
    → new ≡ Some bytes
all_written = search rules

module _ {R : Type 0} (unread : R → Option (List ℕ)) (buffered : R → List ℕ) where
  -- one more run, with its own facts
  pub run_more : (runs : List (OwnedJournalStream R)) (run : OwnedJournalStream R)
      (facts own : List Fact) → AreRunsOf unread buffered runs facts → IsRunOf unread buffered run
      own → AreRunsOf unread buffered (runs ++ run ∷ []) (facts ++ own)
  run_more [] run facts own h one = grind (arith, common_steps)
  run_more (first ∷ runs) run facts own h one = grind
      (arith, common_steps, run_more runs run h.1 _ h.4 one)

  -- what runs hold together, if something was done, they hold as other facts with the same values
  pub together_on : {T E : Type 0} (runs : List (OwnedJournalStream R)) {F G : List Fact}
      (done : Result T E) → Same F G → OnOk done (HoldTogether unread buffered runs F)
      → OnOk done (HoldTogether unread buffered runs G)
  together_on _ {F} {G} (Ok x) same h = (h.0, h.1, Same-trans _ F G h.2 same)
  together_on _ (Err e) _ h = tt

  module _ (failures : R → ℕ) where
    abbrev b : Behaviour (OwnedJournalStream R)
    b = owned_behaviour unread buffered failures

    pub runs_new : (runs : List (OwnedJournalStream R))
        → AllByRecursion (IsNewRun unread buffered failures) runs → AreNew b runs
    runs_new [] h = tt
    runs_new (run ∷ runs) h = (h.0.0, runs_new runs h.1)

    pub runs_few : (runs : List (OwnedJournalStream R)) → AllByRecursion
        (IsNewRun unread buffered failures) runs → most_of b runs ≤ length runs * 2 ^ 57
    runs_few [] h = omega arith
    runs_few (run ∷ runs) h = search (rules, runs_few runs h.1)

    -- the facts that a run contains as a stream are the facts that it reads
    told_run : (run : OwnedJournalStream R) (told own : List Fact) → IsNewRun unread buffered
        failures run → b.tells run told → IsRunOf unread buffered run own → Same told own
    told_run run told own new tells is =
        let P : Option (List ℕ) → Type 0 = λ o. IfSome o
        (λ bytes. IsJournalWithin (owned_limit run) bytes told) in
        let limit : owned_limit run < 2 ^ 64 = omega arith in
        Same-from_journals _ _ _ (IsJournal-from_bound _ limit _ _ (rw is.1 at tells))
        (IsJournal-from_bound _ limit _ _ is.2)

    pub told_runs : (runs : List (OwnedJournalStream R)) (told : List (List Fact))
        (facts : List Fact) → AllByRecursion (IsNewRun unread buffered failures) runs
        → Each b.tells runs told → AreRunsOf unread buffered runs facts → Same (all_of told) facts
    told_runs [] [] _ _ _ h = rw h (Same-itself [])
    told_runs (run ∷ runs) (F ∷ told) facts new tells h = search
        (rules, all_of, Same-append, told_run, told_runs runs told _ new.1 tells.1 h.4)
    told_runs [] (F ∷ told) _ _ tells h = absurd tells
    told_runs (run ∷ runs) [] _ _ tells h = absurd tells

-- What is held, as streams.

module _ {R : Type 0} (unread : R → Option (List ℕ)) (buffered : R → List ℕ)
    (failures : R → ℕ) where
  abbrev of_run : Behaviour (OwnedJournalStream R)
  of_run = owned_behaviour unread buffered failures

  run_ends : (run now : OwnedJournalStream R) (facts given : List Fact)
      → IsNewRun unread buffered failures run → IsRunOf unread buffered run facts
      → of_run.ends run now given → given ≡ facts
  run_ends run now facts given new is e =
      let P : Option (List ℕ) → Type 0 = λ o. IfSome o
      (λ bytes. IsJournalWithin (owned_limit run) bytes given) in
      let limit : owned_limit run < 2 ^ 64 = omega arith in
      let journal = rw is.1 at e in
      rising_unique _ _ journal.are_items.in_order is.2.are_items.in_order (Same-from_journals _ _ _
      (IsJournal-from_bound _ limit _ _ journal) (IsJournal-from_bound _ limit _ _ is.2))

  -- the walk over a store, and runs
  module _ {W : Type 0} (held : W → Option Fact) (rest : W → List Fact) where
    abbrev of_walk : Behaviour W
    of_walk = listed_behaviour held rest (λ _. Unit {0})

    abbrev pub of_both : Behaviour (Either W (OwnedJournalStream R))
    of_both = either_behaviour of_walk of_run

    abbrev as_seconds : List (OwnedJournalStream R) → List (Either W (OwnedJournalStream R))
    as_seconds runs = map Second runs

    walk_ends : (walk : W) (store : List Fact) → rest walk ≡ store
        → End of_walk (walk ∷ []) (store ++ [])
    walk_ends walk store is (now ∷ []) (F ∷ []) e = ap (λ l. l ++ []) (e.0 ∙ is)
    walk_ends walk store is [] given e = absurd e
    walk_ends walk store is (now ∷ []) [] e = absurd e
    walk_ends walk store is (now ∷ []) (F ∷ G ∷ given) e = absurd e.1
    walk_ends walk store is (now ∷ other ∷ more) [] e = absurd e
    walk_ends walk store is (now ∷ other ∷ more) (F ∷ given) e = absurd e.1

    seconds_end : (runs : List (OwnedJournalStream R)) (facts : List Fact)
        → AllByRecursion (IsNewRun unread buffered failures) runs
        → AreRunsOf unread buffered runs facts → End of_both (as_seconds runs) facts
    seconds_end [] facts new are [] [] e = sym are
    seconds_end (run ∷ runs) facts new are (Second now ∷ nows) (F ∷ given) e =
        let own = run_ends run now are.0 F new.0 are.2 e.0 in
        let others = seconds_end runs are.1 new.1 are.4 nows given e.1 in
        ap (λ l. l ++ all_of given) own ∙ ap (λ l. are.0 ++ l) others ∙ sym are.3
    seconds_end [] facts new are [] (F ∷ given) e = absurd e
    seconds_end [] facts new are (now ∷ nows) given e = absurd e
    seconds_end (run ∷ runs) facts new are [] given e = absurd e
    seconds_end (run ∷ runs) facts new are (now ∷ nows) [] e = absurd e
    seconds_end (run ∷ runs) facts new are (First now ∷ nows) (F ∷ given) e = absurd e.0

    seconds_new : (runs : List (OwnedJournalStream R))
        → AllByRecursion (IsNewRun unread buffered failures) runs → AreNew of_both (as_seconds runs)
    seconds_new [] new = tt
    seconds_new (run ∷ runs) new = (
      record {
        held = new.0.0.held;
        passes = new.0.0.passes;
        reads = new.0.0.reads;
        fails = new.0.0.fails;
      },
      seconds_new runs new.1,
    )

    seconds_few : (runs : List (OwnedJournalStream R))
        → AllByRecursion (IsNewRun unread buffered failures) runs
        → most_of of_both (as_seconds runs) ≤ length runs * 2 ^ 57
    seconds_few [] new = omega arith
    seconds_few (run ∷ runs) new = omega (arith, new.0.1, seconds_few runs new.1)

    -- the walk is new, and holds few facts
    module _ (walk : W) (is_new : IsNew of_walk walk) (few : of_walk.most walk ≤ 2 ^ 63) where
      pub walk_held : AreNewlyHeld of_walk (walk ∷ [])
      walk_held = record { new = (is_new, tt); many = omega arith; few = omega (arith, few) }

      pub all_held : (runs : List (OwnedJournalStream R)) → length runs ≤ 63
          → AllByRecursion (IsNewRun unread buffered failures) runs
          → AreNewlyHeld of_both (chained walk (taken runs))
      all_held runs many new =
          subst (λ l. AreNewlyHeld of_both (chained walk l))
          (sym (taken_all runs (omega (arith, many)))) (record {
            new = (
              record {
                held = is_new.held;
                passes = is_new.passes;
                reads = is_new.reads;
                fails = is_new.fails;
              },
              seconds_new runs new,
            );
            many = omega (arith, many, length-map {B = Either W (OwnedJournalStream R)} runs Second);
            few = omega (arith, many, few, seconds_few runs new);
          })

    all_end : (walk : W) (store aside : List Fact) (runs : List (OwnedJournalStream R))
        → length runs ≤ 63 → AllByRecursion (IsNewRun unread buffered failures) runs
        → rest walk ≡ store → AreRunsOf unread buffered runs aside
        → End of_both (chained walk (taken runs)) (store ++ aside)
    all_end walk store aside runs many new is are =
        subst (λ l. End of_both (chained walk l) (store ++ aside))
        (sym (taken_all runs (omega (arith, many)))) go
      where
        go : End of_both (chained walk runs) (store ++ aside)
        go (First now ∷ nows) (F ∷ given) e =
            ap (λ l. l ++ all_of given) (e.0 ∙ is) ∙ ap (λ l. store ++ l)
            (seconds_end runs aside new are nows given e.1)
        go (Second now ∷ nows) (F ∷ given) e = absurd e.0
        go [] given e = absurd e
        go (now ∷ nows) [] e = absurd e

    pub held_end : (walk : W) (store : List Fact) (runs : List (OwnedJournalStream R))
        (facts : List Fact) → length runs ≤ 63
        → AllByRecursion (IsNewRun unread buffered failures) runs → rest walk ≡ store
        → AreHeld unread buffered store runs facts → End of_both (chained walk (taken runs)) facts
    held_end walk store runs facts many new is held =
        subst (λ l. End of_both (chained walk (taken runs)) l) (sym held.2)
        (all_end walk store held.0 runs many new is held.1)

    pub alone_end : (walk : W) (store : List Fact) (runs : List (OwnedJournalStream R))
        (facts : List Fact) → length runs ≡ 0 → rest walk ≡ store
        → AreHeld unread buffered store runs facts → End of_walk (walk ∷ []) facts
    alone_end walk store [] facts none is held =
        subst (λ l. End of_walk (walk ∷ []) l) (sym (held.2 ∙ ap (λ l. store ++ l) held.1))
        (walk_ends walk store is)
    alone_end walk store (run ∷ runs) facts none is held = absurd (omega (arith, none))
