-- JoinInput as a stream: a journal is advanced, or stops, as it does by itself.
use Rattle.std.proofs.Common.{rules}
use Rattle.std.proofs.Common.{◌≡◌, ℕ, List, ◌++◌, Option, Some, None, Result, Ok, Err}
use Rattle.std.specs.Prelude.{OnOk, IfErr, IfSome}
use Rattle.flute_parts.specs.declared.fact.Fact.{Fact}
use Rattle.flute_journal.specs.Kinds.{IsNeither}
use Rattle.flute_streams.specs.Streams.{Behaviour, Gave, GoesOn, Stopped, StopsAt, option_list}
use Rattle.flute_journal.specs.declared.fault.LoadFault.{LoadFault}
use Rattle.flutejoin.specs.Begins.{Begins}
use Rattle.flutejoin.specs.declared.join.join_input.JoinInput.{JoinInput}
use Rattle.flutejoin.specs.declared.join.join_input.JoinInput.TheVariants.{Journal}
use Rattle.flutejoin.specs.declared.join.join_input.JoinInput.TheVariants.{Unknown}
use Rattle.flutejoin.specs.InputStreams.{JournalInput}
use Rattle.flutejoin.specs.JoinInputs.{IsInput}
use Rattle.flutejoin.specs.InputStreams.{journal_behaviour, input_behaviour}
use Rattle.flutejoin.proofs.join_lemmas.Inspections.{same_neither}

module _ {R : Type 0} (unread : R → Option (List ℕ)) (buffered : R → List ℕ)
    (failures : R → ℕ) where
  abbrev j : Behaviour (JournalInput R)
  j = journal_behaviour unread buffered failures

  abbrev i : Behaviour (JoinInput R)
  i = input_behaviour unread buffered failures

  gave : (s t : JournalInput R) (F : List Fact) → Gave j s t F → Gave i (Journal s) (Journal t) F
  gave s t F g = search rules

  goes_on : (x y : JournalInput R) → GoesOn j x y → (start : JoinInput R) (F : List Fact)
      → i.passes start (Journal x) F → Gave i start (Journal y) (F ++ option_list (j.held x))
  goes_on x y h (Journal s) F p = gave s y _ (h.gave s F p)
  goes_on x y h _ F p = absurd p

  stops : (x y : JournalInput R) (f : LoadFault) → StopsAt j x y f → (start : JoinInput R)
      (F : List Fact) → i.passes start (Journal x) F
      → Stopped i start (Journal y) (F ++ option_list (j.held x)) f
  stops x y f h (Journal s) F p =
      let g = h s F p in record { reads = g.reads; fails = g.fails; stops = g.stops }
  stops x y f h _ F p = absurd p

  module _ (z : JoinInput R) (x y : JournalInput R) (is : z ≡ Journal x) where
    pub journal_goes_on : (r : Result (Unit {0}) LoadFault) → OnOk r (GoesOn j x y)
        → OnOk r (GoesOn i z (Journal y))
    journal_goes_on (Ok t) h = rw is (record { gave = goes_on x y h; fewer = h.fewer })
    journal_goes_on (Err f) h = tt

    pub journal_stops : (r : Result (Unit {0}) LoadFault) → IfErr r (StopsAt j x y)
        → IfErr r (StopsAt i z (Journal y))
    journal_stops (Ok t) h = tt
    journal_stops (Err f) h = rw is (stops x y f h)

-- what begins as neither is an input of no known kind
pub unknown : {R : Type 0} (unread : R → Option (List ℕ)) (first : List ℕ)
    (old new : Option (List ℕ)) → Begins first old new → IsNeither first
    → IfSome old (IsInput {R = R} unread Unknown)
unknown _ _ None _ b h = tt
unknown _ first (Some bytes) _ b h = same_neither _ _ b.1 h
