-- join_inspected: what is held is in a store, or in runs too.
use Rattle.std.proofs.lemmas.Bool.Decides.{nat_tests}
use Rattle.std.proofs.Common.{◌≡◌, ◌==◌, Result, Ok, Err, arith, inl, inr, subst, sym, ◌∙◌, ℕ}
use Rattle.std.proofs.Common.{List, Option, Bool, ap, true, false, length}
use Rattle.std.specs.Prelude.{IfOk, IfErr, OnOk, MatchResult}
use Rattle.flute_streams.specs.Chains.{chained, taken}
use Rattle.flute_streams.specs.Streams.{Behaviour}
use Rattle.flute_streams.specs.WalkStreams.{held_fact}
use Rattle.flute_streams.specs.declared.merge.all_streams.MergedJournal.{MergedJournal}
use Rattle.flute_streams.specs.declared.merge.streams_fault.InputFault.{InputFault}
use Rattle.flutejoin.specs.JoinParts.{AreNewlyHeld, End, StopsJoin}
use Rattle.flutejoin.specs.Status.{of_stop}
use Rattle.flutejoin.specs.declared.command_fault.CommandFault.{CommandFault}
use Rattle.flutejoin.specs.declared.join.join_input.JoinInput.{JoinInput}
use Rattle.flutejoin.proofs.join_lemmas.Runs.{alone_end, all_held, held_end, of_both}
use Rattle.flutejoin.proofs.join.join_inspected.Goals as goal

-- the fault has another form
abbrev IsAtStop : Result MergedJournal InputFault → Result MergedJournal CommandFault → Type 0
IsAtStop r s = MatchResult r (λ journal. s ≡ Ok journal) (λ fault. s ≡ Err (of_stop fault.number
    fault.fault))

ok_at : (P : MergedJournal → Type 0) (r : Result MergedJournal InputFault)
    (s : Result MergedJournal CommandFault) → IsAtStop r s → IfOk r P → IfOk s P
ok_at P (Ok journal) s is h = subst (λ t. IfOk t P) (sym is) h
ok_at P (Err fault) s is h = subst (λ t. IfOk t P) (sym is) tt

on_at : (P : Type 0) (r : Result MergedJournal InputFault)
    (s : Result MergedJournal CommandFault) → IsAtStop r s → OnOk r P → OnOk s P
on_at P (Ok journal) s is h = subst (λ t. OnOk t P) (sym is) h
on_at P (Err fault) s is h = subst (λ t. OnOk t P) (sym is) tt

short_at : (P : Type 0) (r : Result MergedJournal InputFault)
    (s : Result MergedJournal CommandFault) → IsAtStop r s → IfErr r (λ _. P) → IfErr s (λ _. P)
short_at P (Ok journal) s is h = subst (λ t. IfErr t (λ _. P)) (sym is) tt
short_at P (Err fault) s is h = subst (λ t. IfErr t (λ _. P)) (sym is) h

module _ {R S : Type 0} {unread : R → Option (List ℕ)} {buffered : R → List ℕ}
    {failures : R → ℕ} {b : Behaviour S} {held : List S} {old new : List (JoinInput R)} where
  stop_at : {P : CommandFault → Type 0} (r : Result MergedJournal InputFault)
      (s : Result MergedJournal CommandFault) → IsAtStop r s
      → IfErr r (λ fault. StopsJoin unread buffered failures b held old new
      (of_stop fault.number fault.fault))
      → ((fault : CommandFault) → StopsJoin unread buffered failures b held old new fault
      → P fault) → IfErr s P
  stop_at {P} (Ok journal) s is h f = subst (λ t. IfErr t P) (sym is) tt
  stop_at {P} (Err fault) s is h f = subst (λ t. IfErr t P) (sym is)
      (f (of_stop fault.number fault.fault) h)

some_there : (n : ℕ) (empty : Bool) → empty ≡ (n == 0) → empty ≡ false → n ≡ 0 → ⊥
some_there n empty e far none = grind (arith, nat_tests)

-- no run is there
none_there : (n : ℕ) (empty : Bool) → empty ≡ (n == 0) → empty ≡ true → n ≡ 0
none_there n empty e near = grind (arith, nat_tests)

pub returns-then-is_empty-clause-joined : goal.returns-then-is_empty-clause-joined
returns-then-is_empty-clause-joined g c =
    λ choice contents datagrams facts most inspected held.
    ok_at _ c.join_held.result c.at_stop.result c.at_stop.ensures (c.join_held.ensures.joined choice contents datagrams facts
    most inspected (alone_end g.R.Source.unread g.R.Source.buffered
    g.R.Source.failures
    (λ s. held_fact s.held) (λ s. s.walk) c.new-walk.result c.args.store.now c.args.runs.now.items facts
    (omega (arith, c.args.runs.now.ok, none_there _ c.is_empty.result c.is_empty.ensures c.if-is_empty.true))
    (c.new-walk.ensures.facts ∙ c.walk.ensures.value) held))

pub returns-then-is_empty-clause-failed : goal.returns-then-is_empty-clause-failed
returns-then-is_empty-clause-failed g c =
    λ choice contents datagrams inspected why. stop_at c.join_held.result c.at_stop.result c.at_stop.ensures c.join_held.ensures.stopped
    (λ fault one. one.fails choice contents datagrams inspected (inl ((λ _ stops. stops), tt)))

pub returns-then-is_empty-clause-cut : goal.returns-then-is_empty-clause-cut
returns-then-is_empty-clause-cut g c =
    ok_at _ c.join_held.result c.at_stop.result c.at_stop.ensures c.join_held.ensures.cut

pub returns-then-is_empty-clause-over : goal.returns-then-is_empty-clause-over
returns-then-is_empty-clause-over g c =
    ok_at _ c.join_held.result c.at_stop.result c.at_stop.ensures c.join_held.ensures.over

pub returns-then-is_empty-clause-short : goal.returns-then-is_empty-clause-short
returns-then-is_empty-clause-short g c =
    short_at _ c.join_held.result c.at_stop.result c.at_stop.ensures c.join_held.ensures.short

pub returns-then-is_empty-clause-names : goal.returns-then-is_empty-clause-names
returns-then-is_empty-clause-names g c =
    stop_at c.join_held.result c.at_stop.result c.at_stop.ensures c.join_held.ensures.stopped (λ fault one. one.names)

pub returns-then-is_empty-clause-no_memory : goal.returns-then-is_empty-clause-no_memory
returns-then-is_empty-clause-no_memory g c =
    stop_at c.join_held.result c.at_stop.result c.at_stop.ensures c.join_held.ensures.stopped
    (λ fault one. one.no_memory)

pub returns-then-is_empty-clause-no_sink : goal.returns-then-is_empty-clause-no_sink
returns-then-is_empty-clause-no_sink g c =
    stop_at c.join_held.result c.at_stop.result c.at_stop.ensures c.join_held.ensures.stopped (λ fault one. one.no_sink)

pub returns-then-is_empty-clause-no_aside : goal.returns-then-is_empty-clause-no_aside
returns-then-is_empty-clause-no_aside g c =
    λ none. stop_at c.join_held.result c.at_stop.result c.at_stop.ensures c.join_held.ensures.stopped
    (λ fault one. one.no_aside ((λ _ stops. stops), tt))

pub returns-then-is_empty-clause-none_failed : goal.returns-then-is_empty-clause-none_failed
returns-then-is_empty-clause-none_failed g c =
    on_at _ c.join_held.result c.at_stop.result c.at_stop.ensures c.join_held.ensures.none_failed

pub returns-then-is_empty-clause-read_failed : goal.returns-then-is_empty-clause-read_failed
returns-then-is_empty-clause-read_failed g c =
    stop_at c.join_held.result c.at_stop.result c.at_stop.ensures c.join_held.ensures.stopped
    (λ fault one. one.reads)

pub returns-then-is_empty-clause-sink_failures : goal.returns-then-is_empty-clause-sink_failures
returns-then-is_empty-clause-sink_failures g c =
    ok_at _ c.join_held.result c.at_stop.result c.at_stop.ensures c.join_held.ensures.sink_failures

pub join_held-requires-2-clause-held : goal.join_held-requires-2-clause-held
join_held-requires-2-clause-held g c =
    subst (λ l. AreNewlyHeld (of_both g.R.Source.unread g.R.Source.buffered
    g.R.Source.failures
    (λ s. held_fact s.held) (λ s. s.walk)) (chained c.new-walk.result (taken l))) (sym c.deref_mut.ensures.value)
    (all_held g.R.Source.unread g.R.Source.buffered
    g.R.Source.failures
    (λ s. held_fact s.held) (λ s. s.walk) c.new-walk.result c.new-walk.ensures.new
    (omega (
      arith,
      c.new-walk.ensures.most,
      c.walk.ensures.few,
      ap length c.walk.ensures.value,
      c.requires.countable,
    )) c.args.runs.now.items c.requires.few_runs c.requires.new)

pub returns-clause-joined : goal.returns-clause-joined
returns-clause-joined g c =
    λ choice contents datagrams facts most inspected held.
    ok_at _ c.join_held-2.result c.at_stop-2.result c.at_stop-2.ensures (c.join_held-2.ensures.joined choice contents datagrams facts
    most inspected (subst (λ l. End (of_both g.R.Source.unread g.R.Source.buffered
    g.R.Source.failures
    (λ s. held_fact s.held) (λ s. s.walk)) (chained c.new-walk.result (taken l)) facts) (sym c.deref_mut.ensures.value)
    (held_end g.R.Source.unread g.R.Source.buffered
    g.R.Source.failures
    (λ s. held_fact s.held) (λ s. s.walk) c.new-walk.result c.args.store.now c.args.runs.now.items facts c.requires.few_runs
    c.requires.new (c.new-walk.ensures.facts ∙ c.walk.ensures.value) held)))

pub returns-clause-failed : goal.returns-clause-failed
returns-clause-failed g c =
    λ choice contents datagrams inspected why. stop_at c.join_held-2.result c.at_stop-2.result c.at_stop-2.ensures c.join_held-2.ensures.stopped
    (λ fault one. one.fails choice contents datagrams inspected (elim why [
      | inl none ↦ absurd (some_there _ c.is_empty.result c.is_empty.ensures c.if-is_empty.false (omega (arith, c.args.runs.now.ok, none)))
      | inr wants ↦ inr wants
    ]))

pub returns-clause-cut : goal.returns-clause-cut
returns-clause-cut g c =
    ok_at _ c.join_held-2.result c.at_stop-2.result c.at_stop-2.ensures c.join_held-2.ensures.cut

pub returns-clause-over : goal.returns-clause-over
returns-clause-over g c =
    ok_at _ c.join_held-2.result c.at_stop-2.result c.at_stop-2.ensures c.join_held-2.ensures.over

pub returns-clause-short : goal.returns-clause-short
returns-clause-short g c =
    short_at _ c.join_held-2.result c.at_stop-2.result c.at_stop-2.ensures c.join_held-2.ensures.short

pub returns-clause-names : goal.returns-clause-names
returns-clause-names g c =
    stop_at c.join_held-2.result c.at_stop-2.result c.at_stop-2.ensures c.join_held-2.ensures.stopped (λ fault one. one.names)

pub returns-clause-no_memory : goal.returns-clause-no_memory
returns-clause-no_memory g c =
    stop_at c.join_held-2.result c.at_stop-2.result c.at_stop-2.ensures c.join_held-2.ensures.stopped
    (λ fault one. one.no_memory)

pub returns-clause-no_sink : goal.returns-clause-no_sink
returns-clause-no_sink g c =
    stop_at c.join_held-2.result c.at_stop-2.result c.at_stop-2.ensures c.join_held-2.ensures.stopped (λ fault one. one.no_sink)

pub returns-clause-none_failed : goal.returns-clause-none_failed
returns-clause-none_failed g c =
    on_at _ c.join_held-2.result c.at_stop-2.result c.at_stop-2.ensures c.join_held-2.ensures.none_failed

pub returns-clause-read_failed : goal.returns-clause-read_failed
returns-clause-read_failed g c =
    stop_at c.join_held-2.result c.at_stop-2.result c.at_stop-2.ensures c.join_held-2.ensures.stopped
    (λ fault one. one.reads)

pub returns-clause-sink_failures : goal.returns-clause-sink_failures
returns-clause-sink_failures g c =
    ok_at _ c.join_held-2.result c.at_stop-2.result c.at_stop-2.ensures c.join_held-2.ensures.sink_failures
