-- join_to: first one pass, and then the other.
use Rattle.std.proofs.Common.{rules}
use Rattle.std.proofs.Common.{◌≡◌, ◌<◌, ◌≤◌, ◌⊎◌, ◌+◌, ℕ, zero, suc, Bool, true, false, not}
use Rattle.std.proofs.Common.{[], ◌++◌, ap, inl, inr, length, refl, subst, sym, arith}
use Rattle.flutejoin.specs.Asides.{AreRunsOf}
use Rattle.flute_parts.specs.Devices.{times_failed}
use Rattle.std.proofs.lemmas.Result.{err_from_is_err_and}
use Rattle.flutejoin.proofs.join_lemmas.Held.{all_held, all_over, held_together}
use Rattle.flutejoin.proofs.join_lemmas.Inspections.{finds_wants}
use Rattle.flutejoin.proofs.join_lemmas.JoinStops.{nothing_appended, not_inspected, one_failed_more}
use Rattle.flutejoin.proofs.join_lemmas.JoinStops.{none_failed_more, full_together, not_written}
use Rattle.flutejoin.proofs.join_lemmas.JoinStops.{full_of_files, joins_to}
use Rattle.flutejoin.proofs.join.join_to.Goals as goal

not_true : (b : Bool) → not b ≡ true → b ≡ false
not_true x0 x1 = search rules

not_false : (b : Bool) → not b ≡ false → b ≡ true
not_false x0 x1 = search rules

-- there is none, or P holds
none_or : {P : Type 0} (n : ℕ) → (0 < n → P) → (n ≡ 0) ⊎ P
none_or zero some = inl refl
none_or (suc n) some = inr (some (omega arith))

-- something was put aside for each run
some_made : (n old new : ℕ) → n + old ≤ 0 + new → (n ≡ 0 → ⊥) → old < new
some_made zero old new put some = absurd (some refl)
some_made (suc n) old new put some = omega (arith, put)

pub returns-in_err-held-clause-failed : goal.returns-in_err-held-clause-failed
returns-in_err-held-clause-failed g c = λ told contents inputs. let e = err_from_is_err_and
    c.from_residual.result c.from_residual.ensures.1 in rw (e.1, e.2) (not_inspected contents
    c.in_err-held.field-0.0 (c.in_err-held.ensures.failed told contents inputs))

pub returns-in_err-join_inspected-clause-failed : goal.returns-in_err-join_inspected-clause-failed
returns-in_err-join_inspected-clause-failed g c = λ told contents inputs. let e =
    err_from_is_err_and c.from_residual-in_err-join_inspected.result
    c.from_residual-in_err-join_inspected.ensures.1 in
    let found = c.in_ok-held.ensures.inspected told contents inputs in
    rw (e.1, e.2) (c.in_err-join_inspected.ensures.failed _ contents found.0 found.1
    (inl (ap length c.clear.ensures.items)))

pub returns-in_err-join_inspected-clause-short : goal.returns-in_err-join_inspected-clause-short
returns-in_err-join_inspected-clause-short g c =
    let e = err_from_is_err_and c.from_residual-in_err-join_inspected.result
    c.from_residual-in_err-join_inspected.ensures.1 in rw e.1
    (nothing_appended (g.W.Sink.written c.args.sink.now))

pub returns-in_err-join_inspected-clause-read_failed :
    goal.returns-in_err-join_inspected-clause-read_failed
returns-in_err-join_inspected-clause-read_failed g c =
    let e = err_from_is_err_and c.from_residual-in_err-join_inspected.result
    c.from_residual-in_err-join_inspected.ensures.1 in rw (e.1, e.2) (λ number is. one_failed_more
    g.R.Source.failures number c.args.inputs.now c.inspect_all.new.inputs
    c.join_inspected.new.inputs c.in_ok-held.ensures.none_failed
    (c.in_err-join_inspected.ensures.read_failed number is))

pub returns-then-not-held-clause-failed : goal.returns-then-not-held-clause-failed
returns-then-not-held-clause-failed g c = λ told contents inputs.
    let found = c.in_ok-held.ensures.inspected told contents inputs in
    let none = subst (λ l. AreRunsOf g.R.Source.unread g.R.Source.buffered l [])
    (sym c.clear.ensures.items) refl in
    full_of_files
    (c.in_ok-join_inspected.ensures.joined _ contents found.0 (c.in_ok-held.held.told.store ++ [])
    refl found.1 ([], none, refl))
    (all_over found.2 c.if-not-held.true)

pub returns-in_err-joined-clause-failed : goal.returns-in_err-joined-clause-failed
returns-in_err-joined-clause-failed g c = λ told contents inputs. let e = err_from_is_err_and
    c.from_residual-in_err-joined.result c.from_residual-in_err-joined.ensures.1 in
    let found = c.in_ok-held.ensures.inspected told contents inputs in
    rw (e.1, e.2) (c.in_err-joined.ensures.failed _ contents found.0 found.1 (none_or
    (length c.in_ok-held.held.runs.items) (λ some. finds_wants _ g.R.Source.unread
    g.R.Source.buffered c.in_ok-held.held c.inspect_all.new.inputs contents found
    c.if-not-held.false (omega (arith, some, c.in_ok-held.ensures.sound.4)))))

pub returns-in_err-joined-clause-read_failed : goal.returns-in_err-joined-clause-read_failed
returns-in_err-joined-clause-read_failed g c =
    let e = err_from_is_err_and c.from_residual-in_err-joined.result
    c.from_residual-in_err-joined.ensures.1 in rw (e.1, e.2) (λ number is. one_failed_more
    g.R.Source.failures number c.args.inputs.now c.inspect_all.new.inputs
    c.join_inspected-2.new.inputs c.in_ok-held.ensures.none_failed
    (c.in_err-joined.ensures.read_failed number is))

pub returns-then-not-joined-clause-failed : goal.returns-then-not-joined-clause-failed
returns-then-not-joined-clause-failed g c = λ told contents inputs. let found =
    c.in_ok-held.ensures.inspected told contents inputs in
    let run = held_together c.if-not-held.false found.2
    in full_together (c.in_ok-joined.ensures.joined _ contents found.0 run.0 refl found.1 run.1)
    run.2 (not_true c.in_ok-joined.joined.within c.if-not-joined.true)

pub returns-then-joined-clause-failed : goal.returns-then-joined-clause-failed
returns-then-joined-clause-failed g c = λ told contents inputs. let found =
    c.in_ok-held.ensures.inspected told contents inputs in
    let run = held_together c.if-not-held.false found.2
    in not_written (c.in_ok-joined.ensures.joined _ contents found.0 run.0 refl found.1 run.1) run.2
    (not_false c.in_ok-joined.joined.within c.if-not-joined.false)

pub returns-clause-joined : goal.returns-clause-joined
returns-clause-joined g c = λ told contents inputs. let found = c.in_ok-held.ensures.inspected told
    contents inputs in
    let run = held_together c.if-not-held.false found.2
    in
    let fits = c.if-not-held.false in
    let all = all_held found.2 fits in
    joins_to (c.in_ok-joined.ensures.joined _ contents found.0 run.0 refl found.1 run.1) run.2
    (subst (λ n. n ≤ 64) inputs.as_many c.requires.few)
    (not_false c.in_ok-joined.joined.within c.if-not-joined.false) c.if-joined.false (record {
      entries = refl;
      datagrams_are = all.count;
      refused = all.refused;
      reasons = all.reasons;
      for_all = c.in_ok-held.ensures.sound.2;
      of_files = _;
      of_files_are = found.2.others fits;
      others = c.others_of.ensures;
    })

pub returns-clause-none_failed : goal.returns-clause-none_failed
returns-clause-none_failed g c = none_failed_more g.R.Source.failures c.args.inputs.now
    c.inspect_all.new.inputs c.join_inspected-2.new.inputs c.in_ok-held.ensures.none_failed
    c.in_ok-joined.ensures.none_failed

pub returns-in_err-held-clause-short : goal.returns-in_err-held-clause-short
returns-in_err-held-clause-short g c =
    let e = err_from_is_err_and c.from_residual.result c.from_residual.ensures.1 in
    rw e.1 (nothing_appended (g.W.Sink.written c.args.sink.now))

pub returns-then-not-joined-clause-short : goal.returns-then-not-joined-clause-short
returns-then-not-joined-clause-short g c = c.in_ok-joined.ensures.cut
    (c.in_ok-joined.ensures.over (not_true c.in_ok-joined.joined.within c.if-not-joined.true))

pub returns-then-joined-clause-short : goal.returns-then-joined-clause-short
returns-then-joined-clause-short g c = c.in_ok-joined.ensures.cut c.if-joined.true

pub returns-in_err-joined-clause-made : goal.returns-in_err-joined-clause-made
returns-in_err-joined-clause-made g c =
    let e = err_from_is_err_and c.from_residual-in_err-joined.result
    c.from_residual-in_err-joined.ensures.1 in
    let before = c.inspect_all.ensures.made.0 in (
      before,
      rw (e.1, e.2) (λ is. some_made (length c.in_ok-held.held.runs.items) _ _
          c.in_ok-held.ensures.put (λ none. c.in_err-joined.ensures.no_aside none is)),
    )

pub returns-then-joined-clause-write_failed : goal.returns-then-joined-clause-write_failed
returns-then-joined-clause-write_failed g c = λ e. subst (λ b. g.W.Sink.failures
    c.join_inspected-2.new.sink ≡ g.W.Sink.failures c.args.sink.now + times_failed b)
    c.if-joined.true (c.in_ok-joined.ensures.sink_failures
    (not_false c.in_ok-joined.joined.within c.if-not-joined.false))

pub returns-clause-sink_failures : goal.returns-clause-sink_failures
returns-clause-sink_failures g c =
    let same = subst (λ b. g.W.Sink.failures c.join_inspected-2.new.sink ≡ g.W.Sink.failures
    c.args.sink.now + times_failed b) c.if-joined.false (c.in_ok-joined.ensures.sink_failures
    (not_false c.in_ok-joined.joined.within c.if-not-joined.false)) in omega (arith, same)
