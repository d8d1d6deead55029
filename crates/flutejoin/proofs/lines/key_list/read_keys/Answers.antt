-- read_keys: a line more, or why there is none.
use Rattle.std.proofs.Common.{rules, ◌∙◌, ◌≡◌, ◌+◌, ◌-◌, ◌^◌, ℕ, sym, ap, subst, arith, refl, Err, Some, None}
use Rattle.std.proofs.lemmas.Result.{err_from_is_err_and}
use Rattle.flutejoin.specs.NextWords.{GivesWords}
use Rattle.flutejoin.proofs.lines_lemmas.NamedKeys.{all_named, begun, more, no_line, no_line_fails}
use Rattle.flutejoin.proofs.lines_lemmas.NamedKeys.{not_named, quiet, too_many}
use Rattle.flutejoin.proofs.lines.key_list.read_keys.Goals as goal

pub loop-keys-init : goal.loop-keys-init
loop-keys-init g c = record { so_far = begun _ _ c.new-keys.ensures.empty; failures = refl }

pub returns-in_err-words-clause-failed : goal.returns-in_err-words-clause-failed
returns-in_err-words-clause-failed g c =
    let e = err_from_is_err_and c.from_residual.result c.from_residual.ensures.1 in
    rw (e.1, e.2)
    (no_line c.loop-keys.invariant.so_far c.in_err-words.field-0.0 c.in_err-words.ensures.none)

pub returns-in_err-words-clause-failures : goal.returns-in_err-words-clause-failures
returns-in_err-words-clause-failures g c =
    let e = err_from_is_err_and c.from_residual.result c.from_residual.ensures.1 in
    rw (e.1 ∙ ap Err e.2) (no_line_fails _ _ _ c.in_err-words.field-0.0
    c.loop-keys.invariant.failures c.in_err-words.ensures.failures)

pub returns-in_err-add_named-clause-failed : goal.returns-in_err-add_named-clause-failed
returns-in_err-add_named-clause-failed g c =
    let u = g.R.Source.unread in
    let e = err_from_is_err_and c.from_residual-in_err-add_named.result
    c.from_residual-in_err-add_named.ensures.1 in
    rw (e.1, e.2) (not_named c.loop-keys.invariant.so_far (u c.list_line.new.source) c.in-Some.words
    c.in_err-add_named.field-0.0
    (subst (GivesWords (u c.loop-keys.source) (u c.list_line.new.source)) c.in-Some.is
    c.in_ok-words.ensures.gives)
    (rw (← c.as_slice.ensures) c.in_err-add_named.ensures.failed))

pub returns-in_err-add_named-clause-failures : goal.returns-in_err-add_named-clause-failures
returns-in_err-add_named-clause-failures g c =
    let e = err_from_is_err_and c.from_residual-in_err-add_named.result
    c.from_residual-in_err-add_named.ensures.1 in
    rw (e.1 ∙ ap Err e.2) (quiet _ _ c.loop-keys.number c.as_slice.result.now
    c.in_err-add_named.field-0.0
    (c.in_ok-words.ensures.failures ∙ c.loop-keys.invariant.failures)
    c.in_err-add_named.ensures.failed)

pub returns-then-number-clause-failed : goal.returns-then-number-clause-failed
returns-then-number-clause-failed g c =
    let u = g.R.Source.unread in
    let h = more c.loop-keys.invariant.so_far (u c.list_line.new.source) c.in-Some.words
    c.add_named.new.keys
    (subst (GivesWords (u c.loop-keys.source) (u c.list_line.new.source)) c.in-Some.is
    c.in_ok-words.ensures.gives)
    (rw (← c.as_slice.ensures) c.in_ok-add_named.ensures.added) in
    rw c.if-number.true (too_many h (omega (arith, c.if-number.true)))

pub returns-then-number-clause-failures : goal.returns-then-number-clause-failures
returns-then-number-clause-failures g c =
    c.in_ok-words.ensures.failures ∙ c.loop-keys.invariant.failures

pub loop-keys-smaller : goal.loop-keys-smaller
loop-keys-smaller g c = omega (arith, c.if-number.false, c.loop-keys.auto.number-fits)

pub loop-keys-preserved : goal.loop-keys-preserved
loop-keys-preserved g c =
    let u = g.R.Source.unread in
    record {
      so_far = more c.loop-keys.invariant.so_far (u c.list_line.new.source) c.in-Some.words
          c.add_named.new.keys
          (subst (GivesWords (u c.loop-keys.source) (u c.list_line.new.source)) c.in-Some.is
          c.in_ok-words.ensures.gives)
          (rw (← c.as_slice.ensures) c.in_ok-add_named.ensures.added);
      failures = c.in_ok-words.ensures.failures ∙ c.loop-keys.invariant.failures;
    }

pub returns-clause-named : goal.returns-clause-named
returns-clause-named g c =
    let u = g.R.Source.unread in
    all_named c.loop-keys.invariant.so_far (u c.list_line.new.source)
    (search (rules, c.in_default.not-Some))

pub returns-clause-failures : goal.returns-clause-failures
returns-clause-failures g c = c.in_ok-words.ensures.failures ∙ c.loop-keys.invariant.failures
