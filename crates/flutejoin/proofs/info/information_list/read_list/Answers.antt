-- read_list: a line more, or why there is none.
use Rattle.std.proofs.Common.{rules, ◌∙◌, ◌≡◌, ◌+◌, ◌-◌, ◌^◌, ℕ, sym, ap, subst, arith, refl, Err, Some, None}
use Rattle.std.proofs.lemmas.Result.{err_from_is_err_and}
use Rattle.flutejoin.specs.NextWords.{GivesWords}
use Rattle.flutejoin.specs.Limits.{at_most}
use Rattle.flutejoin.proofs.info_lemmas.ListLines.{all_told, begun, more, no_line_fails, no_line_left}
use Rattle.flutejoin.proofs.info_lemmas.ListLines.{names_fails, not_told, quiet, too_many}
use Rattle.flutejoin.proofs.info.information_list.read_list.Goals as goal

pub loop-told-init : goal.loop-told-init
loop-told-init g c = record { so_far = begun _ _ c.new-told.ensures; failures = refl }

pub returns-in_err-words-clause-failed : goal.returns-in_err-words-clause-failed
returns-in_err-words-clause-failed g c =
    let e = err_from_is_err_and c.from_residual.result c.from_residual.ensures.1 in
    rw (e.1, e.2)
    (no_line_left c.loop-told.invariant.so_far
    (at_most g.row.SESSIONS g.row.OBJECTS g.row.SYMBOLS) c.in_err-words.field-0.0 c.in_err-words.ensures.none)

pub returns-in_err-words-clause-failures : goal.returns-in_err-words-clause-failures
returns-in_err-words-clause-failures g c =
    let e = err_from_is_err_and c.from_residual.result c.from_residual.ensures.1 in
    rw (e.1 ∙ ap Err e.2) (no_line_fails _ _ _ c.in_err-words.field-0.0
    c.loop-told.invariant.failures c.in_err-words.ensures.failures)

pub returns-in_err-add_told-clause-failed : goal.returns-in_err-add_told-clause-failed
returns-in_err-add_told-clause-failed g c =
    let u = g.R.Source.unread in
    let e = err_from_is_err_and c.from_residual-in_err-add_told.result
    c.from_residual-in_err-add_told.ensures.1 in
    rw (e.1, e.2) (not_told c.loop-told.invariant.so_far
    (at_most g.row.SESSIONS g.row.OBJECTS g.row.SYMBOLS) (u c.list_line.new.source) c.in-Some.words
    c.in_err-add_told.field-0.0
    (subst (GivesWords (u c.loop-told.source) (u c.list_line.new.source)) c.in-Some.is
    c.in_ok-words.ensures.gives)
    (rw (← c.as_slice.ensures) c.in_err-add_told.ensures.failed))

pub returns-in_err-add_told-clause-failures : goal.returns-in_err-add_told-clause-failures
returns-in_err-add_told-clause-failures g c =
    let e = err_from_is_err_and c.from_residual-in_err-add_told.result
    c.from_residual-in_err-add_told.ensures.1 in
    rw (e.1 ∙ ap Err e.2) (quiet _ _ c.loop-told.number c.as_slice.result.now
    c.in_err-add_told.field-0.0
    (c.in_ok-words.ensures.failures ∙ c.loop-told.invariant.failures)
    c.in_err-add_told.ensures.failed)

pub returns-then-number-clause-failed : goal.returns-then-number-clause-failed
returns-then-number-clause-failed g c =
    let u = g.R.Source.unread in
    let h = more c.loop-told.invariant.so_far (u c.list_line.new.source) c.in-Some.words
    c.add_told.new.told
    (subst (GivesWords (u c.loop-told.source) (u c.list_line.new.source)) c.in-Some.is
    c.in_ok-words.ensures.gives)
    (rw (← c.as_slice.ensures) c.in_ok-add_told.ensures.added) in
    rw c.if-number.true (too_many h (at_most g.row.SESSIONS g.row.OBJECTS g.row.SYMBOLS)
    (omega (arith, c.if-number.true)))

pub returns-then-number-clause-failures : goal.returns-then-number-clause-failures
returns-then-number-clause-failures g c =
    c.in_ok-words.ensures.failures ∙ c.loop-told.invariant.failures

pub loop-told-smaller : goal.loop-told-smaller
loop-told-smaller g c = omega (arith, c.if-number.false, c.loop-told.auto.number-fits)

pub loop-told-preserved : goal.loop-told-preserved
loop-told-preserved g c =
    let u = g.R.Source.unread in
    record {
      so_far = more c.loop-told.invariant.so_far (u c.list_line.new.source) c.in-Some.words
          c.add_told.new.told
          (subst (GivesWords (u c.loop-told.source) (u c.list_line.new.source)) c.in-Some.is
          c.in_ok-words.ensures.gives)
          (rw (← c.as_slice.ensures) c.in_ok-add_told.ensures.added);
      failures = c.in_ok-words.ensures.failures ∙ c.loop-told.invariant.failures;
    }

pub returns-clause-told : goal.returns-clause-told
returns-clause-told g c =
    let u = g.R.Source.unread in
    all_told c.loop-told.invariant.so_far (u c.list_line.new.source)
    (search (rules, c.in_default.not-Some))

pub returns-clause-failures : goal.returns-clause-failures
returns-clause-failures g c = c.in_ok-words.ensures.failures ∙ c.loop-told.invariant.failures

pub returns-in_err-add_told-clause-names : goal.returns-in_err-add_told-clause-names
returns-in_err-add_told-clause-names g c =
    let e = err_from_is_err_and c.from_residual-in_err-add_told.result
    c.from_residual-in_err-add_told.ensures.1 in
    rw (e.1, e.2) (names_fails c.loop-told.number c.as_slice.result.now c.in_err-add_told.field-0.0
    c.in_err-add_told.ensures.failed)
