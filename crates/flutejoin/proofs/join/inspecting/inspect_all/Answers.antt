-- inspect_all: inputs inspected in turn.
use Rattle.std.proofs.Common.{rules}
use Rattle.std.proofs.Common.{◌<◌, ◌∙◌, length, arith}
use Rattle.std.proofs.lemmas.Option.{slice_get-get_or}
use Rattle.std.proofs.lemmas.Result.{err_from_is_err_and}
use Rattle.flutejoin.proofs.join_lemmas.Inspections.{inspected_none, inspected_more, finds_all}
use Rattle.flutejoin.proofs.join_lemmas.Inspections.{inspect_fails}
use Rattle.flutejoin.proofs.join_lemmas.Inspections.{inspect_names, inspect_reads, inspect_failed}
use Rattle.flutejoin.proofs.join.inspecting.inspect_all.Goals as goal

pub loop-k-init : goal.loop-k-init
loop-k-init g c = search (rules, inspected_none)

pub returns-in_err-inspect-clause-failed : goal.returns-in_err-inspect-clause-failed
returns-in_err-inspect-clause-failed g c = λ told contents inputs. let e = err_from_is_err_and
    c.from_residual.result c.from_residual.ensures.1 in
    let within : c.loop-k.k < length c.loop-k.inputs = omega
    (arith, c.loop-k.auto.inputs, c.loop-k-test.true) in rw (e.1, e.2) (inspect_fails
    c.loop-k.invariant.inspected
    (slice_get-get_or c.loop-k.inputs c.loop-k.k c.index-inputs-k.result within)
    c.in_err-inspect.field-0.0 c.in_err-inspect.ensures.failed told contents inputs)

pub returns-in_err-inspect-clause-names : goal.returns-in_err-inspect-clause-names
returns-in_err-inspect-clause-names g c =
    let e = err_from_is_err_and c.from_residual.result c.from_residual.ensures.1 in
    let within : c.loop-k.k < length c.loop-k.inputs = omega
    (arith, c.loop-k.auto.inputs, c.loop-k-test.true) in rw (e.1, e.2) (inspect_names
    c.loop-k.invariant.inspected
    (slice_get-get_or c.loop-k.inputs c.loop-k.k c.index-inputs-k.result within)
    c.in_err-inspect.field-0.0 c.in_err-inspect.ensures.names)

pub returns-in_err-inspect-clause-no_sink : goal.returns-in_err-inspect-clause-no_sink
returns-in_err-inspect-clause-no_sink g c =
    let e = err_from_is_err_and c.from_residual.result c.from_residual.ensures.1 in
    rw (e.1, e.2)
    (inspect_reads c.loop-k.k c.in_err-inspect.field-0.0 c.in_err-inspect.ensures.names)

pub returns-in_err-inspect-clause-one_failed : goal.returns-in_err-inspect-clause-one_failed
returns-in_err-inspect-clause-one_failed g c =
    let e = err_from_is_err_and c.from_residual.result c.from_residual.ensures.1 in
    let within : c.loop-k.k < length c.loop-k.inputs = omega
    (arith, c.loop-k.auto.inputs, c.loop-k-test.true) in rw (e.1, e.2) (inspect_failed
    c.loop-k.invariant.inspected
    (slice_get-get_or c.loop-k.inputs c.loop-k.k c.index-inputs-k.result within) c.inspect.new.input
    c.in_err-inspect.field-0.0 c.in_err-inspect.ensures.names c.in_err-inspect.ensures.failures)

pub loop-k-preserved : goal.loop-k-preserved
loop-k-preserved g c =
    let within : c.loop-k.k < length c.loop-k.inputs = omega
    (arith, c.loop-k.auto.inputs, c.loop-k-test.true) in record {
      inspected = inspected_more c.loop-k.invariant.inspected
          (slice_get-get_or c.loop-k.inputs c.loop-k.k c.index-inputs-k.result within)
          c.inspect.new.input c.in_ok-inspect.ensures.ready
          (λ told. c.in_ok-inspect.ensures.inspected (c.loop-k.invariant.same_tells ∙ told))
          c.in_ok-inspect.ensures.few c.in_ok-inspect.ensures.failures;
      same_tells = c.inspect.ensures.same_tells ∙ c.loop-k.invariant.same_tells;
      made = omega (arith, c.inspect.ensures.made.0, c.loop-k.invariant.made);
      put = omega (arith, c.in_ok-inspect.ensures.put, c.loop-k.invariant.put);
    }

pub returns-clause-inspected : goal.returns-clause-inspected
returns-clause-inspected g c = finds_all c.loop-k.invariant.inspected
    (omega (arith, c.loop-k.auto.inputs, c.loop-k-test.false))

pub returns-in_err-inspect-clause-made : goal.returns-in_err-inspect-clause-made
returns-in_err-inspect-clause-made g c =
    let e = err_from_is_err_and c.from_residual.result c.from_residual.ensures.1 in
    let made = c.in_err-inspect.ensures.made in (
      omega (arith, made.0, c.loop-k.invariant.made),
      rw (e.1, e.2)
          (λ is. let more = made.1 is in omega (arith, more, c.loop-k.invariant.made)),
    )
