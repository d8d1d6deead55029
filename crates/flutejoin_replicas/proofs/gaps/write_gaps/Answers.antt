-- write_gaps: its loop over the gaps of an object, and a failed write.
use Rattle.std.proofs.Common.{ap, length, arith}
use Rattle.std.proofs.lemmas.Result.{err_from_is_err_and}
use Rattle.flutejoin_replicas.proofs.Listed.{listed-at, listed-next, listed-part, listed-all}
use Rattle.flutejoin_replicas.proofs.gaps.write_gaps.Goals as goal

pub loop-gap-smaller : goal.loop-gap-smaller
loop-gap-smaller g c = omega (arith, ap length c.in-Some.ensures)

pub loop-gap-preserved : goal.loop-gap-preserved
loop-gap-preserved g c = record {
  listed =
      listed-next (listed-at c.loop-gap.invariant.listed c.in-Some.ensures)
      c.in_ok-write_gap.ensures.line;
  failures = omega (arith, c.in_ok-write_gap.ensures.failures, c.loop-gap.invariant.failures);
}

pub returns-in_err-write_gap-clause-lines : goal.returns-in_err-write_gap-clause-lines
returns-in_err-write_gap-clause-lines g c =
    let t' = g.W.Sink.written c.write_gap.new.sink in
    let e = err_from_is_err_and c.from_residual.result c.from_residual.ensures.1 in
    rw e.1
    (listed-part t' (listed-at c.loop-gap.invariant.listed c.in-Some.ensures)
    c.in_err-write_gap.ensures.line)

pub returns-in_err-write_gap-clause-failures : goal.returns-in_err-write_gap-clause-failures
returns-in_err-write_gap-clause-failures g c =
    let e = err_from_is_err_and c.from_residual.result c.from_residual.ensures.1 in
    rw e.1 (omega (arith, c.in_err-write_gap.ensures.failures, c.loop-gap.invariant.failures))

pub returns-clause-lines : goal.returns-clause-lines
returns-clause-lines g c =
    listed-all c.loop-gap.invariant.listed c.in_default.ensures.0

pub returns-clause-failures : goal.returns-clause-failures
returns-clause-failures g c = omega (arith, c.loop-gap.invariant.failures)
