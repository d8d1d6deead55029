-- A run, step by step.
use Rattle.std.proofs.Common.{refl, arith}
use Rattle.std.proofs.lemmas.Bool.{false≢true}
use Rattle.std.proofs.lemmas.Option.{slice_get_read}
use Rattle.flutejoin_replicas.proofs.RunSteps.{run_start, run_more, run_refused, run_stops_at_need}
use Rattle.flutejoin_replicas.proofs.RunSteps.{run_done}
use Rattle.flutejoin_replicas.proofs.runs.run.Goals as goal

pub loop-k-init : goal.loop-k-init
loop-k-init g c = rw c.in-Ok.ensures.empty (run_start _ c.args.count c.args.steps.now)

pub loop-k-preserved : goal.loop-k-preserved
loop-k-preserved g c =
    run_more c.index-steps-k.result c.loop-k.invariant
    (slice_get_read c.args.steps.now _ c.loop-k.k c.index-steps-k.result refl c.loop-k-test.true
    c.index-steps-k.is) c.in_default-step.ensures.done

pub returns-in-Err-clause-refused : goal.returns-in-Err-clause-refused
returns-in-Err-clause-refused g c = (
  c.loop-k-test.true,
  run_refused c.index-steps-k.result c.loop-k.invariant
      (slice_get_read c.args.steps.now _ c.loop-k.k c.index-steps-k.result refl c.loop-k-test.true
      c.index-steps-k.is) c.in-Err.ensures.refused,
)

pub returns-in-Err-clause-sure : goal.returns-in-Err-clause-sure
returns-in-Err-clause-sure g c =
    run_stops_at_need c.index-steps-k.result c.loop-k.invariant
    (slice_get_read c.args.steps.now _ c.loop-k.k c.index-steps-k.result refl c.loop-k-test.true
    c.index-steps-k.is) (λ needs. false≢true (c.in-Err.ensures.sure needs))

pub returns-clause-done : goal.returns-clause-done
returns-clause-done g c =
    run_done _ c.args.count c.args.steps.now c.loop-k.k c.loop-k.replicas c.loop-k.invariant
    c.loop-k-test.false (omega arith)
