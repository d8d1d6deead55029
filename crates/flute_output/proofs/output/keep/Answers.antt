use Rattle.flute_output.proofs.Moments.{steady_then}
use Rattle.flute_output.proofs.Runs.{on_err, on_err_with}
use Rattle.flute_output.proofs.Steps.{keep_given}
use Rattle.flute_output.proofs.output.keep.Goals as goal

pub returns-in_err-sync-clause-steady : goal.returns-in_err-sync-clause-steady
returns-in_err-sync-clause-steady g c =
    on_err _ _ (steady_then (λ m. m) _ _ _ c.flush.ensures.steady c.sync.ensures.steady)

pub returns-clause-given : goal.returns-clause-given
returns-clause-given g c = keep_given _ _ _ _ c.flush.ensures.steady c.sync.ensures.steady
    c.put_in_place.result _ _ _ _ c.in_ok-flush.ensures.flushed c.in_ok-sync.ensures.synced
    c.put_in_place.ensures.given

pub returns-clause-steady : goal.returns-clause-steady
returns-clause-steady g c = on_err_with c.put_in_place.result _ _ c.put_in_place.ensures.steady
    (λ s. steady_then (λ m. m) _ _ _ c.flush.ensures.steady
    (steady_then (λ m. m) _ _ _ c.sync.ensures.steady s))
