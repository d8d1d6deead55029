-- What `add` leaves.
use Rattle.std.proofs.Common.{Err, refl, ap}
use Rattle.std.proofs.lemmas.Result.{err_from_is_err_and}
use Rattle.flutejoin_replicas.specs.Held.{capacity}
use Rattle.flutejoin_replicas.proofs.Outcomes.{given_done, added_refused, added_within, changed}
use Rattle.flutejoin_replicas.proofs.Outcomes.{placed_at, not_there}
use Rattle.flutejoin_replicas.proofs.replicas.Replicas.add.Goals as goal

pub returns-in_err-place-clause-refused : goal.returns-in_err-place-clause-refused
returns-in_err-place-clause-refused g c =
    let refused = err_from_is_err_and c.from_residual.result c.from_residual.ensures.1 in
    rw (refused.1, refused.2, c.in_err-place.ensures.err.0)
    (not_there _ _ _ c.in_err-place.ensures.err.1)

pub returns-in_err-add-clause-refused : goal.returns-in_err-add-clause-refused
returns-in_err-add-clause-refused g c =
    let refused =
    err_from_is_err_and c.from_residual-in_err-add.result c.from_residual-in_err-add.ensures.1 in
    rw (refused.1, refused.2, ← c.in_ok-place.ensures.ok.0, ← c.self.view_is)
    (added_refused (capacity g.row.SESSIONS g.row.OBJECTS g.row.SYMBOLS) _ c.in_err-add.field-0.0
    (changed _ _ _
    (placed_at _ _ c.self.view_is c.in_ok-place.ensures.ok.1 c.index_mut-target.ensures.value) refl)
    c.in_err-add.ensures.err (λ e. c.in_err-add.ensures.full.0 (ap Err e)))

pub returns-clause-done : goal.returns-clause-done
returns-clause-done g c =
    rw (← c.in_ok-place.ensures.ok.0, ← c.self.view_is)
    (given_done (capacity g.row.SESSIONS g.row.OBJECTS g.row.SYMBOLS) _
    (changed _ _ _
    (placed_at _ _ c.self.view_is c.in_ok-place.ensures.ok.1 c.index_mut-target.ensures.value) refl)
    (record { named = λ k. k; journal = tt; readable = tt; accepted = λ r. refl })
    (λ origin _. (_, refl, c.in_ok-add.ensures.ok))
    (added_within (capacity g.row.SESSIONS g.row.OBJECTS g.row.SYMBOLS) _ c.add.new.self
    (λ over. let e = c.in_ok-add.ensures.full.1 over in cc) c.in_ok-add.ensures.ok))
