-- What `take` leaves.
use Rattle.std.proofs.Common.{ap}
use Rattle.std.proofs.lemmas.Result.{err_from_is_err_and}
use Rattle.flute_wire.specs.Reading.{facts}
use Rattle.flutejoin_replicas.specs.Held.{capacity}
use Rattle.flutejoin_replicas.proofs.Outcomes.{taken_done, taken_refused, changed, placed_at}
use Rattle.flutejoin_replicas.proofs.Outcomes.{ok_from_three, err_from, not_there, held_at}
use Rattle.flutejoin_replicas.proofs.Outcomes.{cells_at}
use Rattle.flutejoin_replicas.proofs.replicas.Replicas.take.Goals as goal

pub returns-in_err-place-clause-refused : goal.returns-in_err-place-clause-refused
returns-in_err-place-clause-refused g c =
    let refused = err_from_is_err_and c.from_residual.result c.from_residual.ensures.1 in
    rw (refused.1, refused.2, c.in_err-place.ensures.err.0)
    (not_there _ _ _ c.in_err-place.ensures.err.1)

pub returns-clause-done : goal.returns-clause-done
returns-clause-done g c =
    rw (← c.in_ok-place.ensures.ok.0, ← c.as_slice.ensures.bytes, ← c.self.view_is)
    (ok_from_three c.take.result c.take.ensures.content c.take.ensures.counted c.take.ensures.within
    (λ content counted within.
    taken_done _ _ c.take.new.self (capacity g.row.SESSIONS g.row.OBJECTS g.row.SYMBOLS)
    (placed_at _ _ c.self.view_is c.in_ok-place.ensures.ok.1 c.index_mut-target.ensures.value)
    content counted within))

pub returns-clause-refused : goal.returns-clause-refused
returns-clause-refused g c =
    rw (← c.in_ok-place.ensures.ok.0, ← c.as_slice.ensures.bytes, ← c.self.view_is)
    (err_from c.take.result c.take.ensures.fault c.take.ensures.err (λ fault cause same.
    taken_refused (capacity g.row.SESSIONS g.row.OBJECTS g.row.SYMBOLS) _
    (changed _ _ _ (placed_at _ _ c.self.view_is c.in_ok-place.ensures.ok.1
    c.index_mut-target.ensures.value)
    (ap (λ x. x.refused) same))
    (ap (λ x. x.store) same) cause))

pub returns-clause-sure : goal.returns-clause-sure
returns-clause-sure g c = λ needs.
    c.take.ensures.sure (cells_at c.args.self.now.contents
    (held_at _ _ c.self.view_is (placed_at _ _ c.self.view_is c.in_ok-place.ensures.ok.1
    c.index_mut-target.ensures.value))
    c.in_ok-place.ensures.ok.0 (ap (facts c.args.sender) c.as_slice.ensures.bytes) needs.1)
