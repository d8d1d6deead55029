-- What `load` leaves.
use Rattle.std.proofs.Common.{refl, List}
use Rattle.flute_parts.specs.declared.fact.Fact.{Fact}
use Rattle.std.proofs.lemmas.Result.{err_from_is_err_and}
use Rattle.flute_parts.specs.contracts.memory_source.MemorySourceSource.TheImpl as memory
use Rattle.flutejoin_replicas.specs.Held.{capacity}
use Rattle.flutejoin_replicas.proofs.Outcomes.{changed, placed_at, join_cause, not_there}
use Rattle.flutejoin_replicas.proofs.Journaled.{loaded_done, loaded_refused, not_loaded}
use Rattle.flutejoin_replicas.proofs.Journaled.{journal_known, fault_known, did_not_fail}
use Rattle.flutejoin_replicas.proofs.replicas.Replicas.load.Goals as goal

pub returns-in_err-place-clause-refused : goal.returns-in_err-place-clause-refused
returns-in_err-place-clause-refused g c =
    let refused = err_from_is_err_and c.from_residual.result c.from_residual.ensures.1 in
    rw (refused.1, refused.2, c.in_err-place.ensures.err.0)
    (not_there _ _ _ c.in_err-place.ensures.err.1)

pub returns-in_err-store-clause-refused : goal.returns-in_err-store-clause-refused
returns-in_err-store-clause-refused g c =
    let refused =
    err_from_is_err_and c.from_residual-in_err-store.result
    c.from_residual-in_err-store.ensures.1 in
    let left = memory.ghosts.unread c.read_store.new.source in
    rw (refused.1, refused.2)
    (not_loaded (capacity g.row.SESSIONS g.row.OBJECTS g.row.SYMBOLS) c.args.self.now c.args.replica
    c.in_err-store.field-0.0
    (fault_known (capacity g.row.SESSIONS g.row.OBJECTS g.row.SYMBOLS) left c.in_err-store.field-0.0
    c.new-source.ensures.bytes c.as_slice.ensures.bytes c.in_err-store.ensures.fault
    (did_not_fail (List Fact) c.in_err-store.field-0.0 _ c.in_err-store.ensures.failures)))

pub returns-in_err-joined-clause-refused : goal.returns-in_err-joined-clause-refused
returns-in_err-joined-clause-refused g c =
    let refused =
    err_from_is_err_and c.from_residual-in_err-joined.result
    c.from_residual-in_err-joined.ensures.1 in
    let read =
    journal_known _ _ c.args.journal.now c.in_ok-store.store c.new-source.ensures.bytes
    c.as_slice.ensures.bytes c.in_ok-store.ensures.journal in
    rw (refused.1, refused.2, ← c.in_ok-place.ensures.ok.0, ← c.self.view_is)
    (loaded_refused (capacity g.row.SESSIONS g.row.OBJECTS g.row.SYMBOLS) c.in_ok-store.store _
    (changed _ _ _
    (placed_at _ _ c.self.view_is c.in_ok-place.ensures.ok.1 c.index_mut-target.ensures.value) refl)
    read c.absorb-joined.ensures.above c.absorb-joined.ensures.below
    (join_cause c.absorb-joined.result c.in_err-joined.field-0.0 _
    (capacity g.row.SESSIONS g.row.OBJECTS g.row.SYMBOLS) _ c.in_err-joined.was refl
    c.absorb-joined.ensures.full))

pub returns-clause-done : goal.returns-clause-done
returns-clause-done g c =
    let read =
    journal_known _ _ c.args.journal.now c.in_ok-store.store c.new-source.ensures.bytes
    c.as_slice.ensures.bytes c.in_ok-store.ensures.journal in
    rw (← c.in_ok-place.ensures.ok.0, ← c.self.view_is)
    (loaded_done (capacity g.row.SESSIONS g.row.OBJECTS g.row.SYMBOLS) c.in_ok-store.store
    (changed _ _ _
    (placed_at _ _ c.self.view_is c.in_ok-place.ensures.ok.1 c.index_mut-target.ensures.value) refl)
    read c.in_ok-joined.ensures.ok c.keeps_order_and_limits.ensures.within)
