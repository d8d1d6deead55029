-- What `reopen` leaves.
use Rattle.std.proofs.Common.{refl, ap, List}
use Rattle.std.proofs.lemmas.Result.{err_from_is_err_and}
use Rattle.flute_parts.specs.declared.fact.Fact.{Fact}
use Rattle.flute_parts.specs.contracts.memory_source.MemorySourceSource.TheImpl as memory
use Rattle.flutejoin_replicas.specs.Held.{capacity}
use Rattle.flutejoin_replicas.specs.declared.steps.StepFault.TheVariants.{OutOfMemory}
use Rattle.flutejoin_replicas.proofs.Outcomes.{changed, placed_at, unchanged_refused, not_there}
use Rattle.flutejoin_replicas.proofs.Outcomes.{held_at, same_read}
use Rattle.flutejoin_replicas.proofs.Journaled.{reopened_done, not_reopened, journal_known}
use Rattle.flutejoin_replicas.proofs.Journaled.{fault_known, did_not_fail, written_whole}
use Rattle.flutejoin_replicas.proofs.Journaled.{journal_written}
use Rattle.flutejoin_replicas.proofs.replicas.Replicas.reopen.Goals as goal

pub returns-in_err-place-clause-refused : goal.returns-in_err-place-clause-refused
returns-in_err-place-clause-refused g c =
    let refused = err_from_is_err_and c.from_residual.result c.from_residual.ensures.1 in
    rw (refused.1, refused.2, c.in_err-place.ensures.err.0)
    (not_there _ _ _ c.in_err-place.ensures.err.1)

pub returns-in_default-clause-refused : goal.returns-in_default-clause-refused
returns-in_default-clause-refused g c =
    unchanged_refused (capacity g.row.SESSIONS g.row.OBJECTS g.row.SYMBOLS) c.args.self.now _ _
    OutOfMemory refl (λ origin _. tt)

pub returns-in_err-store-clause-refused : goal.returns-in_err-store-clause-refused
returns-in_err-store-clause-refused g c =
    let refused =
    err_from_is_err_and c.from_residual-in_err-store.result
    c.from_residual-in_err-store.ensures.1 in
    let limit = capacity g.row.SESSIONS g.row.OBJECTS g.row.SYMBOLS in
    let left = memory.ghosts.unread c.read_store.new.source in
    let whole =
    written_whole _ _ _ c.as_slice.result.now c.new-sink.ensures.bytes c.as_slice.ensures
    c.in-Ok.ensures.bytes in
    rw (refused.1, refused.2, ← c.in_ok-place.ensures.ok.0)
    (not_reopened limit c.args.self.now c.in_ok-place.place c.in_err-store.field-0.0
    (held_at _ _ c.self.view_is
    (placed_at _ _ c.self.view_is c.in_ok-place.ensures.ok.1 c.index.ensures))
    (journal_written _ c.as_slice.result.now c.index.result.now.store _ whole refl
    c.in-Ok.ensures.journal)
    (fault_known limit left c.in_err-store.field-0.0 c.new-source.ensures.bytes refl
    c.in_err-store.ensures.fault
    (did_not_fail (List Fact) c.in_err-store.field-0.0 _ c.in_err-store.ensures.failures)))

pub returns-clause-done : goal.returns-clause-done
returns-clause-done g c =
    let placed =
    placed_at _ _ c.self.view_is c.in_ok-place.ensures.ok.1 c.index_mut.ensures.value in
    let whole =
    written_whole _ _ _ c.as_slice.result.now c.new-sink.ensures.bytes c.as_slice.ensures
    c.in-Ok.ensures.bytes in
    let same =
    same_read c.self.inside.replicas.items c.in_ok-place.place c.index.result.now
    c.index_mut.result.now placed.within c.index.ensures c.index_mut.ensures.value in
    rw (← c.in_ok-place.ensures.ok.0, ← c.self.view_is)
    (reopened_done (capacity g.row.SESSIONS g.row.OBJECTS g.row.SYMBOLS) c.as_slice.result.now
    (changed _ _ _ placed refl)
    (journal_written _ c.as_slice.result.now c.index.result.now.store _ whole
    (ap (λ x. x.store) same) c.in-Ok.ensures.journal)
    (journal_known _ _ c.as_slice.result.now c.in_ok-store.store c.new-source.ensures.bytes refl
    c.in_ok-store.ensures.journal)
    c.in_ok-store.ensures.within)
