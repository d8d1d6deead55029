-- What `merge` leaves.
use Rattle.std.proofs.Common.{refl, ap, ◌∙◌}
use Rattle.std.proofs.lemmas.List.{get_or-set_same}
use Rattle.std.proofs.lemmas.Result.{err_from_is_err_and}
use Rattle.flutejoin_replicas.specs.Held.{capacity}
use Rattle.flutejoin_replicas.proofs.Outcomes.{merged_done, merged_refused, merged_into_itself}
use Rattle.flutejoin_replicas.proofs.Outcomes.{inside_at, join_cause, merging, not_there, placed_at}
use Rattle.flutejoin_replicas.proofs.Outcomes.{within_items}
use Rattle.flutejoin_replicas.proofs.replicas.Replicas.merge.Goals as goal

pub returns-in_err-into-clause-refused : goal.returns-in_err-into-clause-refused
returns-in_err-into-clause-refused g c =
    let refused = err_from_is_err_and c.from_residual.result c.from_residual.ensures.1 in
    rw (refused.1, refused.2, c.in_err-into.ensures.err.0)
    (not_there _ _ _ (λ named. c.in_err-into.ensures.err.1 named.0))

pub returns-in_err-from-clause-refused : goal.returns-in_err-from-clause-refused
returns-in_err-from-clause-refused g c =
    let refused =
    err_from_is_err_and c.from_residual-in_err-from.result c.from_residual-in_err-from.ensures.1 in
    rw (refused.1, refused.2, c.in_err-from.ensures.err.0)
    (not_there _ _ _ (λ named. c.in_err-from.ensures.err.1 named.1))

pub returns-then-into-from-clause-done : goal.returns-then-into-from-clause-done
returns-then-into-from-clause-done g c =
    rw (← c.in_ok-into.ensures.ok.0, ← c.in_ok-from.ensures.ok.0, ← c.if-into-from.true)
    (merged_into_itself (capacity g.row.SESSIONS g.row.OBJECTS g.row.SYMBOLS) _ c.in_ok-into.into
    c.in_ok-into.ensures.ok.1
    (inside_at _ _ (capacity g.row.SESSIONS g.row.OBJECTS g.row.SYMBOLS) c.self.view_is
    (placed_at _ _ c.self.view_is c.in_ok-into.ensures.ok.1 c.index.ensures)
    c.keeps_order_and_limits.ensures.within))

pub returns-in_err-joined-clause-refused : goal.returns-in_err-joined-clause-refused
returns-in_err-joined-clause-refused g c =
    let refused =
    err_from_is_err_and c.from_residual-in_err-joined.result
    c.from_residual-in_err-joined.ensures.1 in
    let limit = capacity g.row.SESSIONS g.row.OBJECTS g.row.SYMBOLS in
    let first =
    placed_at _ _ c.self.view_is c.in_ok-into.ensures.ok.1 c.index_mut.ensures.value in
    let second = within_items _ _ _ _ _ c.self.view_is c.in_ok-from.ensures.ok.1 in
    rw (
      refused.1,
      refused.2,
      ← c.in_ok-into.ensures.ok.0,
      ← c.in_ok-from.ensures.ok.0,
      ← c.self.view_is,
    )
    (merged_refused _ limit _
    (merging _ first second c.if-into-from.false
    (ap (λ x. x.refused) (c.index_mut-2.ensures.value
    ∙ get_or-set_same c.self.inside.replicas.items c.in_ok-into.into _ _ first.within))
    c.index-2.ensures)
    (rw (← c.replace-target.ensures.value) c.absorb-joined.ensures.above)
    (rw (← c.replace-target.ensures.value) c.absorb-joined.ensures.below)
    (rw (← c.replace-target.ensures.value)
    (join_cause c.absorb-joined.result c.in_err-joined.field-0.0 _ limit _ c.in_err-joined.was refl
    c.absorb-joined.ensures.full)))

pub returns-clause-done : goal.returns-clause-done
returns-clause-done g c =
    let first =
    placed_at _ _ c.self.view_is c.in_ok-into.ensures.ok.1 c.index_mut.ensures.value in
    let second = within_items _ _ _ _ _ c.self.view_is c.in_ok-from.ensures.ok.1 in
    rw (← c.in_ok-into.ensures.ok.0, ← c.in_ok-from.ensures.ok.0, ← c.self.view_is)
    (merged_done _ (capacity g.row.SESSIONS g.row.OBJECTS g.row.SYMBOLS)
    (merging _ first second c.if-into-from.false
    (ap (λ x. x.refused) (c.index_mut-2.ensures.value
    ∙ get_or-set_same c.self.inside.replicas.items c.in_ok-into.into _ _ first.within))
    c.index-2.ensures)
    (rw (← c.replace-target.ensures.value) c.in_ok-joined.ensures.ok)
    c.keeps_order_and_limits-2.ensures.within)
