-- join_object: the joined session, at a held and at a new object, and each refusal.
use Rattle.std.proofs.Common.{rules}
use Rattle.std.proofs.Common.{◌≡◌, ◌<◌, ℕ, [], length, bytes_eq, sym, ap, ◌∙◌, lit<, subst, arith}
use Rattle.std.proofs.Common.{inl, inr}
use Rattle.flute_store.proofs.Common
use Common.{set_value, on_ok_weaker, on_err_weaker, err_from_is_err_and, set_value_same}
use Common.{single_held, added_joins, each-value_at, object_cmp, symbol_id_cmp, object_total}
use Common.{same_information, cell_join, nothing_join, Absent, Object, object_join}
use Common.{object_join_laws, symbols_join, update_object, IsObject, ObjectBeyond}
use Rattle.flute_store.proofs.OnePair.{objects_joined, has-room, held-sound, new-sound, full-beyond}
use Rattle.flute_store.proofs.OnePair.{held-beyond, new-beyond}
use Rattle.flute_store.proofs.updating.join_object.Goals as goal

pub join_update-requires : goal.join_update-requires
join_update-requires g c = (
  lit< tt,
  (
    (each-value_at object_cmp _ _ c.args.key c.in-Some.held.now
        c.requires.each (sym c.in-Some.ensures.value)).symbols_are,
    c.requires.update,
  ),
)

pub returns-in-Some-clause-err : goal.returns-in-Some-clause-err
returns-in-Some-clause-err g c = on_err_weaker c.join_update.result (λ p. ap
    (set_value _ c.args.objects.now) p ∙ set_value_same _ c.args.objects.now _
    (sym c.in-Some.ensures.value)) c.join_update.ensures.err

pub returns-in-Some-clause-ok : goal.returns-in-Some-clause-ok
returns-in-Some-clause-ok g c =
    let es = c.args.objects.now in
    on_ok_weaker c.join_update.result (λ p. ap (set_value _ es) p ∙ sym (single_held object_total
    (object_join_laws _) _ c.args.key _ _ c.in-Some.ensures.ordered (sym c.in-Some.ensures.value)))
    c.join_update.ensures.ok

pub returns-in-Some-clause-full : goal.returns-in-Some-clause-full
returns-in-Some-clause-full g c = λ e. inr (held-beyond (objects_joined g.row.SYMBOLS)
    _ c.args.key _ ObjectBeyond
    c.in-Some.ensures.ordered (sym c.in-Some.ensures.value) (c.join_update.ensures.full e))

pub returns-in-Some-clause-room : goal.returns-in-Some-clause-room
returns-in-Some-clause-room g c = λ n. held-sound (objects_joined _) (record {
  ordered = c.in-Some.ensures.ordered;
  within = c.in-Some.ensures.within;
  each = c.requires.each;
}) _ (update_object _) (sym c.in-Some.ensures.value) (c.join_update.ensures.room n)

pub returns-then-len-clause-full : goal.returns-then-len-clause-full
returns-then-len-clause-full g c = λ _. inl (full-beyond (objects_joined _) _ _ _ _
    (sym c.in_default.ensures.value) (search rules))

made : (n : ℕ) (x : Object n) (w : Object n) → x.info ≡ Absent → x.symbols ≡ []
    → object_join x w ≡ w
made n x w p q = (λ i. record {
  info = cell_join same_information (p i) w.info;
  symbols = symbols_join (q i) w.symbols;
}) ∙ (λ i. record {
  info = w.info;
  symbols = nothing_join symbol_id_cmp (cell_join bytes_eq) w.symbols i;
})

pub returns-in_err-join_update-clause-full : goal.returns-in_err-join_update-clause-full
returns-in_err-join_update-clause-full g c =
    let refused = err_from_is_err_and c.from_residual.result c.from_residual.ensures.1 in
    rw (refused.1, refused.2) (λ e. inr (new-beyond (objects_joined _) _ _ _ ObjectBeyond
    c.in_default.ensures.ordered (sym c.in_default.ensures.value) (subst ObjectBeyond
    (made _ _ (update_object c.args.update.now) (λ _. Absent) c.new.ensures)
    (c.in_err-join_update.ensures.full e))))

pub returns-in_err-join_update-clause-room : goal.returns-in_err-join_update-clause-room
returns-in_err-join_update-clause-room g c =
    let refused = err_from_is_err_and c.from_residual.result c.from_residual.ensures.1 in
    let room : length c.args.objects.now < g.row.OBJECTS = omega arith in
    rw (refused.1, refused.2) (λ n. new-sound (objects_joined _)
    (has-room c.args.objects.now c.in_default.ensures.ordered c.requires.each room) _ _
    (sym c.in_default.ensures.value) room (subst IsObject
    (made _ _ (update_object c.args.update.now) (λ _. Absent) c.new.ensures)
    (c.in_err-join_update.ensures.room n)))

pub returns-clause-ok : goal.returns-clause-ok
returns-clause-ok g c = added_joins object_total (object_join_laws _) _ _ _ _
    (sym c.in_default.ensures.value) _ (rw
    (c.in_ok-join_update.ensures.ok ∙ (made _ _ _ (λ _. Absent) c.new.ensures)) at
    c.add_new.ensures.ok)

pub returns-clause-room : goal.returns-clause-room
returns-clause-room g c =
    let room : length c.args.objects.now < g.row.OBJECTS = omega arith in
    λ n. new-sound (objects_joined _) (has-room _ c.in_default.ensures.ordered c.requires.each room)
    _ _ (sym c.in_default.ensures.value) room (subst IsObject
    (made _ _ _ (λ _. Absent) c.new.ensures) (c.in_ok-join_update.ensures.room (λ e. cc)))
