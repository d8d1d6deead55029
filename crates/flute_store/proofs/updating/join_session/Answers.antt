-- join_session: the joined sessions, at a held and at a new session, and each refusal.
use Rattle.std.proofs.Common.{rules}
use Rattle.flute_store.proofs.Maps.{Objects}
use Rattle.std.proofs.Common.{◌≡◌, ◌<◌, ℕ, [], ◌∷◌, length, sym, ap, ◌∙◌, lit<, subst, arith}
use Rattle.std.proofs.Common.{inl, inr}
use Rattle.flute_store.proofs.Common
use Common.{set_value, on_ok_weaker, on_err_weaker, err_from_is_err_and, set_value_same}
use Common.{single_held, added_joins, each-value_at, object_cmp, session_cmp}
use Common.{session_total, nothing_join, session_join, session_laws}
use Common.{update_object, IsSession, SessionBeyond}
use Rattle.flute_store.proofs.OnePair.{sessions_joined, has-room, held-sound, new-sound}
use Rattle.flute_store.proofs.OnePair.{full-beyond, held-beyond, new-beyond}
use Rattle.flute_store.proofs.updating.join_session.Goals as goal

pub join_object-requires : goal.join_object-requires
join_object-requires g c =
    let sound = each-value_at session_cmp (IsSession _) c.args.sessions.now c.args.key.now.session
    c.in-Some.held.now c.requires.each (sym c.in-Some.ensures.value) in
    (lit< tt, (lit< tt, (sound.each, c.requires.update)))

pub returns-in-Some-clause-err : goal.returns-in-Some-clause-err
returns-in-Some-clause-err g c = on_err_weaker c.join_object.result (λ p. ap
    (set_value _ c.args.sessions.now) p ∙ set_value_same _ c.args.sessions.now _
    (sym c.in-Some.ensures.value)) c.join_object.ensures.err

pub returns-in-Some-clause-ok : goal.returns-in-Some-clause-ok
returns-in-Some-clause-ok g c =
    let es = c.args.sessions.now in
    on_ok_weaker c.join_object.result (λ p. ap (set_value _ es) p ∙ sym (single_held session_total
    (session_laws _) es _ c.in-Some.held.now _ c.in-Some.ensures.ordered
    (sym c.in-Some.ensures.value))) c.join_object.ensures.ok

pub returns-in-Some-clause-full : goal.returns-in-Some-clause-full
returns-in-Some-clause-full g c = λ e. inr (held-beyond (sessions_joined _) c.args.sessions.now
    _ _ (SessionBeyond _) c.in-Some.ensures.ordered
    (sym c.in-Some.ensures.value) (c.join_object.ensures.full e))

pub returns-in-Some-clause-room : goal.returns-in-Some-clause-room
returns-in-Some-clause-room g c = λ n. held-sound (sessions_joined _) (record {
  ordered = c.in-Some.ensures.ordered;
  within = c.in-Some.ensures.within;
  each = c.requires.each;
}) _ ((c.args.key.now.object, update_object _) ∷ [])
    (sym c.in-Some.ensures.value) (c.join_object.ensures.room n)

pub returns-then-len-clause-full : goal.returns-then-len-clause-full
returns-then-len-clause-full g c = λ _. inl (full-beyond (sessions_joined _) _ _ _ _
    (sym c.in_default.ensures.value) (search rules))

made : (n : ℕ) (m w : Objects n) → m ≡ [] → session_join m w ≡ w
made n m w p = rw (p, nothing_join object_cmp _ w)

pub returns-in_err-join_object-clause-full : goal.returns-in_err-join_object-clause-full
returns-in_err-join_object-clause-full g c =
    let refused = err_from_is_err_and c.from_residual.result c.from_residual.ensures.1 in
    rw (refused.1, refused.2) (λ e. inr (new-beyond (sessions_joined g.row.SYMBOLS) _ _ _ _
    c.in_default.ensures.ordered (sym c.in_default.ensures.value) (subst
    (SessionBeyond g.row.OBJECTS) (made g.row.SYMBOLS _ _ c.new-objects.ensures)
    (c.in_err-join_object.ensures.full e))))

pub returns-in_err-join_object-clause-room : goal.returns-in_err-join_object-clause-room
returns-in_err-join_object-clause-room g c =
    let refused = err_from_is_err_and c.from_residual.result c.from_residual.ensures.1 in
    let room : length c.args.sessions.now < g.row.SESSIONS = omega arith in
    rw (refused.1, refused.2) (λ n. new-sound (sessions_joined g.row.SYMBOLS)
    (has-room c.args.sessions.now c.in_default.ensures.ordered c.requires.each room) _ _
    (sym c.in_default.ensures.value) room (subst (IsSession g.row.OBJECTS)
    (made g.row.SYMBOLS _ _ c.new-objects.ensures) (c.in_err-join_object.ensures.room n)))

pub returns-clause-ok : goal.returns-clause-ok
returns-clause-ok g c = added_joins session_total (session_laws _) _ _ _ _
    (sym c.in_default.ensures.value) _
    (rw (c.in_ok-join_object.ensures.ok ∙ made _ _ _ c.new-objects.ensures) at c.add_new.ensures.ok)

pub returns-clause-room : goal.returns-clause-room
returns-clause-room g c =
    let room : length c.args.sessions.now < g.row.SESSIONS = omega arith in
    λ n. new-sound (sessions_joined _)
    (has-room _ c.in_default.ensures.ordered c.requires.each room) _ _
    (sym c.in_default.ensures.value) room (subst (IsSession g.row.OBJECTS)
    (made _ _ _ c.new-objects.ensures) (c.in_ok-join_object.ensures.room (λ e. cc)))
