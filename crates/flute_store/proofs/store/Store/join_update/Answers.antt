-- Store::join_update: the joined facts, when it is full, and success where addresses are held.
use Rattle.std.proofs.Common.{rules}
use Rattle.std.proofs.Common.{◌≡◌, ◌++◌, Err, sym, subst, Result}
use Rattle.flute_store.proofs.StoreJoin.{ordered-store, content-join, one_object, one-ordered}
use Rattle.flute_store.proofs.{StoreJoin.{one-content}, Counting.{not_over}, Found.{news_held}}
use Rattle.flute_store.proofs.Exceeding.{beyond-joined, solid-store, solid-one}
use Rattle.flute_store.proofs.Common
use Common.{on_ok_weaker, Full, Same, Over-below, Below-from_Same, Same-sym, content, store_join}
use Common.{JoinRefusal}
use Rattle.flute_store.proofs.store.Store.join_update.Goals as goal

pub returns-clause-ok : goal.returns-clause-ok
returns-clause-ok g c =
    let both = content c.self.inside.sessions ++ content
    (one_object g.row.SYMBOLS c.args.key.now c.args.update.now) in rw
    (← c.self.view_is, ← one-content g.row.SYMBOLS c.args.key.now c.args.update.now) (on_ok_weaker
    c.join_session.result (λ p. subst (λ m. Same (content m) both) (sym p) (content-join _ _
    (ordered-store _ _ _ c.self.invariant)
    (one-ordered g.row.SYMBOLS c.args.key.now c.args.update.now))) c.join_session.ensures.ok)

is_full : (r : Result (Unit {0}) JoinRefusal) → ((r ≡ Err Full → ⊥) → ⊥) → r ≡ Err Full
is_full = search rules

pub returns-clause-full : goal.returns-clause-full
returns-clause-full g c =
    let old = c.self.inside.sessions in
    let one = one_object g.row.SYMBOLS c.args.key.now c.args.update.now in
    let ordered = one-ordered g.row.SYMBOLS c.args.key.now c.args.update.now in
    rw (← c.self.view_is, ← one-content g.row.SYMBOLS c.args.key.now c.args.update.now) (
      λ e.
          beyond-joined _ _ _ _ (solid-store _ _ _ c.self.invariant)
          (solid-one g.row.SYMBOLS c.args.key.now c.args.update.now c.requires)
          (c.join_session.ensures.full e),
      λ over. is_full c.join_session.result (λ h. let r =
          c.join_session.ensures.room h in not_over g.row.SESSIONS g.row.OBJECTS (store_join old
          one)
          (record { ordered = r.ordered; within = r.within; each = r.each }) (Over-below _ _ _ _ _
          (Below-from_Same
          _ _ (Same-sym _ _ (content-join old one (ordered-store _ _ _ c.self.invariant) ordered)))
          over)),
    )

pub returns-clause-held : goal.returns-clause-held
returns-clause-held g c =
    let news = news_held c.self.invariant c.args.key.now c.args.update.now.info
    c.args.update.now.symbol c.requires.some in rw (← c.self.view_is)
    (λ h. c.join_session.ensures.held (news h))
