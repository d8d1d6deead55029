-- Store::absorb: the joined store holds the facts of both, within its limits, or why not.
use Rattle.std.proofs.Common.{rules}
use Rattle.std.proofs.Common.{◌++◌, sym, subst, refl}
use Rattle.flute_store.proofs.NewFacts.{needs-new}
use Rattle.flute_store.proofs.Exceeding.{solid-store, beyond-joined, over-beyond}
use Rattle.flute_store.proofs.StoreJoin.{ordered-store, content-join, content-below}
use Rattle.flute_store.proofs.StoreJoin.{content-below_join}
use Rattle.flute_store.proofs.Common.{on_ok_weaker, IfErr-at_err, Same, content}
use Rattle.flute_store.proofs.store.Store.absorb.Goals as goal

pub invariant_of-self : goal.invariant_of-self
invariant_of-self = search rules

pub returns-clause-ok : goal.returns-clause-ok
returns-clause-ok g c =
    let join = content-join _ _ (ordered-store _ _ _ c.self.invariant)
    (ordered-store _ _ _ c.other.invariant) in rw (← c.self.view_is, ← c.other.view_is)
    (on_ok_weaker
    c.join_from.result (λ p. subst
    (λ m. Same (content m) (content c.self.inside.sessions ++ content c.other.inside.sessions))
    (sym p) join) c.join_from.ensures.ok)

pub returns-clause-above : goal.returns-clause-above
returns-clause-above g c = rw (← c.self.view_is) (content-below _ _
    (ordered-store _ _ _ c.self.invariant) (ordered-store _ _ _ (invariant_of-self g c))
    c.join_from.ensures.above_old)

pub returns-clause-below : goal.returns-clause-below
returns-clause-below g c = rw (← c.self.view_is, ← c.other.view_is) (content-below_join _ _ _
    (ordered-store _ _ _ (invariant_of-self g c)) (ordered-store _ _ _ c.self.invariant)
    (ordered-store _ _ _ c.other.invariant) c.join_from.ensures.below_join)

pub returns-clause-full : goal.returns-clause-full
returns-clause-full g c =
    let p = solid-store _ _ _ c.self.invariant in
    let q = solid-store _ _ _ c.other.invariant in
    rw (← c.self.view_is, ← c.other.view_is) (λ e. beyond-joined _ _ _ _ p q
    (over-beyond _ _ _ _ p q (IfErr-at_err _ e c.join_from.ensures.full refl)))

pub returns-clause-memory : goal.returns-clause-memory
returns-clause-memory g c =
    let p = solid-store _ _ _ c.self.invariant in
    let q = solid-store _ _ _ c.other.invariant in
    rw (← c.self.view_is, ← c.other.view_is)
    (λ e. needs-new p q (IfErr-at_err _ e c.join_from.ensures.memory refl))
