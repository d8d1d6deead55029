-- JoinMap::join_from: its loop over the other map's keys, and each clause when it stops or ends.
use Rattle.std.proofs.Common.{◌≡◌, [], ◌∷◌, ◌++◌, IsNone, Some, Err, sym, ap}
use Rattle.std.proofs.Common.{◌∙◌, subst, append_assoc}
use Rattle.std.specs.Map.{keys_of}
use Rattle.std.proofs.lemmas.Map.Keys.{sorted_tail}
use Rattle.std.proofs.lemmas.Result.{err_from_is_err_and}
use Rattle.flute_join.specs.JoinMap.{IsOrdered, value_at, map_join, MapOver, EachValue}
use Rattle.flute_join.specs.MapLaws.{map_join_laws, join_nothing}
use Rattle.flute_join.specs.Semilattice.{IsBelow}
use Rattle.flute_join.proofs.Below.{below_self, below_join, below_trans}
use Rattle.flute_join.proofs.Below.{error_iff}
use Rattle.flute_join.proofs.Under.{ordered_under}
use Rattle.flute_join.proofs.Copied.{value_there}
use Rattle.flute_join.proofs.Walk.{ordered_one, join_step, join_more, value_past, over_first}
use Rattle.flute_join.proofs.Walk.{over_rest, over_later, not_over_nothing}
use Rattle.flute_join.proofs.Sound.{some_above, ordered_between}
use Rattle.flute_join.proofs.map.JoinMapJoin.join_from.Goals as goal

pub loop-key-init : goal.loop-key-init
loop-key-init g c =
    let laws = map_join_laws g.met.K.Ord.total g.met.K.MapKey.same_where_equal
    g.met.V.Join.join_laws in
    let es = c.args.self.now in
    let all = c.into_iter-key-iterator.ensures.into_iter_gives ∙ c.iter-key-items.ensures.rest in
    record {
      before = [];
      parts = all;
      done = sym (join_nothing _ _ es);
      left = ap (map_join _ _ es) all;
      above_old = below_self laws es;
      forbidden = λ o. rw all at o;
      forbids = λ o. rw all o;
      ordered = rw all c.iter-key-items.ensures.ordered;
      each = λ x y. (x, rw all y);
    }

pub loop-key-preserved : goal.loop-key-preserved
loop-key-preserved g c =
    let order = g.met.K.Ord.total in
    let same = g.met.K.MapKey.same_where_equal in
    let inner = g.met.V.Join.join_laws in
    let laws = map_join_laws order same inner in
    let es = c.loop-key.self in
    let p : g.row.K.Denot × g.row.V.Denot = (c.in-Some.key.now, c.in-Some.value.now) in
    let rest = c.next.new.self in
    let before = rw c.in-Some.ensures.steps at c.loop-key.invariant in
    let joined = c.in_ok-join_at.ensures.ok in
    let so_far = c.loop-key.invariant.before in
    let parts = ap (λ l. so_far ++ l) (sym c.in-Some.ensures.steps) ∙ c.loop-key.invariant.parts in
    let whole : IsOrdered g.K.Ord.cmp (so_far ++ p ∷ rest) =
    subst (IsOrdered g.K.Ord.cmp) (sym parts) c.iter-key-items.ensures.ordered in
    record {
      before = so_far ++ p ∷ [];
      parts = append_assoc so_far (p ∷ []) rest ∙ parts;
      done = joined
          ∙ ap (λ m. map_join g.K.Ord.cmp g.V.Join.joined m (p ∷ [])) c.loop-key.invariant.done
          ∙ join_more order same inner c.args.self.now so_far p rest whole;
      left = ap (λ m. map_join g.K.Ord.cmp g.V.Join.joined m rest) joined
          ∙ sym (join_step order same inner es p rest before.ordered) ∙ before.left;
      above_old = below_trans laws c.args.self.now es c.join_at.new.self before.above_old
          c.join_at.ensures.above_old;
      forbidden = λ o. before.forbidden
          (over_rest order same inner g.row.LIMIT g.V.Join.over es p rest c.join_at.ensures.ordered
          before.ordered
          (subst (λ m. MapOver g.K.Ord.cmp g.V.Join.joined g.row.LIMIT g.V.Join.over m rest)
          joined o));
      forbids = λ o.
          rw joined (over_later order same inner g.row.LIMIT g.V.Join.over es p rest
          c.join_at.ensures.ordered before.ordered c.in_ok-join_at.ensures.within
          (before.forbids o));
      ordered = sorted_tail g.K.Ord.cmp c.in-Some.key.now (keys_of rest) before.ordered;
      each = λ x y. let sound =
          before.each x y in (c.join_at.ensures.each sound.0 sound.1.0, sound.1.1);
    }

pub returns-in_err-join_at-clause-above_old : goal.returns-in_err-join_at-clause-above_old
returns-in_err-join_at-clause-above_old g c =
    let laws = map_join_laws g.met.K.Ord.total g.met.K.MapKey.same_where_equal
    g.met.V.Join.join_laws in below_trans laws _ _ _ c.loop-key.invariant.above_old
    c.join_at.ensures.above_old

pub returns-in_err-join_at-clause-below_join : goal.returns-in_err-join_at-clause-below_join
returns-in_err-join_at-clause-below_join g c =
    let order = g.met.K.Ord.total in
    let same = g.met.K.MapKey.same_where_equal in
    let inner = g.met.V.Join.join_laws in
    let laws = map_join_laws order same inner in
    let es = c.loop-key.self in
    let p : g.row.K.Denot × g.row.V.Denot = (c.in-Some.key.now, c.in-Some.value.now) in
    let rest = c.next.new.self in
    let before = rw c.in-Some.ensures.steps at c.loop-key.invariant in
    let joined = map_join g.K.Ord.cmp _ es (p ∷ []) in
    let whole = sym
    (join_step order same inner es p rest before.ordered) ∙ before.left in below_trans laws
    _ joined _ c.join_at.ensures.below_join (rw whole at (below_join laws joined rest))

pub returns-in_err-join_at-clause-full : goal.returns-in_err-join_at-clause-full
returns-in_err-join_at-clause-full g c =
    let order = g.met.K.Ord.total in
    let same = g.met.K.MapKey.same_where_equal in
    let inner = g.met.V.Join.join_laws in
    let p : g.row.K.Denot × g.row.V.Denot = (c.in-Some.key.now, c.in-Some.value.now) in
    let before = rw c.in-Some.ensures.steps at c.loop-key.invariant in
    let refused = err_from_is_err_and c.from_residual.result c.from_residual.ensures.1 in
    rw (refused.1, refused.2) (λ e. before.forbidden
    (over_first order same inner _ _ _ p _ before.ordered (c.in_err-join_at.ensures.full e)))

pub returns-clause-ok : goal.returns-clause-ok
returns-clause-ok g c =
    let after = rw c.in-None.ensures.steps.0 at c.loop-key.invariant in
    sym (join_nothing _ _ _) ∙ after.left

pub returns-clause-below_join : goal.returns-clause-below_join
returns-clause-below_join g c =
    let laws = map_join_laws g.met.K.Ord.total g.met.K.MapKey.same_where_equal
    g.met.V.Join.join_laws in rw (← returns-clause-ok g c) (below_self laws _)

pub returns-clause-within : goal.returns-clause-within
returns-clause-within g c =
    let after = rw c.in-None.ensures.steps.0 at c.loop-key.invariant in
    λ o. not_over_nothing g.met.K.Ord.total g.met.K.MapKey.same_where_equal g.met.V.Join.join_laws _
    _ _ (rw c.self.view_is at c.self.invariant.1) (after.forbids o)

pub returns-in_err-join_at-clause-each : goal.returns-in_err-join_at-clause-each
returns-in_err-join_at-clause-each g c =
    let before = rw c.in-Some.ensures.steps at c.loop-key.invariant in
    λ x y. let so_far = before.each x y in c.join_at.ensures.each so_far.0 so_far.1.0

pub returns-in_err-join_at-clause-ordered : goal.returns-in_err-join_at-clause-ordered
returns-in_err-join_at-clause-ordered g c =
    let p : g.row.K.Denot × g.row.V.Denot = (c.in-Some.key.now, c.in-Some.value.now) in
    ordered_between g.met.K.Ord.total _ _ _ _ c.join_at.ensures.below_join c.join_at.ensures.ordered
    (ordered_one g.met.K.Ord.total g.met.K.MapKey.same_where_equal g.met.V.Join.join_laws p)

pub returns-clause-each : goal.returns-clause-each
returns-clause-each g c = λ x y. (c.loop-key.invariant.each x y).0

pub returns-in_err-join_at-clause-stays_sound : goal.returns-in_err-join_at-clause-stays_sound
returns-in_err-join_at-clause-stays_sound g c =
    let above = returns-in_err-join_at-clause-above_old g c in
    λ x y. record {
      ordered = returns-in_err-join_at-clause-ordered g c;
      within = c.join_at.ensures.within_limit;
      some = some_above g.met.K.Ord.total _ _ _ above x.some;
      each = returns-in_err-join_at-clause-each g c x.each y.each;
    }

pub returns-clause-stays_sound : goal.returns-clause-stays_sound
returns-clause-stays_sound g c = λ x y. record {
  ordered = rw c.self.view_is at c.self.invariant.0;
  within = rw c.self.view_is at c.self.invariant.1;
  some = some_above g.met.K.Ord.total _ _ _ c.loop-key.invariant.above_old x.some;
  each = returns-clause-each g c x.each y.each;
}

pub returns-in_err-join_at-clause-stops : goal.returns-in_err-join_at-clause-stops
returns-in_err-join_at-clause-stops g c =
    let cmp = g.K.Ord.cmp in
    let order = g.met.K.Ord.total in
    let same = g.met.K.MapKey.same_where_equal in
    let inner = g.met.V.Join.join_laws in
    let join = map_join cmp _ in
    let es = c.loop-key.self in
    let p : g.row.K.Denot × g.row.V.Denot = (c.in-Some.key.now, c.in-Some.value.now) in
    let rest = c.next.new.self in
    let so_far = c.loop-key.invariant.before in
    let done = c.loop-key.invariant.done in
    let parts = ap (λ l. so_far ++ l) (sym c.in-Some.ensures.steps) ∙ c.loop-key.invariant.parts in
    let whole : IsOrdered cmp (so_far ++ p ∷ rest) = subst (IsOrdered cmp) (sym parts)
    c.iter-key-items.ensures.ordered in
    let start : IsOrdered cmp c.args.self.now = ordered_under order _ _ es
    c.loop-key.invariant.above_old c.join_at.ensures.ordered in
    let past : value_at cmp es p.0 ≡ value_at cmp c.args.self.now p.0 = ap (λ m. value_at cmp m p.0)
    done ∙ value_past order same inner _ so_far p rest start whole in
    let was = c.in_err-join_at.was in
    let refused = err_from_is_err_and c.from_residual.result c.from_residual.ensures.1 in
    rw (refused.1, refused.2) (record {
      before = so_far;
      entry = p;
      after = rest;
      parts = sym parts;
      above = subst (λ m. IsBelow join m c.join_at.new.self) done c.join_at.ensures.above_old;
      below = subst (IsBelow join c.join_at.new.self) (ap (λ m. join m (p ∷ [])) done ∙ join_more
          order same inner c.args.self.now so_far p rest whole) c.join_at.ensures.below_join;
      new_unchanged = λ n. c.in_err-join_at.ensures.new_unchanged (rw past n) ∙ done;
      new_full = λ n. let new = subst IsNone (sym past) n in
          let unchanged = c.in_err-join_at.ensures.new_unchanged new in
          rw unchanged (error_iff _ _ _ _ was (c.join_at.ensures.new_full new));
      held_full = λ v f q. c.join_at.ensures.held_full v (past ∙ f) (was ∙ ap Err q);
      held_memory = λ v f q. c.join_at.ensures.held_memory v (past ∙ f) (was ∙ ap Err q);
    })

pub returns-in_err-join_at-clause-memory : goal.returns-in_err-join_at-clause-memory
returns-in_err-join_at-clause-memory g c =
    let cmp = g.K.Ord.cmp in
    let order = g.met.K.Ord.total in
    let p : g.row.K.Denot × g.row.V.Denot = (c.in-Some.key.now, c.in-Some.value.now) in
    let rest = c.next.new.self in
    let so_far = c.loop-key.invariant.before in
    let parts = ap (λ l. so_far ++ l) (sym c.in-Some.ensures.steps) ∙ c.loop-key.invariant.parts in
    let whole : IsOrdered cmp (so_far ++ p ∷ rest) = subst (IsOrdered cmp) (sym parts)
    c.iter-key-items.ensures.ordered in
    let start : IsOrdered cmp c.args.self.now = ordered_under order g.V.Join.joined c.args.self.now
    c.loop-key.self c.loop-key.invariant.above_old c.join_at.ensures.ordered in
    let past = ap (λ m. value_at cmp m p.0) c.loop-key.invariant.done ∙ value_past order
    g.met.K.MapKey.same_where_equal g.met.V.Join.join_laws c.args.self.now so_far p rest start whole
    in
    let found : value_at cmp c.args.other.now p.0 ≡ Some p.1 = ap (λ l. value_at cmp l p.0)
    (sym parts) ∙ value_there order so_far p rest whole in
    let refused = err_from_is_err_and c.from_residual.result c.from_residual.ensures.1 in
    rw (refused.1, refused.2) (λ q. (
      p.0,
      p.1,
      found,
      λ v f. c.join_at.ensures.held_memory v
          (past ∙ f) (c.in_err-join_at.was ∙ ap Err q),
    ))
