-- JoinMap::join_at: at a held and at a new key, after success and each refusal, each clause.
use Rattle.std.proofs.Common.{arith, ◌<◌, [], ◌∷◌, length, sym, ap, ◌∙◌, subst}
use Rattle.std.specs.BTreeMap.{is_at}
use Rattle.std.specs.Map.{set_value}
use Rattle.std.proofs.lemmas.Result.{on_ok_weaker}
use Rattle.std.proofs.lemmas.Map.{length-set_value}
use Rattle.flute_join.specs.JoinMap.{map_join}
use Rattle.flute_join.specs.Semilattice.{IsBelow}
use Rattle.flute_join.proofs.Below.{below_self, below_join, by_outcome}
use Rattle.flute_join.specs.MapLaws.{map_join_laws}
use Rattle.flute_join.proofs.Single.{single_held, held_above, held_below, not_over_held, over_new}
use Rattle.flute_join.proofs.Single.{not_over_new}
use Rattle.flute_join.proofs.Sound.{each-value_at, each-set_value}
use Rattle.flute_join.proofs.map.JoinMap.join_at.Goals as goal

pub returns-in-Some-clause-ok : goal.returns-in-Some-clause-ok
returns-in-Some-clause-ok g c =
    let joined = single_held g.met.K.Ord.total g.met.V.Join.join_laws _ c.args.key _ _
    c.in-Some.ensures.ordered (sym c.in-Some.ensures.value) in on_ok_weaker c.join_from.result
    (λ p. ap (set_value _ c.args.self.now) p ∙ sym joined) c.join_from.ensures.ok

pub returns-in-Some-clause-above_old : goal.returns-in-Some-clause-above_old
returns-in-Some-clause-above_old g c = held_above g.met.K.Ord.total g.met.V.Join.join_laws _ _ _ _
    (sym c.in-Some.ensures.value) c.join_from.ensures.above_old

pub returns-in-Some-clause-below_join : goal.returns-in-Some-clause-below_join
returns-in-Some-clause-below_join g c = held_below g.met.K.Ord.total g.met.V.Join.join_laws _ _ _ _
    _ c.in-Some.ensures.ordered (sym c.in-Some.ensures.value) c.join_from.ensures.below_join

pub returns-in-Some-clause-within : goal.returns-in-Some-clause-within
returns-in-Some-clause-within g c = on_ok_weaker _ (not_over_held g.met.K.Ord.total
    g.met.V.Join.join_laws g.met.K.MapKey.same_where_equal _ _ _ _ _ _ c.in-Some.ensures.ordered
    c.in-Some.ensures.within (sym c.in-Some.ensures.value)) c.join_from.ensures.within

pub returns-then-len-clause-above_old : goal.returns-then-len-clause-above_old
returns-then-len-clause-above_old g c = below_self
    (map_join_laws g.met.K.Ord.total g.met.K.MapKey.same_where_equal g.met.V.Join.join_laws) _

pub returns-then-len-clause-below_join : goal.returns-then-len-clause-below_join
returns-then-len-clause-below_join g c = below_join
    (map_join_laws g.met.K.Ord.total g.met.K.MapKey.same_where_equal g.met.V.Join.join_laws) _ _

pub returns-in_err-copy-clause-above_old : goal.returns-in_err-copy-clause-above_old
returns-in_err-copy-clause-above_old g c = below_self
    (map_join_laws g.met.K.Ord.total g.met.K.MapKey.same_where_equal g.met.V.Join.join_laws) _

pub returns-in_err-copy-clause-below_join : goal.returns-in_err-copy-clause-below_join
returns-in_err-copy-clause-below_join g c = below_join
    (map_join_laws g.met.K.Ord.total g.met.K.MapKey.same_where_equal g.met.V.Join.join_laws) _ _

pub returns-then-len-clause-full : goal.returns-then-len-clause-full
returns-then-len-clause-full g c =
    let absent = sym c.in_default.ensures.value in
    let full = sym c.len.ensures.value ∙ c.if-len.true in
    λ _. over_new g.met.K.Ord.total g.met.V.Join.join_laws g.met.K.MapKey.same_where_equal
    _ _ _ _ _ full absent

pub returns-clause-ok : goal.returns-clause-ok
returns-clause-ok g c = rw c.in_ok-copy.ensures.equal at c.add_new.ensures.joins

pub returns-clause-above_old : goal.returns-clause-above_old
returns-clause-above_old g c =
    let laws = map_join_laws g.met.K.Ord.total g.met.K.MapKey.same_where_equal
    g.met.V.Join.join_laws in
    let es = c.args.self.now in
    by_outcome (IsBelow (map_join _ _) es) _ (returns-clause-ok g c) c.add_new.ensures.err
    (below_join laws es _) (below_self laws es)

pub returns-clause-below_join : goal.returns-clause-below_join
returns-clause-below_join g c =
    let laws = map_join_laws g.met.K.Ord.total g.met.K.MapKey.same_where_equal
    g.met.V.Join.join_laws in
    let es = c.args.self.now in
    let joined = map_join _ _ es ((c.args.key, c.args.value.now) ∷ []) in
    by_outcome (λ m. IsBelow (map_join g.K.Ord.cmp g.V.Join.joined) m joined) _
    (returns-clause-ok g c) c.add_new.ensures.err (below_self laws _) (below_join laws es _)

pub returns-clause-within : goal.returns-clause-within
returns-clause-within g c =
    let room : length c.args.self.now < g.row.LIMIT = omega
    (arith, c.len.ensures.value, c.len.ensures.within, c.if-len.false) in on_ok_weaker
    c.add_new.result (λ _. not_over_new g.met.K.Ord.total g.met.V.Join.join_laws
    g.met.K.MapKey.same_where_equal _ _ c.args.self.now _
    c.args.value.now room (sym c.in_default.ensures.value)) c.add_new.ensures.ok

pub returns-in-Some-clause-each : goal.returns-in-Some-clause-each
returns-in-Some-clause-each g c =
    let P = g.V.Join.sound in
    let es = c.args.self.now in
    λ a p. each-set_value g.K.Ord.cmp P _ es _ a (c.join_from.ensures.stays_sound
    (each-value_at g.K.Ord.cmp P es _ _ a (sym c.in-Some.ensures.value)) p)

pub returns-clause-each : goal.returns-clause-each
returns-clause-each g c = λ each value. c.add_new.ensures.each each
    (rw c.in_ok-copy.ensures.equal value)

pub returns-in-Some-clause-within_limit : goal.returns-in-Some-clause-within_limit
returns-in-Some-clause-within_limit g c =
    let same_length = length-set_value (is_at (g.K.Ord.cmp c.args.key)) c.args.self.now
    c.join_from.new.self in omega arith
