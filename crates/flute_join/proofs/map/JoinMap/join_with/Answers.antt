-- JoinMap::join_with: at a held key, where there is no room and where there is.
use Rattle.std.proofs.Common.{arith}
use Rattle.std.proofs.lemmas.Grind.{common_steps}
use Rattle.std.proofs.Common.{rules, ◌≡◌, Some, None, sym, ap, ◌∙◌}
use Rattle.std.specs.BTreeMap.{is_at}
use Rattle.std.specs.Map.{set_value}
use Rattle.flute_join.specs.JoinMap.{value_at}
use Rattle.flute_join.proofs.Single.{single_held, put_joins, put_new}
use Rattle.flute_join.proofs.Sound.{each-value_at}
use Rattle.flute_join.proofs.map.JoinMap.join_with.Goals as goal

pub join_into-requires : goal.join_into-requires
join_into-requires g c = each-value_at g.K.Ord.cmp _ _ _
    _ c.requires.each (sym c.in-Some.ensures.value)

pub returns-then-len-clause-ok : goal.returns-then-len-clause-ok
returns-then-len-clause-ok g c = grind (arith, common_steps, is_at, single_held)

pub join_into-requires-in-Ok-Occupied : goal.join_into-requires-in-Ok-Occupied
join_into-requires-in-Ok-Occupied g c =
    let found : value_at g.K.Ord.cmp c.args.self.now c.args.key ≡ Some c.into_mut.result.now =
    search rules in each-value_at g.K.Ord.cmp _ _ _ _ c.requires.each found

pub returns-in-Ok-Occupied-clause-ok : goal.returns-in-Ok-Occupied-clause-ok
returns-in-Ok-Occupied-clause-ok g c =
    let found : value_at g.K.Ord.cmp c.args.self.now c.args.key ≡ Some c.into_mut.result.now =
    search rules in put_joins g.met.K.Ord.total g.met.V.Join.join_laws _ _
    _ (search rules) found c.join_into-in-Ok-Occupied.ensures (search rules)

pub returns-clause-ok : goal.returns-clause-ok
returns-clause-ok g c =
    let absent : value_at g.K.Ord.cmp c.args.self.now c.args.key ≡ None = search rules in
    put_new g.met.K.Ord.total g.met.V.Join.join_laws _ _
    c.in_ok-or_try_insert_with.field-0.now absent (search rules) (search rules)
