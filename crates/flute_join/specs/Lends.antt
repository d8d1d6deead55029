-- What a map ends as, once a reference to one of its values has ended.
use Rattle.std.specs.Prelude.{List, Option}
use Rattle.std.specs.Borrow.{Fml, RattleType, MutBor, LendsIf}
use Rattle.std.specs.Map.{set_value}
use Rattle.std.specs.BTreeMap.{is_at}
use Rattle.std.specs.BTreeMap.Lent.{OrdMembers}
use Rattle.std.specs.declared.cmp.Ordering.{Ordering}
use Rattle.flute_join.specs.declared.join.Join as join
use Rattle.flute_join.specs.contracts.map.JoinMap.{the_row}

module _ (K V LIMIT : RattleType) (key : OrdMembers K.Denot) (value : join.Ghosts V.Denot) where
  -- the map has, at the key that the query finds, the last value written through r,
  -- and at `None` it stays as it is
  abbrev pub lends_value : MutBor (List (K.Denot × V.Denot)) → (K.Denot → Ordering)
      → Option (MutBor V.Denot) → Fml
  lends_value m compare r =
      LendsIf
      (the_row K V LIMIT (record { cmp = key.cmp }) (record { eq = key.eq })
      (record { partial_cmp = key.partial_cmp }) value)
      V m r (set_value (is_at compare) m.now) m.now
