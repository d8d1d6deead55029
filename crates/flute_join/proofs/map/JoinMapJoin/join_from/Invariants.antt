-- JoinMap::join_from: what holds in its loop.
use Rattle.std.proofs.Common.{◌≡◌, List, ◌++◌}
use Rattle.flute_join.specs.JoinMap.{IsOrdered, map_join, MapOver, EachValue}
use Rattle.flute_join.specs.Semilattice.{IsBelow}
use Rattle.flute_join.proofs.map.JoinMapJoin.join_from.Given as goal

-- the entries before are joined; joining what is left gives the join, and is forbidden exactly if
-- the join was
abbrev pub invariant-loop-key : goal.invariant-loop-key
invariant-loop-key g l =
    let join = map_join g.K.Ord.cmp g.V.Join.joined in
    let over = MapOver g.K.Ord.cmp g.V.Join.joined g.row.LIMIT g.V.Join.over in
    record {
      before : List (g.row.K.Denot × g.row.V.Denot);
      parts : before ++ l.key-iterator ≡ l.other;
      done : l.self ≡ join l.initial.self before;
      left : join l.self l.key-iterator ≡ join l.initial.self l.other;
      above_old : IsBelow join l.initial.self l.self;
      forbidden : over l.self l.key-iterator → over l.initial.self l.other;
      forbids : over l.initial.self l.other → over l.self l.key-iterator;
      ordered : IsOrdered g.K.Ord.cmp l.key-iterator;
      each : EachValue g.V.Join.sound l.initial.self → EachValue g.V.Join.sound l.other
          → EachValue g.V.Join.sound l.self × EachValue g.V.Join.sound l.key-iterator;
    }
