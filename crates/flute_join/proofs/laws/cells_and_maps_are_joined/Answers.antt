use Rattle.std.proofs.Common.{arith}
use Rattle.std.proofs.lemmas.Grind.{common_steps}
use Rattle.std.proofs.Common.{rules}
use Rattle.flute_join.specs.Cell.{cell_join_laws}
use Rattle.flute_join.specs.MapLaws.{map_join_laws}
use Rattle.flute_join.proofs.Values.{value_at-map_join}
use Rattle.flute_join.proofs.Ordered.{ordered-map_join}
use Rattle.flute_join.proofs.Single.{single_held, single_new}
use Rattle.flute_join.proofs.laws.cells_and_maps_are_joined.Goals as goal

pub returns : goal.returns
returns g c = record {
  cells = cell_join_laws g.met.T.Eq.laws g.met.T.Value.same_where_equal;
  maps = map_join_laws g.met.K.Ord.total g.met.K.MapKey.same_where_equal g.met.V.Join.join_laws;
  values = value_at-map_join g.met.K.Ord.total _;
  ordered = ordered-map_join g.met.K.Ord.total _;
  held = single_held g.met.K.Ord.total g.met.V.Join.join_laws;
  new = single_new g.met.K.Ord.total g.met.V.Join.join_laws;
}
