-- The join of two objects.
use Rattle.std.specs.Prelude.{◌≡◌, ◌≢◌, ◌≤◌, ◌⊎◌, [], ℕ, length, nat_eq}
use Rattle.std.specs.Ordering.{nat_cmp}
use Rattle.std.specs.Cmp.{nat_eq_equiv, nat_cmp_total}
use Rattle.std.proofs.lemmas.Map.Lookups.{exact_unsigned}
use Rattle.std.proofs.lemmas.Map.Views.{exact_unsigned_eq}
use Rattle.flute_join.specs.Semilattice.{IsJoin}
use Rattle.flute_join.specs.Cell.{cell_join, cell_join_laws, IsKnown, CellNeedsMemory}
use Rattle.flute_join.specs.JoinMap.{map_join, MapOver, MapNeedsMemory, IsOrdered, EachValue}
use Rattle.flute_join.specs.MapLaws.{map_join_laws}
use Rattle.flute_join.specs.declared.cell.Cell.TheVariants.{Absent}
use Rattle.join_sample.specs.declared.Object.{Object}

module _ {n : ℕ} where
  -- the information and the symbols joined
  abbrev pub object_join : Object n → Object n → Object n
  object_join x y = record {
    info = cell_join nat_eq x.info y.info;
    symbols = map_join nat_cmp (cell_join nat_eq) x.symbols y.symbols;
  }

  -- the limit forbids the join of the symbols
  abbrev pub ObjectOver : Object n → Object n → Type 0
  ObjectOver x y = MapOver nat_cmp (cell_join nat_eq) n (λ _ _. ⊥) x.symbols y.symbols

  -- joining the information or the symbols may ask for memory
  abbrev pub ObjectNeedsMemory : Object n → Object n → Type 0
  ObjectNeedsMemory x y =
      CellNeedsMemory x.info y.info ⊎ MapNeedsMemory nat_cmp CellNeedsMemory x.symbols y.symbols

  -- the object has information or a symbol, and something is known of each symbol that it has
  pub record IsSoundObject (x : Object n) : Type 0 where
    pub some : x.info ≡ Absent → x.symbols ≢ []
    pub ordered : IsOrdered nat_cmp x.symbols
    pub within : length x.symbols ≤ n
    pub each : EachValue IsKnown x.symbols

pub cells : IsJoin (cell_join nat_eq)
cells = cell_join_laws nat_eq_equiv exact_unsigned_eq

pub maps : IsJoin (map_join nat_cmp (cell_join nat_eq))
maps = map_join_laws nat_cmp_total exact_unsigned cells

pub object_join_laws : (n : ℕ) → IsJoin (object_join {n = n})
object_join_laws n = record {
  commutative =
      λ x y i. record {
        info = cells.commutative x.info y.info i;
        symbols = maps.commutative x.symbols y.symbols i;
      };
  associative =
      λ x y z i. record {
        info = cells.associative x.info y.info z.info i;
        symbols = maps.associative x.symbols y.symbols z.symbols i;
      };
  idempotent =
      λ x i. record { info = cells.idempotent x.info i; symbols = maps.idempotent x.symbols i };
}
