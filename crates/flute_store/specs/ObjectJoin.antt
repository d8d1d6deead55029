-- The join of two objects.
use Rattle.std.specs.Prelude.{ℕ, ◌⊎◌, List, bytes_eq}
use Rattle.std.proofs.lemmas.Cmp.{nat_list_eq_equiv}
use Rattle.flute_join.specs.Semilattice.{IsJoin}
use Rattle.flute_join.specs.Cell.{cell_join, cell_join_laws, CellNeedsMemory}
use Rattle.flute_join.specs.JoinMap.{map_join, MapOver, MapNeedsMemory}
use Rattle.flute_join.specs.MapLaws.{map_join_laws}
use Rattle.flute_join.specs.declared.cell.Cell.{Cell}
use Rattle.flute_parts.specs.Order.{session_cmp, object_cmp, symbol_id_cmp}
use Rattle.flute_parts.specs.Facts.{same_information}
use Rattle.flute_parts.specs.Equality.{object_place, symbol_id_place, information_same, bytes_same}
use Rattle.flute_parts.specs.Totality.{object_total, symbol_id_total, information_equivalence}
use Rattle.flute_parts.specs.Session.{Session}
use Rattle.flute_parts.specs.declared.object_key.ObjectName.{ObjectName}
use Rattle.flute_parts.specs.declared.symbol_id.SymbolId.{SymbolId}
use Rattle.flute_store.specs.declared.object.Object.{Object}

-- the symbols of two objects joined
abbrev pub symbols_join : List (SymbolId × Cell (List ℕ)) → List (SymbolId × Cell (List ℕ))
    → List (SymbolId × Cell (List ℕ))
symbols_join = map_join symbol_id_cmp (cell_join bytes_eq)

module _ {n : ℕ} where
  -- the information and the symbols joined
  abbrev pub object_join : Object n → Object n → Object n
  object_join x y = record {
    info = cell_join same_information x.info y.info;
    symbols = symbols_join x.symbols y.symbols;
  }

  -- the join of the objects of a session, name by name
  abbrev pub session_join : List (ObjectName × Object n) → List (ObjectName × Object n)
      → List (ObjectName × Object n)
  session_join = map_join object_cmp object_join

  -- the join of two stores, session by session
  abbrev pub store_join : List (Session × List (ObjectName × Object n))
      → List (Session × List (ObjectName × Object n))
      → List (Session × List (ObjectName × Object n))
  store_join = map_join session_cmp session_join

  -- the limit forbids the join of the symbols
  abbrev pub ObjectOver : Object n → Object n → Type 0
  ObjectOver x y = MapOver symbol_id_cmp (cell_join bytes_eq) n (λ _ _. ⊥) x.symbols y.symbols

  -- joining the information or the symbols may ask for memory
  abbrev pub ObjectNeedsMemory : Object n → Object n → Type 0
  ObjectNeedsMemory x y =
      CellNeedsMemory x.info y.info
      ⊎ MapNeedsMemory symbol_id_cmp CellNeedsMemory x.symbols y.symbols

pub infos : IsJoin (cell_join same_information)
infos = cell_join_laws information_equivalence information_same

pub cells : IsJoin (cell_join bytes_eq)
cells = cell_join_laws nat_list_eq_equiv bytes_same

pub symbol_maps : IsJoin symbols_join
symbol_maps = map_join_laws symbol_id_total symbol_id_place cells

pub object_join_laws : (n : ℕ) → IsJoin (object_join {n = n})
object_join_laws n = record {
  commutative =
      λ x y i. record {
        info = infos.commutative x.info y.info i;
        symbols = symbol_maps.commutative x.symbols y.symbols i;
      };
  associative =
      λ x y z i. record {
        info = infos.associative x.info y.info z.info i;
        symbols = symbol_maps.associative x.symbols y.symbols z.symbols i;
      };
  idempotent =
      λ x i. record {
        info = infos.idempotent x.info i;
        symbols = symbol_maps.idempotent x.symbols i;
      };
}

pub session_laws : (n : ℕ) → IsJoin (session_join {n = n})
session_laws n = map_join_laws object_total object_place (object_join_laws n)
