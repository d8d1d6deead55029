-- The bytes of the symbols of an object, from those that are held.
use Rattle.std.specs.Prelude.{◌≡◌, ℕ, ◌<◌, ◌≤◌, List, [], ◌++◌, flat_map, Option, Some, None}
use Rattle.std.specs.Borrow.{Bor}
use Rattle.flute_join.specs.JoinMap.{value_at}
use Rattle.flute_join.specs.declared.cell.Cell.{Cell}
use Rattle.flute_join.specs.declared.cell.Cell.TheVariants.{One}
use Rattle.flute_parts.specs.Order.{symbol_id_cmp}
use Rattle.flute_parts.specs.declared.symbol_id.SymbolId.{SymbolId}
use Rattle.flute_store.specs.declared.held_scan.HeldScan.{HeldScan}
use Rattle.flute_store.specs.PartitionScan.{Walk, symbols_left, all_left}
use Rattle.flute_store.specs.HeldScan.{walk_in, bound, IsHeldScan}

-- the one value of a cell, or no bytes
abbrev pub cell_bytes : Cell (List ℕ) → List ℕ
cell_bytes (One bytes) = bytes
cell_bytes _ = []

-- the bytes that a cell holds of a symbol; none if there is no cell, or a conflict
abbrev pub found_bytes : Option (Cell (List ℕ)) → List ℕ
found_bytes None = []
found_bytes (Some cell) = cell_bytes cell

-- the values of the symbols in their order
unfoldable pub held_bytes : List (SymbolId × Cell (List ℕ)) → List SymbolId → List ℕ
held_bytes held symbols = flat_map (λ id. found_bytes (value_at symbol_id_cmp held id)) symbols

unfoldable pub bytes_left : Walk → List ℕ
bytes_left w = held_bytes w.held (symbols_left w)

-- nothing is wanted, and the bytes that are left are the same after some turns
pub record KeepsBytes (v w : HeldScan) : Type 0 where
  pub walk : IsHeldScan w
  pub whole : all_left (walk_in w) ≡ []
  pub bytes : bytes_left (walk_in w) ≡ bytes_left (walk_in v)
  pub bound_is : bound w ≡ bound v
  pub onward : v.ticks ≤ w.ticks

-- the bytes of the first symbol that is left were given, and the others are left
pub record GivesFirst (v : HeldScan) (bytes : List ℕ) (w : HeldScan) : Type 0 where
  pub walk : IsHeldScan w
  pub whole : all_left (walk_in w) ≡ []
  pub first : bytes_left (walk_in v) ≡ bytes ++ bytes_left (walk_in w)
  pub bound_is : bound w ≡ bound v
  pub ticked : v.ticks < w.ticks

-- what a call gave of the bytes that were left: their first part, or nothing more
abbrev pub GivesBytes : HeldScan → Option (Bor (List ℕ)) → HeldScan → Type 0
GivesBytes v None w = bytes_left (walk_in v) ≡ []
GivesBytes v (Some bytes) w = GivesFirst v bytes.now w
