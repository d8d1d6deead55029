-- What is wanted of an object, from the symbols that are held.
use Rattle.std.specs.Prelude.{ℕ, ◌-◌, if◌then◌else◌, List, length, map, drop, flat_map}
use Rattle.std.specs.Prelude.{filter_map, Option, Some, None, option_map}
use Rattle.std.specs.List.{range_with_len, enumerate_from}
use Rattle.flute_join.specs.JoinMap.{value_at}
use Rattle.flute_join.specs.declared.cell.Cell.{Cell}
use Rattle.flute_join.specs.declared.cell.Cell.TheVariants.{One, Conflict}
use Rattle.flute_parts.specs.Information.{Information, sizes}
use Rattle.flute_parts.specs.Order.{symbol_id_cmp}
use Rattle.flute_parts.specs.Partition.{symbol_id, block_ids, fits}
use Rattle.flute_parts.specs.declared.symbol_id.SymbolId.{SymbolId}
use Rattle.flute_store.specs.declared.gap.Reason.{Reason}
use Rattle.flute_store.specs.declared.gap.Reason.TheVariants.{Missing, Conflicting, Misfit}

-- why a symbol is wanted, from the cell that is held, if one is
abbrev pub want_cell : Information → SymbolId → Option (Cell (List ℕ)) → Option Reason
want_cell info id (Some (One bytes)) = if fits info id (length bytes) then None else Some Misfit
want_cell info id (Some Conflict) = Some Conflicting
want_cell info id _ = Some Missing

-- a symbol that is wanted, with the reason
abbrev pub with_reason : SymbolId → Reason → SymbolId × Reason
with_reason id reason = (id, reason)

-- those of some symbols that are wanted, by what is held, each with its reason
unfoldable pub wanted : Information → List (SymbolId × Cell (List ℕ)) → List SymbolId
    → List (SymbolId × Reason)
wanted info held symbols =
    filter_map
    (λ id. option_map (with_reason id) (want_cell info id (value_at symbol_id_cmp held id))) symbols

-- the symbols of a block from one place up to another
abbrev pub block_from : ℕ → ℕ → ℕ → List SymbolId
block_from sbn first end = map (symbol_id sbn) (range_with_len first (end - first))

-- the symbols of the blocks from one on
unfoldable pub blocks_from : Information → ℕ → List SymbolId
blocks_from info sbn = flat_map block_ids (enumerate_from sbn (drop sbn (sizes info)))
