-- The block partition of an object (RFC 5052, 9.1).
use Rattle.std.specs.Prelude.{ℕ, ◌+◌, ◌-◌, ◌*◌, ◌==◌, Bool, false, ◌&&◌}
use Rattle.std.specs.Prelude.{◌||◌, List, map, flat_map, Option, Some, None}
use Rattle.std.specs.List.{position_from, range_with_len, enumerate_from}
use Rattle.flute_parts.specs.Information.{Information, sizes, symbol_count}
use Rattle.flute_parts.specs.Order.{same_symbol_id}
use Rattle.flute_parts.specs.declared.symbol_id.SymbolId.{SymbolId}

-- a source block number and an encoding symbol ID (RFC 5445, 3.2.1)
abbrev pub symbol_id : ℕ → ℕ → SymbolId
symbol_id n i = record { sbn = n; esi = i }

-- the symbols of the n-th block: (n, 0) to (n, size - 1)
abbrev pub block_ids : ℕ × ℕ → List SymbolId
block_ids (n, size) = map (symbol_id n) (range_with_len 0 size)

-- the symbols of an object, block after block (RFC 5445, 3.4)
unfoldable pub ids : Information → List SymbolId
ids i = flat_map block_ids (enumerate_from 0 (sizes i))

-- the place of a symbol in that list, from 0
unfoldable pub place : Information → SymbolId → Option ℕ
place i id = position_from (same_symbol_id id) 0 (ids i)

-- how many bytes of the last symbol are not padding: L - (T - 1) * E
abbrev pub last_length : Information → ℕ
last_length i = i.transfer_length - (symbol_count i - 1) * i.symbol_length

-- a symbol of n bytes fits at a place with the full length, and at the last place also without
-- its padding (RFC 5445, 3.4)
abbrev pub fits_at : Information → Option ℕ → ℕ → Bool
fits_at i None n = false
fits_at i (Some k) n = (n == i.symbol_length) || ((k + 1 == symbol_count i) && (n == last_length i))

unfoldable pub fits : Information → SymbolId → ℕ → Bool
fits i id n = fits_at i (place i id) n
