-- FEC Object Transmission Information and the block lengths that it gives (RFC 5052, 9.1).
use Rattle.std.specs.Prelude.{ℕ, ◌-◌, ◌*◌, ◌/◌, ◌<◌, ◌≤◌, ◌^◌, nat_lt}
use Rattle.std.specs.Prelude.{nat_le, ◌==◌, if◌then◌else◌, List, [], ◌++◌, replicate}
use Rattle.std.specs.Prelude.{Option, Some, None}
use Rattle.std.specs.Int.{div_ceil}
use Rattle.flute_parts.specs.declared.info.InfoFault.{InfoFault}
use Rattle.flute_parts.specs.declared.info.InfoFault.TheVariants.{Length, SymbolLength, BlockLength}
use Rattle.flute_parts.specs.declared.info.InfoFault.TheVariants.{TooManyBlocks, BlockTooLong}

-- the transfer length, the encoding symbol length and the maximum source block length
-- (RFC 5052, 6.2.4)
pub record Information : Type 0 where
  pub transfer_length : ℕ
  pub symbol_length : ℕ
  pub max_block_length : ℕ

-- transmission information of these three lengths
abbrev pub information : ℕ → ℕ → ℕ → Information
information length symbol block =
    record { transfer_length = length; symbol_length = symbol; max_block_length = block }

-- the encoding symbol length has 16 bits, the maximum source block length 32 (RFC 5445, 3.2.2.2)
abbrev pub HasInfoFields : Information → Type 0
HasInfoFields i = (i.symbol_length < 2 ^ 16) × (i.max_block_length < 2 ^ 32)

-- T = ceil(L / E), the number of source symbols
abbrev pub symbol_count : Information → ℕ
symbol_count i = div_ceil i.transfer_length i.symbol_length

-- N = ceil(T / B), the number of source blocks
abbrev pub block_count : Information → ℕ
block_count i = div_ceil (symbol_count i) i.max_block_length

-- A_large = ceil(T / N), the length of a larger block in symbols
abbrev pub large_length : Information → ℕ
large_length i = div_ceil (symbol_count i) (block_count i)

-- A_small = floor(T / N), the length of a smaller block
abbrev pub small_length : Information → ℕ
small_length i = symbol_count i / block_count i

-- I = T - A_small * N, the number of larger blocks
abbrev pub large_count : Information → ℕ
large_count i = symbol_count i - small_length i * block_count i

-- the lengths of the blocks in turn: the larger blocks come first, and of no byte there is no block
unfoldable pub sizes : Information → List ℕ
sizes i =
    if i.transfer_length == 0 then []
    else (replicate (large_count i) (large_length i)
    ++ replicate (block_count i - large_count i) (small_length i))

-- 16 bits number the blocks, and 16 the symbols of a block (RFC 5445, 3.2.1)
pub record HasBlocks (i : Information) : Type 0 where
  pub symbol : 0 < i.symbol_length
  pub block : 0 < i.max_block_length
  pub blocks : block_count i ≤ 65536
  pub longest : large_length i ≤ 65536

-- a transfer length has 48 bits (RFC 5445, 3.2.2.2); if it is 0 there is no block to number
pub record IsValid (i : Information) : Type 0 where
  pub length : i.transfer_length < 2 ^ 48
  pub parts : 0 < i.transfer_length → HasBlocks i

-- the first fault of what is not valid
abbrev pub info_fault : Information → Option InfoFault
info_fault i =
    if nat_le (2 ^ 48) i.transfer_length then Some Length else (
    if i.transfer_length == 0 then None else (
    if i.symbol_length == 0 then Some SymbolLength else (
    if i.max_block_length == 0 then Some BlockLength else (
    if nat_lt 65536 (block_count i) then Some TooManyBlocks else (
    if nat_lt 65536 (large_length i) then Some BlockTooLong else None)))))
