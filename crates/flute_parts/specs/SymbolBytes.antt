-- How many bytes a symbol has.
use Rattle.std.specs.Prelude.{ℕ, ◌<◌, ◌≤◌, nat_lt, ◌==◌, if◌then◌else◌, List}
use Rattle.std.specs.Prelude.{length, Option, Some, None}
use Rattle.flute_parts.specs.declared.bytes.BytesFault.{BytesFault}
use Rattle.flute_parts.specs.declared.bytes.BytesFault.TheVariants.{Empty, TooLong}

-- a symbol is a part of a datagram, and has a byte at least
pub record HasSymbolSize (bytes : List ℕ) : Type 0 where
  pub some : 0 < length bytes
  pub few : length bytes ≤ 65535

-- why bytes are no symbol for their number
abbrev pub size_fault : List ℕ → Option BytesFault
size_fault bytes =
    if length bytes == 0 then Some Empty
    else (if nat_lt 65535 (length bytes) then Some TooLong else None)
