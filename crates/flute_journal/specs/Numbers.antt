-- Numbers in network byte order.
use Rattle.std.specs.Prelude.{ℕ, List, take, drop}
use Rattle.std.specs.Int.{bytes_high_first}
use Rattle.flute_parts.specs.BigEndian.{big_endian}

-- a number in k bytes, the most significant first
abbrev pub in_bytes : ℕ → ℕ → List ℕ
in_bytes k n = bytes_high_first k n

-- the number that the n bytes at an offset spell
abbrev pub number_at : ℕ → ℕ → List ℕ → ℕ
number_at offset n bytes = big_endian (take n (drop offset bytes))
