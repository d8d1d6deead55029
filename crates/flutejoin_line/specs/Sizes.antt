-- How many bytes a size on the command line is.
use Rattle.std.specs.Prelude.{◌-◌, ◌*◌, ◌^◌, ◌&&◌, ℕ, Bool, List, length, take, codes}
use Rattle.std.specs.Prelude.{Option, Some, None, if◌then◌else◌, nat_lt, nat_le, nat_eq}
use Rattle.std.specs.List.{ends_with}
use Rattle.clap.specs.Walk.{Row, first_of}
use Rattle.flutejoin_line.specs.Options.{number_in}

-- the last letter of a text
abbrev pub ends_in : List ℕ → List ℕ → Bool
ends_in letter text = ends_with nat_eq text letter

-- the number in a size, and how many bytes it counts: with K 1,024, with M 1,024 times as many as
-- with K, with G 1,024 times as many as with M
abbrev pub number_and_unit : List ℕ → List ℕ × ℕ
number_and_unit text =
    let number = take (length text - 1) text in
    if ends_in (codes "K") text then (number, 2 ^ 10)
    else if ends_in (codes "M") text then (number, 2 ^ 20)
    else if ends_in (codes "G") text then (number, 2 ^ 30)
    else (text, 1)

-- so many units, if they are 1 to 2^62 bytes
abbrev pub bytes_of : Option ℕ → ℕ → Option ℕ
bytes_of None unit = None
bytes_of (Some n) unit =
    if nat_lt 0 (n * unit) && nat_le (n * unit) (2 ^ 62) then Some (n * unit) else None

-- the bytes that a text spells, if it is a size
unfoldable pub size_of : List ℕ → Option ℕ
size_of text = let parts = number_and_unit text in bytes_of (number_in parts.0) parts.1

-- 256 MiB
abbrev pub default_memory : ℕ
default_memory = 2 ^ 28

-- the bytes of `--memory`, if its word is a size
abbrev pub memory_by : Option (List ℕ) → Option ℕ
memory_by None = Some default_memory
memory_by (Some text) = size_of text

abbrev pub memory_in : List Row → Option ℕ
memory_in rows = memory_by (first_of (codes "memory") rows)
