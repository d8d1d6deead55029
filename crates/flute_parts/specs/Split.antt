-- A partition as larger blocks and then smaller ones.
use Rattle.std.specs.Prelude.{◌≡◌, ℕ, ◌+◌, ◌*◌, ◌<◌, ◌≤◌, List, [], ◌∷◌, ◌++◌, replicate}
use Rattle.flute_parts.specs.Information.{Information, sizes, symbol_count}

-- the number of symbols in blocks of these sizes
abbrev pub total : List ℕ → ℕ
total [] = 0
total (s ∷ sizes) = s + total sizes

-- so many blocks of length + 1 symbols, and then so many of length symbols
pub record IsSplit (i : Information) (symbols large small length : ℕ) : Type 0 where
  pub split : sizes i ≡ replicate large (length + 1) ++ replicate small length
  pub count : symbols ≡ symbol_count i
  pub all : symbols ≡ large * (length + 1) + small * length
  pub blocks : large + small ≤ 65536
  pub longest : length ≤ 65536
  pub large_longest : 0 < large → length < 65536
  pub not_empty : 0 < small → 0 < length
