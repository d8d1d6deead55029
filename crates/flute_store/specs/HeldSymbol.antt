-- What is held of a symbol.
use Rattle.std.specs.Prelude.{ℕ, List, [], ◌∷◌}
use Rattle.flute_join.specs.declared.cell.Cell.{Cell}
use Rattle.flute_join.specs.declared.cell.Cell.TheVariants.{One, Conflict}

-- a symbol has a byte at least, so no bytes mean a conflict
abbrev pub held_cell : List ℕ → Cell (List ℕ)
held_cell [] = Conflict
held_cell (b ∷ bs) = One (b ∷ bs)
