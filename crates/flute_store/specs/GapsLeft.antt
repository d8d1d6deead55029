-- What an iterator over gaps has left.
use Rattle.std.specs.Prelude.{◌≡◌, ℕ, ◌+◌, ◌-◌, ◌≤◌, Bool, true, false, List, ◌++◌, length}
use Rattle.std.specs.List.{AllByRecursion}
use Rattle.std.specs.declared.cmp.Ordering.TheVariants.{Less}
use Rattle.flute_parts.specs.Order.{symbol_id_cmp}
use Rattle.flute_parts.specs.Partition.{symbol_id}
use Rattle.flute_parts.specs.declared.symbol_id.SymbolId.{SymbolId}
use Rattle.flute_store.specs.declared.gap.Gap.{Gap}

-- the gaps still to come; the held symbols that were not passed; the blocks that were begun,
-- of how many; whether it was found that nothing is left; the ticks so far, and a bound on
-- the ticks at any time
pub record GapsLeft : Type 0 where
  pub gaps : List Gap
  pub held : List SymbolId
  pub begun : ℕ
  pub blocks : ℕ
  pub ended : Bool
  pub ticks : ℕ
  pub bound : ℕ

-- the one tick for finding that nothing is left
abbrev pub end_tick : Bool → ℕ
end_tick true = 1
end_tick false = 0

-- a tick for each held symbol that was passed, for each block that was begun, and for finding
-- that nothing is left
pub record Ticks (old new : GapsLeft) : Type 0 where
  pub passed : List SymbolId
  pub held_is : old.held ≡ passed ++ new.held
  pub onward : old.begun ≤ new.begun
  pub ticks_are : new.ticks + end_tick old.ended
      ≡ old.ticks + length passed + (new.begun - old.begun) + end_tick new.ended

-- the blocks up to that of the gap are begun, and no held symbol up to its last one is left
pub record IsPast (left : GapsLeft) (gap : Gap) : Type 0 where
  pub begun : left.begun ≡ gap.sbn + 1
  pub behind : AllByRecursion (λ id. symbol_id_cmp (symbol_id gap.sbn gap.last) id ≡ Less) left.held

-- all blocks are begun, and it was found that nothing is left
pub record IsAtEnd (left : GapsLeft) : Type 0 where
  pub begun : left.begun ≡ left.blocks
  pub ended : left.ended ≡ true
