-- A walk over all that is held of an object, whose steps are counted.
use Rattle.std.specs.Prelude.{◌≡◌, ℕ, Bool, true, false, ◌+◌, ◌<◌, ◌≤◌}
use Rattle.std.specs.Prelude.{◌^◌, length, drop, Option, Some, None}
use Rattle.flute_parts.specs.Information.{sizes}
use Rattle.flute_store.specs.declared.turn.Turn.{Turn}
use Rattle.flute_store.specs.declared.held_scan.HeldScan.{HeldScan}
use Rattle.flute_store.specs.PartitionScan.{Walk, walk_of, remaining, gaps_left, IsPlace, IsWalk}
use Rattle.flute_store.specs.PartitionScan.{IsAhead, TurnsTo}

-- the scan of a stored object as the walk that definitions are about
abbrev pub walk_in : HeldScan → Walk
walk_in w = walk_of w.walk w.held

-- the one tick for finding that nothing is left
abbrev pub last_tick : Bool → ℕ
last_tick true = 0
last_tick false = 1

-- the ticks so far, and one for each block and for each held symbol that are left
abbrev pub bound : HeldScan → ℕ
bound w = w.ticks + remaining (walk_in w) + last_tick w.ended

-- what holds of a scan of a stored object between its turns
pub record IsHeldScan (w : HeldScan) : Type 0 where
  pub walk : IsWalk (walk_in w)
  pub place : IsPlace w.walk
  pub few : bound w < 2 ^ 34

-- the second scan is further than the first, of the same object
abbrev pub IsAheadOf : HeldScan → HeldScan → Type 0
IsAheadOf v w = IsAhead (walk_in v) (walk_in w)

-- a gap takes no tick, nor does the end if it was found before
abbrev pub TurnTicks : HeldScan → Option Turn → HeldScan → Type 0
TurnTicks v (Some (Turn.Gap gap)) w = w.ticks ≡ v.ticks
TurnTicks v (Some Turn.End) w = w.ended ≡ true
TurnTicks v turn w = w.ticks ≡ v.ticks + 1

-- what a turn of the scan of a stored object did
pub record Turns (v : HeldScan) (turn : Option Turn) (w : HeldScan) : Type 0 where
  pub turns : TurnsTo (walk_in v) turn (walk_in w)
  pub walk : IsHeldScan w
  pub bound_is : bound w ≡ bound v
  pub ticks : TurnTicks v turn w

-- what is left is the same after some turns
pub record KeepsGaps (v w : HeldScan) : Type 0 where
  pub walk : IsHeldScan w
  pub gaps_are : gaps_left (walk_in w) ≡ gaps_left (walk_in v)
  pub bound_is : bound w ≡ bound v
  pub onward : v.ticks ≤ w.ticks
  pub ahead : IsAheadOf v w

-- the scan once it was found that nothing is left, which takes a tick the first time
abbrev pub with_end : HeldScan → HeldScan
with_end w = record w { ticks = w.ticks + last_tick w.ended; ended = true }

-- a turn is counted
abbrev pub counted : Option Turn → HeldScan → HeldScan
counted (Some (Turn.Gap gap)) w = w
counted (Some Turn.End) w = with_end w
counted None w = record w { ticks = w.ticks + 1 }
counted turn w = record w { held = drop 1 w.held; ticks = w.ticks + 1 }

-- all blocks are begun, and it was found that nothing is left
pub record HasEnded (w : HeldScan) : Type 0 where
  pub begun : w.walk.begun ≡ length (sizes w.walk.partition)
  pub ended : w.ended ≡ true
