-- A walk over the blocks of an object, along with the symbols that are held of it.
use Rattle.std.specs.Prelude.{◌≡◌, ℕ, cond, ◌&&◌, ◌+◌, ◌-◌, ◌<◌, ◌≤◌}
use Rattle.std.specs.Prelude.{◌==◌, nat_lt, List, [], ◌∷◌, ◌++◌, length, drop}
use Rattle.std.specs.Prelude.{slice_index, Option, Some, None, if◌then◌else◌}
use Rattle.std.specs.List.{AllByRecursion}
use Rattle.std.specs.Map.{keys_of}
use Rattle.std.specs.declared.cmp.Ordering.TheVariants.{Less}
use Rattle.std.specs.Ordering.{match_ordering}
use Rattle.flute_join.specs.Cell.{IsKnown}
use Rattle.flute_join.specs.JoinMap.{IsOrdered, EachValue}
use Rattle.flute_join.specs.declared.cell.Cell.{Cell}
use Rattle.flute_join.specs.declared.cell.Cell.TheVariants.{One}
use Rattle.flute_parts.specs.Information.{Information, sizes}
use Rattle.flute_parts.specs.Order.{symbol_id_cmp}
use Rattle.flute_parts.specs.Partition.{symbol_id, fits}
use Rattle.flute_parts.specs.declared.symbol_id.SymbolId.{SymbolId}
use Rattle.flute_store.specs.declared.gap.Reason.{Reason}
use Rattle.flute_store.specs.declared.gap.Reason.TheVariants.{Missing, Conflicting, Misfit}
use Rattle.flute_store.specs.declared.gap.Gap.{Gap}
use Rattle.flute_store.specs.declared.turn.Turn.{Turn}
use Rattle.flute_store.specs.declared.partition_scan.Upcoming.{Upcoming}
use Rattle.flute_store.specs.declared.partition_scan.Upcoming.TheVariants.{End, BlockEnd, Passed}
use Rattle.flute_store.specs.declared.partition_scan.Upcoming.TheVariants.{Fitting, Wanted, NotHeld}
use Rattle.flute_store.specs.declared.partition_scan.PartitionScan.{PartitionScan}
use Rattle.flute_store.specs.Objects.{same_reason, listed, runs}
use Rattle.flute_store.specs.Wanted.{want_cell, wanted, block_from, blocks_from}

-- ---- a walk with the held symbols that are not passed

-- a block was begun last, of so many symbols, of which the next is this one; so many blocks were
-- begun; and the wanted held symbols just before it, of which no gap was given yet
pub record Walk : Type 0 where
  pub partition : Information
  pub held : List (SymbolId × Cell (List ℕ))
  pub sbn : ℕ
  pub esi : ℕ
  pub size : ℕ
  pub begun : ℕ
  pub run : Option Gap

-- the place of a scan, with the symbols that are still to come, as a walk
abbrev pub walk_of : PartitionScan → List (SymbolId × Cell (List ℕ)) → Walk
walk_of w held = record {
  partition = w.partition;
  held = held;
  sbn = w.sbn;
  esi = w.esi;
  size = w.size;
  begun = w.begun;
  run = w.run;
}

-- the symbols of the partition that are left
abbrev pub symbols_left : Walk → List SymbolId
symbols_left w = block_from w.sbn w.esi w.size ++ blocks_from w.partition w.begun

-- the symbols that a walk has still to come to and that are wanted
unfoldable pub left : Walk → List (SymbolId × Reason)
left w = wanted w.partition w.held (symbols_left w)

-- the symbols of the run that is open, which are to be given as one gap
abbrev pub pending : Option Gap → List (SymbolId × Reason)
pending None = []
pending (Some gap) = listed gap

-- the symbols that a walk will still give in gaps: those of its open run, and those to come
abbrev pub all_left : Walk → List (SymbolId × Reason)
all_left w = pending w.run ++ left w

-- the gaps that a walk will still give
abbrev pub gaps_left : Walk → List Gap
gaps_left w = runs (all_left w)

-- the blocks and the held symbols that are left
abbrev pub remaining : Walk → ℕ
remaining w = (length (sizes w.partition) - w.begun) + length w.held

-- all symbols that are still held come after this one
abbrev pub IsBehind : ℕ → ℕ → List (SymbolId × Cell (List ℕ)) → Type 0
IsBehind sbn esi held =
    AllByRecursion (λ id. symbol_id_cmp (symbol_id sbn esi) id ≡ Less) (keys_of held)

-- held symbols up to the next one of the block
abbrev pub EndsBefore : ℕ → ℕ → Option Gap → Type 0
EndsBefore sbn esi None = Unit {0}
EndsBefore sbn esi (Some gap) =
    (gap.sbn ≡ sbn) × (gap.first ≤ gap.last) × (gap.last + 1 ≡ esi) × (gap.reason ≡ Missing → ⊥)

-- where a walk may be
pub record IsPlace (w : PartitionScan) : Type 0 where
  pub blocks : length (sizes w.partition) ≤ 65536
  pub begun : w.begun ≤ length (sizes w.partition)
  pub within : w.esi ≤ w.size
  pub longest : w.size ≤ 65536
  pub running : EndsBefore w.sbn w.esi w.run

-- what holds of a walk between its turns: what is held is in order, its place is in a block
pub record IsWalk (w : Walk) : Type 0 where
  pub ordered : IsOrdered symbol_id_cmp w.held
  pub known : EachValue IsKnown w.held
  pub begun : w.begun ≤ length (sizes w.partition)
  pub within : w.esi ≤ w.size
  pub longest : w.size ≤ 65536
  pub in_block : 0 < w.size → w.sbn + 1 ≡ w.begun
  pub behind : 0 < w.esi → IsBehind w.sbn (w.esi - 1) w.held
  pub running : EndsBefore w.sbn w.esi w.run

-- the walk at the beginning of an object of which these symbols are held
abbrev pub at_start : Information → List (SymbolId × Cell (List ℕ)) → Walk
at_start info held =
    record { partition = info; held = held; sbn = 0; esi = 0; size = 0; begun = 0; run = None }

-- the walk after a held symbol that is none of the object
abbrev pub after_pass : Walk → Walk
after_pass w = record w { held = drop 1 w.held }

-- the walk after a held symbol that fits
abbrev pub after_take : Walk → Walk
after_take w = record w { held = drop 1 w.held; esi = w.esi + 1 }

-- the run with one symbol more
abbrev pub run_with : ℕ → ℕ → Reason → Option Gap → Gap
run_with sbn esi reason None = record { sbn = sbn; first = esi; last = esi; reason = reason }
run_with sbn esi reason (Some gap) = record gap { last = esi }

-- the walk after a held symbol that does not fit: it is added to the open run
abbrev pub after_want : Reason → Walk → Walk
after_want reason w = record w {
  held = drop 1 w.held;
  esi = w.esi + 1;
  run = Some (run_with w.sbn w.esi reason w.run);
}

-- the walk at the beginning of the next block
abbrev pub after_begin : Walk → Walk
after_begin w = record w {
  sbn = w.begun;
  esi = 0;
  size = slice_index (sizes w.partition) w.begun;
  begun = w.begun + 1;
}

-- what comes next
abbrev pub upcoming_wanted : Option Reason → Upcoming
upcoming_wanted None = Fitting
upcoming_wanted (Some reason) = Wanted reason

-- what the next held symbol is for the place `here`: one before it, its own, or later
abbrev pub upcoming_held : Information → SymbolId → List (SymbolId × Cell (List ℕ)) → Upcoming
upcoming_held info here [] = NotHeld
upcoming_held info here (e ∷ es) =
    match_ordering (symbol_id_cmp e.0 here) Passed (upcoming_wanted (want_cell info e.0 (Some e.1)))
    NotHeld

unfoldable pub upcoming_of : Walk → Upcoming
upcoming_of w =
    cond (w.esi == w.size) (cond (w.begun == length (sizes w.partition)) End BlockEnd)
    (upcoming_held w.partition (symbol_id w.sbn w.esi) w.held)

-- the end of the symbols of the block that are not held, if the next one is not
abbrev pub until_held : ℕ → ℕ → List (SymbolId × Cell (List ℕ)) → ℕ
until_held sbn size [] = size
until_held sbn size (e ∷ es) = cond ((e.0.sbn == sbn) && nat_lt e.0.esi size) e.0.esi size

-- up to which symbol of the block the walk finds nothing held
abbrev pub until_of : Walk → ℕ
until_of w = until_held w.sbn w.size w.held

-- ---- what a walk does, from the next held symbol and the length of its one value

-- how long the one value is
abbrev pub length_of : Cell (List ℕ) → Option ℕ
length_of (One bytes) = Some (length bytes)
length_of _ = None

-- the first of these
abbrev pub ShowsNext : List (SymbolId × Cell (List ℕ)) → Option (SymbolId × Option ℕ) → Type 0
ShowsNext held None = held ≡ []
ShowsNext held (Some next) =
    (cell : Cell (List ℕ)) × (rest : List (SymbolId × Cell (List ℕ)))
    × (held ≡ (next.0, cell) ∷ rest) × (length_of cell ≡ next.1)

-- why a held symbol is wanted, if it is
abbrev pub want_length : Information → SymbolId → Option ℕ → Option Reason
want_length info id (Some length) = if fits info id length then None else Some Misfit
want_length info id None = Some Conflicting

-- as `upcoming_held`, by the ID and the length of the next held symbol alone
abbrev pub upcoming_next : Information → SymbolId → Option (SymbolId × Option ℕ) → Upcoming
upcoming_next info here None = NotHeld
upcoming_next info here (Some next) =
    match_ordering (symbol_id_cmp next.0 here) Passed
    (upcoming_wanted (want_length info next.0 next.1)) NotHeld

unfoldable pub upcoming_at : PartitionScan → Option (SymbolId × Option ℕ) → Upcoming
upcoming_at w next =
    cond (w.esi == w.size) (cond (w.begun == length (sizes w.partition)) End BlockEnd)
    (upcoming_next w.partition (symbol_id w.sbn w.esi) next)

-- as `until_of`, of a block of so many symbols, by the next held symbol alone
abbrev pub until_next : ℕ → ℕ → Option (SymbolId × Option ℕ) → ℕ
until_next sbn size None = size
until_next sbn size (Some next) =
    cond ((next.0.sbn == sbn) && nat_lt next.0.esi size) next.0.esi size

-- the run, if what comes next ends it
abbrev pub ended_run : Option Gap → Upcoming → Option Gap
ended_run None upcoming = None
ended_run (Some gap) Passed = None
ended_run (Some gap) (Wanted reason) = if same_reason gap.reason reason then None else Some gap
ended_run (Some gap) upcoming = Some gap

-- up to which symbol of the block nothing is held, by the next held symbol
abbrev pub until_at : PartitionScan → Option (SymbolId × Option ℕ) → ℕ
until_at w next = until_next w.sbn w.size next

-- the gap from the place of the scan up to the next held symbol
abbrev pub missing_gap : PartitionScan → Option (SymbolId × Option ℕ) → Gap
missing_gap w next =
    record { sbn = w.sbn; first = w.esi; last = until_at w next - 1; reason = Missing }

-- the scan after that gap
abbrev pub after_missing : PartitionScan → Option (SymbolId × Option ℕ) → PartitionScan
after_missing w next = record w { esi = until_at w next }

-- the scan after a symbol that is wanted for this reason
abbrev pub after_wanted : PartitionScan → Reason → PartitionScan
after_wanted w reason = record w { esi = w.esi + 1; run = Some (run_with w.sbn w.esi reason w.run) }

-- the scan at the beginning of the next block
abbrev pub after_block : PartitionScan → PartitionScan
after_block w = record w {
  sbn = w.begun;
  esi = 0;
  size = slice_index (sizes w.partition) w.begun;
  begun = w.begun + 1;
}

-- what is returned, or nothing if a block is begun, and the walk after that
abbrev pub turn_on : PartitionScan → Option (SymbolId × Option ℕ) → Upcoming
    → Option Turn × PartitionScan
turn_on w next End = (Some Turn.End, w)
turn_on w next BlockEnd = (None, after_block w)
turn_on w next Passed = (Some Turn.Passed, w)
turn_on w next Fitting = (Some Turn.Fitting, record w { esi = w.esi + 1 })
turn_on w next (Wanted reason) = (Some Turn.Wanted, after_wanted w reason)
turn_on w next NotHeld = (Some (Turn.Gap (missing_gap w next)), after_missing w next)

-- the turn of a scan, and where it is then: first an open run is given as a gap
abbrev pub turn_after : PartitionScan → Option (SymbolId × Option ℕ) → Upcoming → Option Gap
    → Option Turn × PartitionScan
turn_after w next upcoming (Some gap) = (Some (Turn.Gap gap), record w { run = None })
turn_after w next upcoming None = turn_on w next upcoming

unfoldable pub turn_of : PartitionScan → Option (SymbolId × Option ℕ) → Option Turn × PartitionScan
turn_of w next = turn_after w next (upcoming_at w next) (ended_run w.run (upcoming_at w next))

-- ---- what that means

-- some held symbols were passed, and some blocks begun
pub record IsAhead (v w : Walk) : Type 0 where
  pub passed : List (SymbolId × Cell (List ℕ))
  pub held_is : v.held ≡ passed ++ w.held
  pub onward : v.begun ≤ w.begun
  pub partition_is : w.partition ≡ v.partition

-- a held symbol was passed or a block begun, and what is left is the same
pub record Keeps (v w : Walk) : Type 0 where
  pub walk : IsWalk w
  pub left_is : all_left w ≡ all_left v
  pub fewer : remaining v ≡ remaining w + 1
  pub ahead : IsAhead v w

-- the blocks up to that of the gap are begun, and no held symbol up to its last one is left
pub record PassesGap (w : Walk) (gap : Gap) : Type 0 where
  pub begun : w.begun ≡ gap.sbn + 1
  pub behind : IsBehind gap.sbn gap.last w.held

-- the first gap was given, and no held symbol passed
pub record GivesGap (v : Walk) (gap : Gap) (w : Walk) : Type 0 where
  pub walk : IsWalk w
  pub first : gaps_left v ≡ gap ∷ gaps_left w
  pub held_is : w.held ≡ v.held
  pub begun_is : w.begun ≡ v.begun
  pub partition_is : w.partition ≡ v.partition
  pub passes : PassesGap w gap

-- all blocks are begun, and nothing is left
pub record IsEnd (w : Walk) : Type 0 where
  pub begun : w.begun ≡ length (sizes w.partition)
  pub none : gaps_left w ≡ []

-- the held symbols that are not passed after a turn
abbrev pub held_after : Option Turn → List (SymbolId × Cell (List ℕ))
    → List (SymbolId × Cell (List ℕ))
held_after (Some Turn.Fitting) held = drop 1 held
held_after (Some Turn.Wanted) held = drop 1 held
held_after (Some Turn.Passed) held = drop 1 held
held_after turn held = held

-- what a turn does
abbrev pub TurnsTo : Walk → Option Turn → Walk → Type 0
TurnsTo v None w = Keeps v w × (upcoming_of v ≡ BlockEnd) × (w ≡ after_begin v)
TurnsTo v (Some (Turn.Gap gap)) w = GivesGap v gap w
TurnsTo v (Some Turn.Fitting) w = Keeps v w × (upcoming_of v ≡ Fitting) × (w ≡ after_take v)
TurnsTo v (Some Turn.Wanted) w =
    Keeps v w × ((reason : Reason) × (upcoming_of v ≡ Wanted reason) × (w ≡ after_want reason v))
TurnsTo v (Some Turn.Passed) w = Keeps v w × (upcoming_of v ≡ Passed) × (w ≡ after_pass v)
TurnsTo v (Some Turn.End) w = (w ≡ v) × (upcoming_of v ≡ End) × IsEnd v
