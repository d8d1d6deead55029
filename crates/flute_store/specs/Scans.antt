-- How a scan represents what it has passed and given.
use Rattle.std.specs.Prelude.{◌≡◌, ℕ, true, ◌+◌, ◌-◌, ◌*◌, ◌≤◌, List, []}
use Rattle.std.specs.Prelude.{◌∷◌, ◌++◌, length, flat_map, Contains, Option, Some, None}
use Rattle.std.specs.Prelude.{IfSome}
use Rattle.std.specs.Borrow.{Bor}
use Rattle.flute_join.specs.Cell.{IsKnown}
use Rattle.flute_join.specs.JoinMap.{value_at, IsOrdered, EachValue}
use Rattle.flute_join.specs.declared.cell.Cell.{Cell}
use Rattle.flute_join.specs.declared.cell.Cell.TheVariants.{One}
use Rattle.flute_parts.specs.Information.{Information, sizes}
use Rattle.flute_parts.specs.Order.{symbol_id_cmp}
use Rattle.flute_parts.specs.Partition.{ids, fits}
use Rattle.flute_parts.specs.declared.key.Key.{Key}
use Rattle.flute_parts.specs.declared.symbol_id.SymbolId.{SymbolId}
use Rattle.flute_parts.specs.declared.fact.Fact.{Fact}
use Rattle.flute_parts.specs.declared.fact.Fact.TheVariants.{Info}
use Rattle.flute_store.specs.declared.gap.Gap.{Gap}
use Rattle.flute_store.specs.declared.turn.Turn.{Turn}
use Rattle.flute_store.specs.declared.partition_scan.PartitionScan.{PartitionScan}
use Rattle.flute_store.specs.declared.status.Wanted.{Wanted}
use Rattle.flute_store.specs.Objects.{runs, listed}
use Rattle.flute_store.specs.Wanted.{wanted}
use Rattle.flute_store.specs.BytesLeft.{held_bytes}
use Rattle.flute_store.specs.PartitionScan.{walk_of, symbols_left, gaps_left, IsWalk, IsPlace}
use Rattle.flute_store.specs.Shown.{shown_by, shown}
use Rattle.flute_store.specs.Status.{IsCount}
use Rattle.flute_store.specs.Scan.{Scanned, coming_fact, Turned}

-- the symbol that comes next: its ID, and its bytes or a conflict
abbrev pub Next : Type 0
Next = Option (SymbolId × Option (Bor (List ℕ)))

-- the next symbol by the length of its one value
abbrev pub held_next : Option (SymbolId × Option (Bor (List ℕ))) → Option (SymbolId × Option ℕ)
held_next None = None
held_next (Some (id, None)) = Some (id, None)
held_next (Some (id, Some bytes)) = Some (id, Some (length bytes.now))

-- what a scan holds
pub record ScanState : Type 0 where
  pub key : Key
  pub info : Information
  pub walk : PartitionScan
  pub wanted : Wanted

-- how many symbols are in a run
abbrev pub run_length : Option Gap → ℕ
run_length None = 0
run_length (Some gap) = gap.last + 1 - gap.first

-- no more symbols were counted than blocks and symbols were passed
abbrev pub CountsWithin : PartitionScan → Wanted → Type 0
CountsWithin w c = c.missing + c.conflicting + c.misfit + run_length w.run ≤ w.begun * 65536 + w.esi

-- what holds of the scan of a journal's object between its turns
pub record IsScan (o : ScanState) : Type 0 where
  pub place : IsPlace o.walk
  pub within : CountsWithin o.walk o.wanted
  pub partition : o.walk.partition ≡ o.info

-- the symbols that are still to come: the first of them is that of the next fact; none if there is
-- no next fact
abbrev pub ComesAs : Key → Option Fact → List (SymbolId × Cell (List ℕ)) → Type 0
ComesAs key None more = more ≡ []
ComesAs key (Some f) more =
    (others : List (SymbolId × Cell (List ℕ))) × (more ≡ shown_by key f ++ others)

-- some blocks were begun, and no more than the object has
pub record BeginsBlocks (old new : ScanState) : Type 0 where
  pub partition_is : new.walk.partition ≡ old.walk.partition
  pub onward : old.walk.begun ≤ new.walk.begun
  pub within : new.walk.begun ≤ length (sizes new.walk.partition)

-- how many runs are open: 0 or 1
abbrev pub one_run : Option Gap → ℕ
one_run None = 0
one_run (Some gap) = 1

-- the symbols of the partition that were passed are held as one fitting value, and no gap was met
pub record FitsSoFar (s : Scanned) (w : PartitionScan) (bytes : List ℕ) : Type 0 where
  pub done : List SymbolId
  pub all : ids s.info ≡ done ++ symbols_left (walk_of w [])
  pub held : (id : SymbolId) → Contains done id
      → (value : List ℕ) × (value_at symbol_id_cmp (shown s.key s.facts) id ≡ Some (One value))
      × (fits s.info id (length value) ≡ true)
  pub values : bytes ≡ held_bytes (shown s.key s.facts) done
  pub no_run : w.run ≡ None
  pub no_gap : s.given ≡ []

-- whatever symbols follow, those that are wanted are in the gaps that were given and
-- in those that are left
pub record Walks (s : Scanned) (w : PartitionScan)
    (more : List (SymbolId × Cell (List ℕ))) : Type 0 where
  pub walk : IsWalk (walk_of w more)
  pub gaps_are : runs (wanted s.info (shown s.key s.facts ++ more) (ids s.info))
      ≡ s.given ++ gaps_left (walk_of w more)

-- the scan is of these facts: its object has this information, and the symbols that came
pub record Scans (o : ScanState) (s : Scanned) : Type 0 where
  pub key_is : s.key ≡ o.key
  pub info_is : s.info ≡ o.info
  pub begins : (symbols : List Fact) × (s.facts ≡ Info s.key s.info ∷ symbols)
  pub walks : (more : List (SymbolId × Cell (List ℕ)))
      → IsOrdered symbol_id_cmp (shown s.key s.facts ++ more) → EachValue IsKnown more
      → IfSome s.coming (λ f. ComesAs s.key f more) → Walks s o.walk more
  pub done : IfSome s.bytes (λ bytes. FitsSoFar s o.walk bytes)
  pub counts : IsCount o.wanted (flat_map listed s.given)
  pub ahead_is : s.ahead ≡ length (symbols_left (walk_of o.walk [])) + one_run o.walk.run

-- what comes next was shown
abbrev pub announced : Scanned → Next → Scanned
announced s next = record s { coming = Some (coming_fact s.key next) }

-- a held symbol after the last block is passed
abbrev pub passed_at_end : Option Turn → Option (SymbolId × Option ℕ) → Option Turn
passed_at_end (Some Turn.End) (Some next) = Some Turn.Passed
passed_at_end turn next = turn

-- a block was begun, or this is the turn
abbrev pub Stepped : Scanned → Next → ScanState → Option Turn → Type 0
Stepped s next o None = Scans o (announced s next)
Stepped s next o (Some turn) = (t : Scanned) × Turned s next turn t × Scans o t
