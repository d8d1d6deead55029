-- The place of a walk after a turn, whatever is held after the next symbol (specs/PartitionScan).
use Rattle.flute_store.proofs.Maps.{Held}
use Rattle.std.proofs.Common.{rules}
use Common.{Ordering, Less, Equal, Greater, match_ordering, sizes}
use Common.{symbol_id_cmp, symbol_id_place, symbol_id, fits, SymbolId, Reason, Missing, Gap}
use Common.{Turn, Upcoming, End, BlockEnd, Passed, Fitting, Wanted, NotHeld, PartitionScan}
use Common.{IsPlace, want_length, upcoming_wanted, upcoming_next, upcoming_at, until_at}
use Common.{ended_run, missing_gap, after_missing, after_wanted, after_block, turn_after}
use Common.{turn_of, run_length, CountsWithin, Counted}
use Rattle.std.proofs.Common.{◌≡◌, ◌≢◌, ℕ, ◌+◌, ◌-◌, ◌*◌, ◌<◌, ◌≤◌, ◌^◌, ◌⊎◌, true}
use Rattle.std.proofs.Common.{Option, Some, None, refl, sym, ap, subst, arith}
use Rattle.std.specs.Prelude.{length}
use Rattle.flute_store.proofs.Upcoming.{by-place}
use Rattle.flute_store.proofs.{GapSteps.{run-ends}, Turns.{no-run}}
use Rattle.flute_store.proofs.Common

abbrev Next : Type 0
Next = Option Held

-- ---- what comes next, from its parts

pub at-end : (w : PartitionScan) (next : Next) → w.esi ≡ w.size
    → w.begun ≡ length (sizes w.partition) → End ≡ upcoming_at w next
unfolding upcoming_at
at-end = search rules

pub at-block_end : (w : PartitionScan) (next : Next) → w.esi ≡ w.size
    → w.begun ≢ length (sizes w.partition) → BlockEnd ≡ upcoming_at w next
unfolding upcoming_at
at-block_end = search rules

pub at-inside : (w : PartitionScan) (next : Next) → w.esi ≢ w.size
    → upcoming_next w.partition (symbol_id w.sbn w.esi) next ≡ upcoming_at w next
unfolding upcoming_at
at-inside = search rules

pub at-first : (w : PartitionScan) (id : SymbolId) (n : Option ℕ) (o : Ordering) → w.esi ≢ w.size →
    symbol_id_cmp id (symbol_id w.sbn w.esi) ≡ o → match_ordering o Passed
    (upcoming_wanted (want_length w.partition id n)) NotHeld ≡ upcoming_at w (Some (id, n))
at-first w id n o i c = rw (← c, at-inside w (Some (id, n)) i)

-- ---- what each case of `upcoming_at` says

abbrev IsAfter : SymbolId → Next → Type 0
IsAfter here None = Unit {0}
IsAfter here (Some next) = symbol_id_cmp next.0 here ≡ Greater

abbrev TellsAt : PartitionScan → Next → Upcoming → Type 0
TellsAt w next End = (w.esi ≡ w.size) × (w.begun ≡ length (sizes w.partition))
TellsAt w next BlockEnd = (w.esi ≡ w.size) × (w.begun ≢ length (sizes w.partition))
TellsAt w next Passed = (n : Held) × (next ≡ Some n)
TellsAt w next Fitting = (w.esi ≢ w.size) × ((n : ℕ) × (next ≡ Some (symbol_id w.sbn w.esi, Some n))
    × (fits w.partition (symbol_id w.sbn w.esi) n ≡ true))
TellsAt w next (Wanted r) =
    (w.esi ≢ w.size) × (r ≢ Missing) × ((n : Option ℕ) × (next ≡ Some (symbol_id w.sbn w.esi, n)))
TellsAt w next NotHeld = (w.esi ≢ w.size) × IsAfter (symbol_id w.sbn w.esi) next

tells-wanted : (w : PartitionScan) (next : Next) (n : Option ℕ) → w.esi ≢ w.size
    → next ≡ Some (symbol_id w.sbn w.esi, n)
    → TellsAt w next (upcoming_wanted (want_length w.partition (symbol_id w.sbn w.esi) n))
tells-wanted = search rules

tells-next : (w : PartitionScan) (next : Next) → w.esi ≢ w.size
    → TellsAt w next (upcoming_next w.partition (symbol_id w.sbn w.esi) next)
tells-next w None i = (i, tt)
tells-next w (Some next) i = by_order _ refl
  where
    by_order : (o : Ordering) → symbol_id_cmp next.0 (symbol_id w.sbn w.esi) ≡ o
        → TellsAt w (Some next) (match_ordering o Passed
        (upcoming_wanted (want_length w.partition next.0 next.1)) NotHeld)
    by_order Less e = (next, refl)
    by_order Equal e =
        let h = symbol_id_place next.0 (symbol_id w.sbn _) e in
        subst (λ id. TellsAt w (Some next) (upcoming_wanted (want_length w.partition id next.1)))
        (sym h) (tells-wanted w (Some next) next.1 i (ap (λ id. Some (id, next.1)) h))
    by_order Greater e = (i, e)

-- what comes next, by its case
pub told-at : (w : PartitionScan) (next : Next) (l : Upcoming) → upcoming_at w next ≡ l
    → TellsAt w next l
unfolding upcoming_at
told-at = search (rules, by-place, sizes, tells-next)

-- ---- where the next held symbol is

until-beyond : (w : PartitionScan) (next : Next) → w.esi < w.size
    → IsAfter (symbol_id w.sbn w.esi) next → (w.esi < until_at w next) × (until_at w next ≤ w.size)
until-beyond = search rules

module _ (w : PartitionScan) (next : Next) (p : IsPlace w) where
  inside : w.esi ≢ w.size → w.esi < w.size
  inside = search rules

  pub until-within : upcoming_at w next ≡ NotHeld
      → (w.esi < until_at w next) × (until_at w next ≤ w.size)
  until-within h = let t = told-at w _ _ h in until-beyond w _ (inside t.0) t.1

  pub block-next : upcoming_at w next ≡ BlockEnd → w.begun < length (sizes w.partition)
  block-next h = omega (arith, p.begun, (told-at w _ _ h).1)

  pub wanted-small : (r : Reason) → upcoming_at w next ≡ Wanted r → w.esi < 65536
  wanted-small r h = omega (arith, inside (told-at w _ _ h).0)

  -- after a turn a walk is in its place
  place-on : (l : Upcoming) (o : Option Gap) → upcoming_at w next ≡ l → ended_run w.run l ≡ o
      → (turn_after w next l o).1.size ≤ 65536 → IsPlace (turn_after w next l o).1
  place-on l (Some g) e h s = record {
    blocks = p.blocks;
    begun = p.begun;
    within = p.within;
    longest = s;
    running = tt;
  }
  place-on BlockEnd None e h s =
      let b = block-next e in let r = no-run w.run _ tt h in search rules
  place-on Fitting None e h s =
      let i = inside (told-at w _ Fitting e).0 in
      let r = no-run _ Fitting tt h in
      search rules
  place-on (Wanted r) None e h s =
      let t = told-at w _ (Wanted r) e in
      let i = inside t.0 in
      let ends = run-ends w.sbn w.esi r w.run p.running h t.1 in search rules
  place-on NotHeld None e h s =
      let u = until-within e in let r = no-run _ NotHeld tt h in search rules
  place-on other None e h s = p

  -- and a walk that a turn led to is
  pub placed : (answer : Option Turn) (x : PartitionScan) → (answer, x) ≡ turn_of w next
      → x.size ≤ 65536 → IsPlace x
  unfolding turn_of
  placed answer x e s =
      let p = ap (λ t. t.1) e in
      rw p (place-on _ _ refl refl (rw p at s))

-- ---- which turn was made

-- how the walk x follows from the walk before, for each turn
abbrev pub Kind : PartitionScan → Next → Option Turn → PartitionScan → Type 0
Kind w next None x = (upcoming_at w next ≡ BlockEnd) × (w.run ≡ None) × (x ≡ after_block w)
Kind w next (Some (Turn.Gap g)) x = ((w.run ≡ Some g) × (x ≡ record w { run = None })) ⊎ ((w.run ≡
    None) × (upcoming_at w next ≡ NotHeld) × (x ≡ after_missing w next) × (g ≡ missing_gap w next))
Kind w next (Some Turn.Fitting) x =
    (upcoming_at w next ≡ Fitting) × (w.run ≡ None) × (x ≡ record w { esi = w.esi + 1 })
Kind w next (Some Turn.Wanted) x = (r : Reason) × (upcoming_at w next ≡ Wanted r) ×
    (ended_run w.run (Wanted r) ≡ None) × (x ≡ after_wanted w r)
Kind w next (Some Turn.Passed) x = (upcoming_at w next ≡ Passed) × (x ≡ w)
Kind w next (Some Turn.End) x = (upcoming_at w next ≡ End) × (w.run ≡ None) × (x ≡ w)

pub kind : (w : PartitionScan) (next : Next) (t : Option Turn) (x : PartitionScan)
    → (t, x) ≡ turn_of w next → Kind w next t x
unfolding turn_of
kind = search rules

-- ---- no more is counted than was passed

-- this turn gives no gap
abbrev pub NoGap : Option Turn → Type 0
NoGap (Some (Turn.Gap g)) = ⊥
NoGap t = Unit {0}

module _ {w : PartitionScan} (next : Next) (c : Counted) (p : IsPlace w)
    (h : CountsWithin w c) where
  pub within-turn : (t : Option Turn) (x : PartitionScan) → NoGap t → Kind w next t x
      → CountsWithin x c
  within-turn = search rules

  -- a gap has a symbol, and with its symbols counted this holds too
  pub within-gap : (g : Gap) (x : PartitionScan) → Kind w next (Some (Turn.Gap g)) x →
      (g.first ≤ g.last) × (c.missing + c.conflicting + c.misfit + (g.last + 1 - g.first) +
      run_length x.run ≤ x.begun * 65536 + x.esi)
  within-gap = search (rules, until-within)

  -- so the counts together are below 2^33
  pub small : c.missing + c.conflicting + c.misfit < 2 ^ 33
  small = search rules
