-- What each turn of a walk does (specs/PartitionScan, specs/HeldScan).
use Rattle.flute_store.proofs.Maps.{Entry, Held}
use Rattle.std.proofs.Common.{◌≡◌, ℕ, List, Option, Some, None, refl, sym, ap, ◌∙◌}
use Rattle.std.proofs.Common.{subst, rules, ◌+◌, ◌<◌, ◌^◌, false, length, arith}
use Rattle.std.specs.Prelude.{length}
use Rattle.flute_store.proofs.Upcoming.{told, step-pass, step-take, step-begin, ahead-trans}
use Rattle.flute_store.proofs.GapSteps.{step-want, gap-run, gap-missing, gaps-end}
use Rattle.flute_store.proofs.Common
use Common.{IsKnown, EachValue, Information}
use Common.{symbol_id_cmp, Gap, Turn, Upcoming, End, BlockEnd, Passed}
use Common.{Fitting, Wanted, NotHeld, PartitionScan, walk_of, IsPlace, IsWalk}
use Common.{ShowsNext, upcoming_at}
use Common.{upcoming_of, until_held, until_next, ended_run, turn_on, turn_after, turn_of}
use Common.{held_after, TurnsTo, IsOrdered, HeldScan, runs, Walk, at_start, Keeps}
use Common.{walk_in, bound, IsHeldScan, Turns, KeepsGaps, counted}

-- the run that ends, if one does, is the run
pub run-is : (run : Option Gap) (l : Upcoming) (g : Gap) → ended_run run l ≡ Some g → run ≡ Some g
run-is = grind arith

-- the end of a block, a fitting symbol and one that is not held end each run
abbrev pub Ends : Upcoming → Type 0
Ends Passed = ⊥
Ends (Wanted r) = ⊥
Ends l = Unit {0}

pub no-run : (run : Option Gap) (l : Upcoming) → Ends l → ended_run run l ≡ None → run ≡ None
no-run = search rules

until-same : (sbn size : ℕ) (held : List Entry) (next : Option Held)
    → ShowsNext held next → until_next sbn size next ≡ until_held sbn size held
until-same = search rules

module _ (w : PartitionScan) (held : List Entry) (next : Option Held)
    (n : ShowsNext held next) (p : IsWalk (walk_of w held)) where
  pub upcoming-same : upcoming_at w next ≡ upcoming_of (walk_of w held)
  unfolding upcoming_at upcoming_of
  upcoming-same = search rules

  abbrev Gives : Upcoming → Option Gap → Type 0
  Gives l o = TurnsTo (walk_of w held) (turn_after w next l o).0
      (walk_of (turn_after w next l o).1 (held_after (turn_after w next l o).0 held))

  by_run : (l : Upcoming) (o : Option Gap) → upcoming_of (walk_of w held) ≡ l
      → ended_run w.run l ≡ o → IsPlace (turn_after w next l o).1 → Gives l o
  by_run l (Some g) e h q = gap-run _ g p (run-is _ l g h) (ap (ended_run _) e ∙ h)
  by_run End None e h q =
      (refl, e, record { begun = (told _ _ e).1; none = gaps-end _ e (no-run _ _ tt h) })
  by_run BlockEnd None e h q = (step-begin _ p (told _ _ e) (no-run _ _ tt h) q.longest, e, refl)
  by_run Passed None e h q = (step-pass _ p (told _ _ e), e, refl)
  by_run Fitting None e h q = (step-take _ p (told _ _ e) (no-run _ _ tt h), e, refl)
  by_run (Wanted r) None e h q = (step-want _ r p (told _ _ e) h, (r, e, refl))
  by_run NotHeld None e h q = rw (until-same w.sbn _ _ next n)
      (gap-missing _ p (no-run _ NotHeld tt h) e)

  -- a turn, given the next held symbol
  pub turn-turns : IsPlace (turn_of w next).1 → TurnsTo (walk_of w held) (turn_of w next).0
      (walk_of (turn_of w next).1 (held_after (turn_of w next).0 held))
  unfolding turn_of
  turn-turns = search (rules, by_run, upcoming-same)

-- ---- the parts of a turn

pub turn-ended : (w : PartitionScan) (next : Option Held) (g : Gap) → ended_run w.run
    (upcoming_at w next) ≡ Some g → (Some (Turn.Gap g), record w { run = None }) ≡ turn_of w next
unfolding turn_of
turn-ended = search rules

pub turn-at : (w : PartitionScan) (next : Option Held) (l : Upcoming) → upcoming_at
    w next ≡ l → ended_run w.run (upcoming_at w next) ≡ None → turn_on w next l ≡ turn_of w next
unfolding turn_of
turn-at = search rules

-- ---- the turns of a walk over all that is held

-- a held symbol is passed, or a block begun
abbrev pub Steps : Option Turn → Type 0
Steps (Some (Turn.Gap gap)) = ⊥
Steps (Some Turn.End) = ⊥
Steps turn = Unit {0}

pub step-keeps : (v : Walk) (t : Option Turn) (w : Walk) → Steps t → TurnsTo v t w → Keeps v w
step-keeps = search rules

walked : (v : HeldScan) (next : Option Held) (t : Option Turn) (x : PartitionScan)
    → IsHeldScan v → ShowsNext v.held next → (t, x) ≡ turn_of v.walk next → IsPlace x
    → TurnsTo (walk_in v) t (walk_of x (held_after t v.held))
walked v next t x p n e q = subst (λ (r : Option Turn × PartitionScan). TurnsTo (walk_in v) r.0
    (walk_of r.1 (held_after r.0 v.held))) (sym e) (turn-turns _ _ _ n p.walk (rw (← e) q))

module _ (v : HeldScan) (x : PartitionScan) (p : IsHeldScan v) (q : IsPlace x) where
  -- a turn of a HeldScan is one step of its walk
  stepped : (t : Option Turn) (w : HeldScan) → Steps t → w.walk ≡ x → w.ticks ≡ v.ticks + 1
      → w.ended ≡ v.ended → TurnsTo (walk_in v) t (walk_in w) → IsHeldScan w × (bound w ≡ bound v)
  stepped = search rules

  turned : (t : Option Turn) → TurnsTo (walk_in v) t (walk_of x (held_after t v.held))
      → Turns v t (counted t (record v { walk = x }))
  turned = search rules

-- the same, for any turn that `turn_of` returns
pub held-turn : {v : HeldScan} (next : Option Held) {t : Option Turn}
    {x : PartitionScan} {w : HeldScan} → IsHeldScan v → ShowsNext v.held next
    → (t, x) ≡ turn_of v.walk next → IsPlace x → w ≡ counted t (record v { walk = x }) → Turns v t w
held-turn {v} next {t} {x} p n e q h = rw h (turned v x p q t (walked v _ t x p n e q))

ticked : (v w : HeldScan) (t : Option Turn) → Steps t → Turns v t w → w.ticks ≡ v.ticks + 1
ticked = search rules

-- ---- the start

-- a new walk is in its place, before all that is held
pub start-walk : (info : Information) (held : List Entry) → IsOrdered symbol_id_cmp held
    → EachValue IsKnown held → IsWalk (at_start info held)
start-walk = search rules

pub start-held : (info : Information) (held : List Entry) {w : PartitionScan} (left : List Entry) →
    walk_of w left ≡ at_start info held → IsPlace w → IsOrdered symbol_id_cmp held → EachValue
    IsKnown held → length held < 2 ^ 32 → IsHeldScan
    (record { walk = w; held = left; ticks = 0; ended = false })
start-held = search rules

-- ---- turns one after another

pub keeps-step : (u v w : HeldScan) (t : Option Turn) → Steps t → KeepsGaps u v → Turns v t w
    → KeepsGaps u w
keeps-step u v w t s k h =
    let l = step-keeps (walk_in v) t _ s h.turns in
    record {
      walk = h.walk;
      gaps_are = ap runs l.left_is ∙ k.gaps_are;
      bound_is = h.bound_is ∙ k.bound_is;
      onward = search (rules, ticked);
      ahead = ahead-trans _ _ _ k.ahead l.ahead;
    }
