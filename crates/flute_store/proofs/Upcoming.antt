-- What comes next on a walk, and what is left then (specs/PartitionScan).
use Rattle.flute_store.proofs.Maps.{Entry}
use Rattle.std.proofs.Common.{rules, ◌≡◌, ◌≢◌, ℕ, ◌+◌, ◌<◌, ◌≤◌, cond, List, [], ◌∷◌, ◌++◌, length}
use Rattle.std.proofs.Common.{drop, Option, Some, None, refl, sym, ap, subst, arith}
use Rattle.std.proofs.Common.{append_assoc, ◌-◌}
use Rattle.flute_store.proofs.Lookups.{Above, Later, above-before, above-block, later-blocks}
use Rattle.flute_store.proofs.Lookups.{blocks_from-next}
use Rattle.flute_store.proofs.Lookups.{wanted-past, wanted-here}
use Rattle.flute_store.proofs.Common
use Common.{◌==◌, option_map, cons_option, keys_of, Less, Greater}
use Common.{IsStrictlySortedBy}
use Common.{sorted_tail, IsKnown, IsOrdered, EachValue, sizes, symbol_id_cmp}
use Common.{symbol_id, SymbolId, Reason, Gap, Upcoming, End, BlockEnd, Passed, Fitting, Wanted}
use Common.{NotHeld, want_cell, with_reason, block_from, blocks_from, Walk, symbols_left}
use Common.{left, pending, IsBehind, EndsBefore, IsWalk, IsAhead, Keeps, after_pass, after_take}
use Common.{after_begin, upcoming_wanted, upcoming_held, upcoming_of}

abbrev pub here : Walk → SymbolId
here w = symbol_id w.sbn w.esi

-- the next symbol is held, and this is why it is wanted, if it is
pub record AtHere (w : Walk) (why : Option Reason) : Type 0 where
  pub inside : w.esi ≢ w.size
  pub first : Entry
  pub others : List Entry
  pub held : w.held ≡ first ∷ others
  pub at_here : first.0 ≡ here w
  pub why_is : want_cell w.partition (here w) (Some first.1) ≡ why

pub record AtPassed (w : Walk) : Type 0 where
  pub inside : w.esi ≢ w.size
  pub first : Entry
  pub others : List Entry
  pub held : w.held ≡ first ∷ others
  pub before : symbol_id_cmp first.0 (here w) ≡ Less

-- the first of these is after p, if there is one
abbrev pub FirstAfter : SymbolId → List Entry → Type 0
FirstAfter p [] = Unit {0}
FirstAfter p (e ∷ es) = symbol_id_cmp e.0 p ≡ Greater

abbrev pub Tells : Walk → Upcoming → Type 0
Tells w End = (w.esi ≡ w.size) × (w.begun ≡ length (sizes w.partition))
Tells w BlockEnd = (w.esi ≡ w.size) × (w.begun ≢ length (sizes w.partition))
Tells w Passed = AtPassed w
Tells w Fitting = AtHere w None
Tells w (Wanted reason) = AtHere w (Some reason)
Tells w NotHeld = (w.esi ≢ w.size) × FirstAfter (here w) w.held

tells-wanted : (w : Walk) (o : Option Reason) → AtHere w o → Tells w (upcoming_wanted o)
tells-wanted = search rules

tells-held : (w : Walk) (held : List Entry) → w.held ≡ held → w.esi ≢ w.size
    → Tells w (upcoming_held w.partition (here w) held)
tells-held x0 x1 x2 x3 = search rules

-- what comes next where a block ends, where the last one does, and within one
pub by-place : (esi size begun blocks : ℕ) {l : Upcoming} (P : Upcoming → Type 0)
    → (esi ≢ size → P l) → (esi ≡ size → begun ≡ blocks → P End)
    → (esi ≡ size → begun ≢ blocks → P BlockEnd)
    → P (cond (esi == size) (cond (begun == blocks) End BlockEnd) l)
by-place = search rules

-- what comes next, by its case
pub told : (w : Walk) (l : Upcoming) → upcoming_of w ≡ l → Tells w l
unfolding upcoming_of
told = search (rules, by-place, sizes, tells-held)

-- ---- the symbols that are left

abbrev pub others_left : Walk → List SymbolId
others_left w = block_from w.sbn (w.esi + 1) w.size ++ blocks_from w.partition w.begun

pub symbols-first : (w : Walk) → w.esi < w.size → symbols_left w ≡ here w ∷ others_left w
symbols-first = search rules

pub blocks-later : (w : Walk) → IsWalk w → 0 < w.size
    → Later w.sbn (blocks_from w.partition w.begun)
blocks-later = search (rules, later-blocks)

pub others-above : (w : Walk) → IsWalk w → w.esi < w.size → Above (here w) (others_left w)
others-above = search (rules, above-block, blocks-later)

pub inside-less : (w : Walk) → IsWalk w → w.esi ≢ w.size → w.esi < w.size
inside-less = search rules

-- ---- steps

held-ordered : (held : List Entry) (e : Entry) (es : List Entry) → held ≡ e ∷ es
    → IsOrdered symbol_id_cmp held → IsOrdered symbol_id_cmp (drop 1 held)
held-ordered = search (rules, sorted_tail)

held-known : (held : List Entry) (e : Entry) (es : List Entry) → held ≡ e ∷ es
    → EachValue IsKnown held → EachValue IsKnown (drop 1 held)
held-known held e es h k = rw h ((rw h at k).1)

-- the other held symbols are after the first
pub sorted-first : (e : Entry) (es : List Entry) → IsOrdered symbol_id_cmp (e ∷ es)
    → Above e.0 (keys_of es)
unfolding IsStrictlySortedBy
sorted-first e es s = s.0

behind-first : (w : Walk) (e : Entry) (es : List Entry) → w.held ≡ e ∷ es → e.0 ≡ here w
    → IsOrdered symbol_id_cmp w.held → IsBehind w.sbn (w.esi + 1 - 1) (drop 1 w.held)
behind-first w e es h p s =
    let k : w.esi + 1 - 1 ≡ w.esi = omega arith in
    rw (k, h) (subst (λ id. Above id (keys_of es)) p (sorted-first e _ (rw h at s)))

-- ---- how far a walk is

pub ahead-trans : (u v w : Walk) → IsAhead u v → IsAhead v w → IsAhead u w
ahead-trans u v w a b = record {
  passed = a.passed ++ b.passed;
  held_is = rw (a.held_is, b.held_is, ← append_assoc a.passed _ _);
  onward = omega arith;
  partition_is = search rules;
}

pub ahead-first : (w x : Walk) (e : Entry) (es : List Entry) → w.held ≡ e ∷ es
    → x.held ≡ drop 1 w.held → x.begun ≡ w.begun → x.partition ≡ w.partition → IsAhead w x
ahead-first w x e es h d b p = record {
  passed = e ∷ [];
  held_is = rw (d, h);
  onward = omega (arith, b);
  partition_is = p;
}

step-behind : (w : Walk) (t : AtPassed w) → IsBehind w.sbn (w.esi - 1) w.held
    → IsBehind w.sbn (w.esi - 1) (drop 1 w.held)
step-behind = search rules

-- passing a held symbol that is not of the partition
pub step-pass : (w : Walk) → IsWalk w → AtPassed w → Keeps w (after_pass w)
unfolding left
step-pass w p t =
    let l = inside-less w p t.inside in
    record {
      walk = assumption (
        held-ordered w.held t.first t.others t.held p.ordered,
        held-known w.held
            t.first t.others t.held p.known,
        λ (z : 0 < w.esi). step-behind w t (p.behind z),
      );
      ahead = ahead-first w _ _ t.others t.held refl refl refl;
      left_is = rw (
        t.held,
        symbols-first w l,
        wanted-past w.partition t.first t.others
            (here w ∷ others_left w) (t.before, above-before _ _ _ t.before (others-above w p l)),
      );
      fewer = rw t.held (omega arith);
    }

-- a held symbol of the partition is passed, with this run after it
abbrev pub taken : Option Gap → Walk → Walk
taken run w = record w { held = drop 1 w.held; esi = w.esi + 1; run = run }

-- taking the next held symbol: the walk stays in order, and what is left is after it
pub taken-walk : (run : Option Gap) (w : Walk) (why : Option Reason) → IsWalk w → AtHere w why
    → EndsBefore w.sbn (w.esi + 1) run → IsWalk (taken run w)
taken-walk = search (rules, inside-less, held-ordered, behind-first)

pub taken-left : (run : Option Gap) (w : Walk) (why : Option Reason) → IsWalk w → AtHere w why
    → left w ≡ cons_option (option_map (with_reason (here w)) why) (left (taken run w))
unfolding left
taken-left = search (rules, inside-less, wanted-here, others-above, symbols-first)

pub taken-keeps : (run : Option Gap) (w : Walk) (why : Option Reason) → IsWalk w → AtHere w why
    → EndsBefore w.sbn (w.esi + 1) run → pending run ++ left (taken run w) ≡ pending w.run ++ left w
    → Keeps w (taken run w)
taken-keeps run w why p t r e = record {
  walk = taken-walk _ w _ p t r;
  left_is = e;
  fewer = rw t.held (omega arith);
  ahead = search (rules, ahead-first);
}

pub step-take : (w : Walk) → IsWalk w → AtHere w None → w.run ≡ None → Keeps w (after_take w)
step-take w p t r = taken-keeps _ w _ p t (rw r tt)
    (ap (λ ws. pending w.run ++ ws) (sym (taken-left _ w _ p t)))

-- where the block has no symbol left, those of the other blocks are
pub symbols-end : (w : Walk) → w.esi ≡ w.size → symbols_left w ≡ blocks_from w.partition w.begun
symbols-end = search rules

-- beginning the next block
pub step-begin : (w : Walk) → IsWalk w → Tells w BlockEnd → w.run ≡ None
    → (after_begin w).size ≤ 65536 → Keeps w (after_begin w)
unfolding left
step-begin = search (rules, sizes, blocks_from-next)

-- ---- what comes next, from its parts

pub upcoming-end : (w : Walk) → w.esi ≡ w.size → w.begun ≡ length (sizes w.partition)
    → End ≡ upcoming_of w
unfolding upcoming_of
upcoming-end = search rules

pub block-left : (w : Walk) → IsWalk w → Tells w BlockEnd → w.begun < length (sizes w.partition)
block-left = search rules
