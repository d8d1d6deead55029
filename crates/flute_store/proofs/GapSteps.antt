-- The gaps that a walk gives are the runs of what is wanted (specs/GapsLeft).
use Rattle.flute_store.proofs.Maps.{Entry}
use Rattle.std.proofs.Common.{rules}
use Rattle.std.proofs.Common.{◌≡◌, ◌≢◌, ℕ, zero, suc, ◌+◌, ◌-◌, ◌<◌, ◌≤◌, false, ◌&&◌, List}
use Rattle.std.proofs.Common.{[], ◌∷◌, ◌++◌, map, Option, Some, None, refl, sym, ap, ◌∙◌, subst}
use Rattle.std.proofs.Common.{inl, inr, ◌⊎◌, arith, append_assoc}
use Rattle.flute_store.proofs.Lookups.{Above, sbn-less, above-before, above-later}
use Rattle.flute_store.proofs.Lookups.{above-block, blocks_from-end, Elsewhere, value-before}
use Rattle.flute_store.proofs.Lookups.{value-here, wanted-missing, elsewhere-above, elsewhere-here}
use Rattle.std.proofs.Math.Nat.{zero-add, add-zero, suc-add}
use Rattle.std.{proofs.lemmas.List.FromFn.{map-range_with_len_more}, specs.Prelude.{nat_lt}}
use Rattle.flute_store.proofs.Runs.{runs-first, reason_same}
use Rattle.flute_store.proofs.Upcoming.{here, AtHere, FirstAfter, Tells, told, others_left}
use Rattle.flute_store.proofs.Upcoming.{symbols-first, symbols-end, blocks-later, others-above}
use Rattle.flute_store.proofs.Upcoming.{inside-less, sorted-first, taken-left, taken-keeps}
use Rattle.flute_store.proofs.Common
use Common.{◌==◌, range_with_len, keys_of, Less, Greater, cases_Bool}
use Common.{nat_tests, same_Some, IsKnown, IsOrdered, EachValue, value_at}
use Common.{Cell, Information, symbol_id_cmp, symbol_id, SymbolId, Reason}
use Common.{Missing, Gap, Upcoming, End, BlockEnd, Passed, Fitting, Wanted, NotHeld, runs}
use Common.{want_cell, wanted, block_from, blocks_from, Walk, left, pending, gaps_left}
use Common.{IsBehind, EndsBefore, IsWalk, after_take, after_want, run_with, upcoming_of, until_held}
use Common.{until_of, ended_run, Keeps, GivesGap}

-- ---- the end

pub end-left : (w : Walk) → Tells w End → left w ≡ []
unfolding left wanted
end-left = search (rules, symbols-end, blocks_from-end)

pub gaps-end : (w : Walk) → upcoming_of w ≡ End → w.run ≡ None → gaps_left w ≡ []
unfolding runs
gaps-end w e r = ap (λ o. runs (pending o ++ left w)) r ∙ ap runs (end-left w (told w _ e))

-- ---- held symbols that are wanted for one reason

abbrev entry : ℕ → Reason → ℕ → SymbolId × Reason
entry n r i = (symbol_id n i, r)

same_run : (g : Gap) (r : Reason) → ended_run (Some g) (Wanted r) ≡ None → g.reason ≡ r
same_run g r h = grind (arith, reason_same g.reason r)

-- a run with the symbol after it is the run extended by that symbol
run-more : (n i : ℕ) (r : Reason) (run : Option Gap) (ws : List (SymbolId × Reason))
    → EndsBefore n i run → ended_run run (Wanted r) ≡ None
    → pending (Some (run_with n i r run)) ++ ws ≡ pending run ++ (entry n r i ∷ ws)
run-more n i r None ws e h = search rules
run-more n i r (Some g) ws e h =
    let k : i + 1 - g.first ≡ g.last + 1 - g.first + 1 = omega arith in
    rw (
      k,
      map-range_with_len_more (entry g.sbn g.reason) g.first (g.last + 1 - g.first) i
          (omega arith),
      append_assoc,
    )
    (λ x. pending (Some g) ++ (entry (e.0 x) (same_run g r h x) i ∷ ws))

pub run-ends : (n i : ℕ) (r : Reason) (run : Option Gap) → EndsBefore n i run → ended_run run
    (Wanted r) ≡ None → r ≢ Missing → EndsBefore n (i + 1) (Some (run_with n i r run))
run-ends = search rules

first-above : (p : SymbolId) (held : List Entry) → IsOrdered symbol_id_cmp held → FirstAfter p held
    → Above p (keys_of held)
first-above = search (rules, above-before, sorted-first)

-- what is known is not missing
known-not_missing : (info : Information) (id : SymbolId) (c : Cell (List ℕ)) → IsKnown c
    → want_cell info id (Some c) ≡ Some Missing → ⊥
known-not_missing = grind arith

first-known : (held : List Entry) (e : Entry) (es : List Entry) → held ≡ e ∷ es
    → EachValue IsKnown held → IsKnown e.1
first-known = search rules

here-known : (w : Walk) (r : Reason) → IsWalk w → AtHere w (Some r) → r ≢ Missing
here-known = search rules

-- no symbol that is wanted for the reason comes next
abbrev EndsRun : Reason → Upcoming → Type 0
EndsRun reason Passed = ⊥
EndsRun reason (Wanted why) = why ≡ reason → ⊥
EndsRun reason _ = Unit {0}

-- where a run ends, what is wanted next is another symbol, or wanted for another reason
module _ (w : Walk) (r : Reason) (p : IsWalk w) (h : 0 < w.esi) (d : r ≢ Missing) where
  at_end : w.esi ≡ w.size → Elsewhere (here w) r (left w)
  unfolding left
  at_end e = rw (symbols-end w e) (elsewhere-above _ _ _ r _
      (above-later _ _ (blocks-later w p (omega (arith)))))

  at_fitting : AtHere w None → Elsewhere (here w) r (left (after_take w))
  unfolding left
  at_fitting t = search (rules, elsewhere-above, others-above, inside-less)

  at_not_held : Tells w NotHeld → Elsewhere (here w) r (left w)
  unfolding left
  at_not_held t =
      let l = inside-less w p t.0 in
      rw (symbols-first w l) (elsewhere-here _ _ (here w) r _
      (λ e. d (search (rules, same_Some, value-before, first-above))) (others-above w p l))

  pub stop-elsewhere : (l : Upcoming) → upcoming_of w ≡ l → EndsRun r l
      → Elsewhere (here w) r (left w)
  stop-elsewhere End e s = at_end (told w _ e).0
  stop-elsewhere BlockEnd e s = at_end (told w _ e).0
  stop-elsewhere Passed e s = absurd s
  stop-elsewhere Fitting e s =
      let t = told w _ e in
      rw (taken-left w.run w _ p t) (at_fitting t)
  stop-elsewhere (Wanted q) e s = rw (taken-left w.run w _ p (told w (Wanted q) e)) (λ f g. s g)
  stop-elsewhere NotHeld e s = at_not_held (told w _ e)

-- a wanted symbol is put to the run
pub step-want : (w : Walk) (r : Reason) → IsWalk w → AtHere w (Some r)
    → ended_run w.run (Wanted r) ≡ None → Keeps w (after_want r w)
step-want w r p t h = taken-keeps _ w _ p t (run-ends _ _ r _ p.running h (here-known w r p t))
    (run-more
    _ _ r _ _ p.running h ∙ ap (λ ws. pending w.run ++ ws)
    (sym (taken-left (Some (run_with w.sbn _ r w.run)) w _ p t)))

-- the run that ends is given
ends-upcoming : (g : Gap) (l : Upcoming) → ended_run (Some g) l ≡ Some g → EndsRun g.reason l
ends-upcoming = search rules

pub gap-run : (w : Walk) (g : Gap) → IsWalk w → w.run ≡ Some g
    → ended_run w.run (upcoming_of w) ≡ Some g → GivesGap w g (record w { run = None })
unfolding left
gap-run w g p e h =
    let q = subst (EndsBefore w.sbn w.esi) e p.running in
    let z : 0 < w.esi = omega arith in
    let y : w.esi ≡ g.last + 1 = omega arith in
    let k : g.last + 1 - 1 ≡ g.last = omega arith in
    let j : w.esi - 1 ≡ g.last = omega arith in
    let f : here w ≡ symbol_id g.sbn (g.last + 1) = search rules in
    let x = stop-elsewhere w _ p z q.3 _ refl (search (rules, ends-upcoming)) in
    record {
      walk = search rules;
      first = ap (λ o. runs (pending o ++ left w)) e ∙ runs-first _ _ _ _ _ (omega arith)
          (rw (← f) x) ∙ (λ i. record g { last = k i } ∷ runs (left w));
      held_is = refl;
      begun_is = refl;
      partition_is = refl;
      passes = record { begun = search rules; behind = search rules };
    }

-- ---- symbols that are not held

pub greater-cases : (p q : SymbolId) → symbol_id_cmp p q ≡ Greater
    → (q.sbn < p.sbn) ⊎ ((p.sbn ≡ q.sbn) × (q.esi < p.esi))
greater-cases = grind (arith, nat_tests)

-- up to u nothing of the block is held, and u is its end or the first held symbol
record Until (n a size u : ℕ) (held : List Entry) : Type 0 where
  less : a < u
  within : u ≤ size
  before : (i : ℕ) → i < u → IsBehind n i held
  next : (u ≡ size)
      ⊎ ((u < size) × (e : Entry) × (es : List Entry) × (held ≡ e ∷ es) × (e.0 ≡ symbol_id n u))

first-less : (n i : ℕ) (e : Entry) (es : List Entry) → IsOrdered symbol_id_cmp (e ∷ es)
    → symbol_id_cmp (symbol_id n i) e.0 ≡ Less → IsBehind n i (e ∷ es)
first-less n i e es s l = (l, above-before _ _ _ l (sorted-first e _ s))

-- the order of ids within a block, and beyond it
less_in : (n i : ℕ) (p : SymbolId) → p.sbn ≡ n → i < p.esi → symbol_id_cmp (symbol_id n i) p ≡ Less
less_in = search rules

beyond : (m n j size : ℕ) → ((m == n) && nat_lt j size) ≡ false → m ≡ n → size ≤ j
beyond = grind (arith, nat_tests)

-- until_held gives the ESI of the block's first held symbol, or its end
until-is : (n a size : ℕ) (held : List Entry) → a < size → IsOrdered symbol_id_cmp held
    → FirstAfter (symbol_id n a) held → Until n a size (until_held n size held) held
until-is = search (rules, cases_Bool, greater-cases, first-less, less_in, sbn-less, beyond)

-- a block's ids, cut in two
block-append : (n a k j : ℕ) → map (symbol_id n) (range_with_len a (k + j)) ≡ map (symbol_id n)
    (range_with_len a k) ++ map (symbol_id n) (range_with_len (a + k) j)
block-append n a zero j = simp (zero-add, add-zero)
block-append n a (suc k) j =
    let f : a + 1 + k ≡ a + suc k = omega arith in
    rw (suc-add k j, block-append n (a + 1) k j, f)

block-split : (n a u size : ℕ) → a ≤ u → u ≤ size
    → block_from n a size ≡ block_from n a u ++ block_from n u size
block-split n a u size l m =
    let e : size - a ≡ u - a + (size - u) = omega arith in
    let f : a + (u - a) ≡ u = omega arith in
    rw (e, block-append n a _ _, f)

-- the next symbols are not held
abbrev pub after_missing : Walk → Walk
after_missing w = record w { esi = until_of w }

until-walk : (w : Walk) → IsWalk w → upcoming_of w ≡ NotHeld
    → Until w.sbn w.esi w.size (until_of w) w.held
until-walk w p e =
    let t = told w _ e in
    until-is _ _ _ _ (inside-less w p t.0) p.ordered t.1

-- a gap of symbols that are not held: what is left after it, and that nothing continues it
missing-walk : (w : Walk) → IsWalk w → w.run ≡ None → until_of w ≤ w.size
    → IsBehind w.sbn (until_of w - 1) w.held → IsWalk (after_missing w)
missing-walk = search rules

missing-elsewhere : (w : Walk) → IsWalk w → 0 < w.size → ((until_of w ≡ w.size) ⊎ ((until_of w <
    w.size) × (e : Entry) × (es : List Entry) × (w.held ≡ e ∷ es) ×
    (e.0 ≡ symbol_id w.sbn (until_of w)))) → Elsewhere (symbol_id w.sbn (until_of w)) Missing
    (left (after_missing w))
unfolding left
missing-elsewhere w p l (inl e) =
    let q = symbol_id _ _ in
    rw (symbols-end (after_missing w) e)
    (elsewhere-above _ _ q _ _ (above-later q _ (blocks-later w p l)))
missing-elsewhere w p l (inr n) =
    let q = symbol_id _ _ in
    let e = n.1 in
    rw (symbols-first (after_missing w) n.0) (elsewhere-here w.partition _ q Missing
    (others_left (after_missing w)) (λ z. known-not_missing w.partition q e.1
    (first-known w.held e _ n.3 p.known) (search (rules, value_at, value-here)))
    (above-block _ (until_of w) w.size _ (blocks-later w p l)))

missing-left : (w : Walk) → Until w.sbn w.esi w.size (until_of w) w.held
    → left w ≡ map (λ i. (symbol_id w.sbn i, Missing)) (range_with_len w.esi (until_of w - w.esi))
    ++ left (after_missing w)
unfolding left
missing-left w u =
    let rest = blocks_from w.partition w.begun in
    ap (λ xs. wanted w.partition w.held (xs ++ rest))
    (block-split w.sbn w.esi _ w.size (omega arith) u.within) ∙ ap (wanted _ _)
    (append_assoc _ (block_from w.sbn _ w.size) rest) ∙ wanted-missing _ _ _ _ _ _
    (λ i h. value-before w.held (symbol_id _ i) (u.before i (omega (arith, h))))

abbrev missing_gap_of : Walk → Gap
missing_gap_of w = record { sbn = w.sbn; first = w.esi; last = until_of w - 1; reason = Missing }

-- the turn gives this gap
pub gap-missing : (w : Walk) → IsWalk w → w.run ≡ None → upcoming_of w ≡ NotHeld → GivesGap w
    (record { sbn = w.sbn; first = w.esi; last = until_of w - 1; reason = Missing })
    (after_missing w)
gap-missing w p r e =
    let u = until-walk w p e in
    let behind = u.before _ (omega arith) in
    record {
      walk = missing-walk w p r u.within behind;
      held_is = refl;
      begun_is = refl;
      partition_is = refl;
      passes = record { begun = search rules; behind = behind };
      first = ap (λ o. runs (pending o ++ left w)) r ∙ ap runs (missing-left w u) ∙ runs-first _ _ _
          _ _ u.less (missing-elsewhere w p (omega arith) u.next) ∙ ap
          (λ o. missing_gap_of w ∷ runs (pending o ++ left (after_missing w))) (sym r);
    }
