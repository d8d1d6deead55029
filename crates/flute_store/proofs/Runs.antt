-- Gaps are the longest runs of what is wanted: they list just that (specs/Objects: runs).
use Rattle.std.proofs.Common.{rules}
use Rattle.std.proofs.Common.{◌≡◌, ℕ, zero, suc, ◌+◌, ◌-◌, ◌<◌, ◌≤◌, true, List}
use Rattle.std.proofs.Common.{[], ◌∷◌, ◌++◌, map, refl, sym, inl, inr, arith}
use Rattle.flute_store.proofs.Common
use Common.{flat_map, range_with_len, SymbolId, Reason, Gap, symbol_id, same_reason}
use Common.{goes_on, one, before, runs, listed, IsApart, AreRuns, cases_Bool}
use Rattle.flute_store.proofs.Lookups.{Elsewhere}

abbrev Want : Type 0
Want = SymbolId × Reason

pub reason_same : (r s : Reason) → same_reason r s ≡ true → r ≡ s
reason_same = grind arith

-- a gap that is continued by another ends just before it, in its block and for its reason
pub goes_on-tells : (g h : Gap) → goes_on g h ≡ true
    → (g.sbn ≡ h.sbn) × (g.last + 1 ≡ h.first) × (g.reason ≡ h.reason)
goes_on-tells = search rules

abbrev entry : ℕ → Reason → ℕ → Want
entry n r i = (symbol_id n i, r)

-- a gap lists its first symbol and then the others
listed-first : (n a last : ℕ) (r : Reason) → a ≤ last
    → map (entry n r) (range_with_len a (last + 1 - a))
    ≡ entry n r a ∷ map (entry n r) (range_with_len (a + 1) (last + 1 - (a + 1)))
listed-first = search rules

listed-one : (w : Want) → listed (one w) ≡ w ∷ []
listed-one = search rules

-- a gap of one symbol before others, where it is made one with the first of them
before-listed : (w : Want) (gaps : List Gap) → AreRuns gaps
    → flat_map listed (before (one w) gaps) ≡ w ∷ flat_map listed gaps
unfolding AreRuns
before-listed (id, r) [] s = rw (listed-one (id, r))
before-listed (id, r) (h ∷ gaps) s = elim (cases_Bool _) [
  | inr e ↦ rw (e, listed-one _)
  | inl e ↦ let t = goes_on-tells (one (id, r)) h e in rw
      (e, listed-first h.sbn id.esi h.last h.reason (omega arith)) (λ i. entry (sym t.0 i)
      (sym t.2 i) id.esi ∷ (map (entry h.sbn h.reason)
      (range_with_len (t.1 i) (h.last + 1 - t.1 i)) ++ flat_map listed gaps))
]

-- a gap that begins earlier is continued by the same gaps
lengthened : (a : ℕ) (h : Gap) (gaps : List Gap) → a ≤ h.last → AreRuns (h ∷ gaps)
    → AreRuns (record h { first = a } ∷ gaps)
unfolding AreRuns
lengthened = search rules

before-runs : (w : Want) (gaps : List Gap) → AreRuns gaps → AreRuns (before (one w) gaps)
unfolding AreRuns
before-runs (id, r) [] s = (omega arith, tt, tt)
before-runs (id, r) (h ∷ gaps) s = elim (cases_Bool _) [
  | inr e ↦ rw e (omega arith, e, s)
  | inl e ↦ let f = (goes_on-tells (one (id, r)) h e).1 in rw e
      (lengthened _ h gaps (omega arith) s)
]

pub runs-are : (ws : List Want) → AreRuns (runs ws)
unfolding runs AreRuns
runs-are [] = tt
runs-are (w ∷ ws) = before-runs w _ (runs-are ws)

pub runs-listed : (ws : List Want) → flat_map listed (runs ws) ≡ ws
unfolding runs
runs-listed [] = refl
runs-listed (w ∷ ws) = rw (before-listed w (runs ws) (runs-are ws), runs-listed ws)

abbrev gap : ℕ → ℕ → ℕ → Reason → Gap
gap n a l r = record { sbn = n; first = a; last = l; reason = r }

before-apart : (g : Gap) (gaps : List Gap) → IsApart g gaps → before g gaps ≡ g ∷ gaps
before-apart = search rules

-- where a gap begins does not matter to what follows it
apart-from : (n a b l : ℕ) (r : Reason) (gaps : List Gap) → IsApart (gap n a l r) gaps
    → IsApart (gap n b l r) gaps
apart-from = search rules

goes_on-next : (n a l : ℕ) (r : Reason) → goes_on (gap n a a r) (gap n (a + 1) l r) ≡ true
goes_on-next = search rules

-- the symbols of a gap and then others: that gap before the others' runs, if these do not continue
-- it
gap-runs : (k n a : ℕ) {l : ℕ} (r : Reason) (ws : List Want) {gaps : List Gap} → a + k ≡ l
    → runs ws ≡ gaps → IsApart (gap n a l r) gaps
    → runs (map (entry n r) (range_with_len a (suc k)) ++ ws) ≡ gap n a l r ∷ gaps
unfolding runs
gap-runs zero n a {l} r ws {gaps} h e s =
    let same : l ≡ a = omega arith in
    rw (e, same) (before-apart _ _ (rw (← same) s))
gap-runs (suc k) n a {l} r ws {gaps} h e s = rw (
  gap-runs k n (a + 1) r _ (omega arith) e
      (apart-from n a (a + 1) l r _ s),
  goes_on-next n a l r,
)

pub runs-unique : (gaps : List Gap) → AreRuns gaps → runs (flat_map listed gaps) ≡ gaps
unfolding runs AreRuns
runs-unique [] s = refl
runs-unique (g ∷ gaps) s =
    let e : g.last + 1 - g.first ≡ suc (g.last - g.first) = omega arith in
    rw e (gap-runs (g.last - g.first) _ g.first {l = g.last} _ _ (omega arith)
    (runs-unique _ s.2) s.1)

pub apart-runs : (g : Gap) (ws : List Want) → Elsewhere (symbol_id g.sbn (g.last + 1)) g.reason ws
    → IsApart g (runs ws)
unfolding runs
apart-runs = search rules

-- wanted symbols that follow one another for one reason, before others that do not continue them,
-- are one gap
pub runs-first : (n a b : ℕ) (r : Reason) (ws : List Want) → a < b → Elsewhere (symbol_id n b) r ws
    → runs (map (λ i. (symbol_id n i, r)) (range_with_len a (b - a)) ++ ws) ≡ record {
      sbn = n;
      first = a;
      last = b - 1;
      reason = r;
    } ∷ runs ws
runs-first n a b r ws l e =
    let k : b - a ≡ suc (b - 1 - a) = omega arith in
    let z : b - 1 + 1 ≡ b = omega arith in
    rw k (gap-runs (b - 1 - a) n a r _ (omega arith) refl
    (apart-runs (gap n a _ r) _ (search rules)))
