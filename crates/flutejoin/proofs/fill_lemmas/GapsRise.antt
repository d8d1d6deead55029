-- Symbols of an object, what is wanted of them, and its gaps, in their order and within their ranges
-- (flute_store specs/Objects).
use Rattle.std.proofs.Common.{◌≡◌, ℕ, zero, suc, ◌+◌, ◌*◌, ◌<◌, ◌≤◌, ◌^◌, ◌⊎◌, true, ◌==◌, ◌&&◌}
use Rattle.std.proofs.Common.{List, [], ◌∷◌, ◌++◌, length, map, get_or, Option, Some, None, inl, inr}
use Rattle.std.proofs.Common.{refl, arith}
use Rattle.std.specs.Prelude.{filter_map, option_map, ⊤}
use Rattle.std.specs.List.{cons_option, enumerate_from, flat_map, range_with_len}
use Rattle.std.proofs.lemmas.Bool.{cases_Bool}
use Rattle.std.proofs.lemmas.Bool.Decides.{nat_tests}
use Rattle.flute_parts.specs.Equality.{both}
use Rattle.flute_parts.specs.Information.{Information, IsValid}
use Rattle.flute_parts.specs.Partition.{block_ids, ids, symbol_id}
use Rattle.flute_parts.specs.Ranges.{IsId}
use Rattle.flute_parts.specs.declared.symbol_id.SymbolId.{SymbolId}
use Rattle.flute_parts.proofs.Public.{sizes-few, sizes-short}
use Rattle.flute_store.specs.Objects.{before, goes_on, one, runs, same_reason}
use Rattle.flute_store.specs.declared.gap.Gap.{Gap}
use Rattle.flute_store.specs.declared.gap.Reason.{Reason}
use Rattle.flutejoin.specs.FillLists.{HasIds}

-- a symbol is not before the one with these numbers
abbrev pub From : ℕ → ℕ → ℕ → ℕ → Type 0
From n i block first = (n < block) ⊎ ((block ≡ n) × (i ≤ first))

-- symbols rise from that on, within their ranges
unfoldable pub IdsFrom : ℕ → ℕ → List SymbolId → Type 0
IdsFrom n i [] = ⊤
IdsFrom n i (x ∷ xs) = From n i x.sbn x.esi × IsId x × IdsFrom x.sbn (x.esi + 1) xs

abbrev pub Want : Type 0
Want = SymbolId × Reason

unfoldable pub WantsFrom : ℕ → ℕ → List Want → Type 0
WantsFrom n i [] = ⊤
WantsFrom n i (w ∷ ws) = From n i w.0.sbn w.0.esi × IsId w.0 × WantsFrom w.0.sbn (w.0.esi + 1) ws

unfoldable pub GapsFrom : ℕ → ℕ → List Gap → Type 0
GapsFrom n i [] = ⊤
GapsFrom n i (g ∷ gaps) =
    From n i g.sbn g.first × (g.first ≤ g.last) × HasIds g × GapsFrom g.sbn (g.last + 1) gaps

-- ---- symbols

earlier : (n i m j b f : ℕ) → From n i m j → From m j b f → From n i b f
earlier n i m j b f (inl p) (inl q) = inl (omega arith)
earlier n i m j b f (inl p) (inr q) = inl (omega arith)
earlier n i m j b f (inr p) (inl q) = inl (omega arith)
earlier n i m j b f (inr p) (inr q) = inr (omega arith, omega arith)

ids_earlier : (n i m j : ℕ) (xs : List SymbolId) → From n i m j → IdsFrom m j xs → IdsFrom n i xs
unfolding IdsFrom
ids_earlier n i m j [] f h = tt
ids_earlier n i m j (x ∷ xs) f h = (earlier n i m j _ _ f h.0, h.1, h.2)

-- a block, and then others
block : (n a k : ℕ) (xs : List SymbolId) → n < 2 ^ 16 → a + k ≤ 2 ^ 16 → IdsFrom (n + 1) 0 xs
    → IdsFrom n a (map (symbol_id n) (range_with_len a k) ++ xs)
unfolding IdsFrom
block n a zero xs p q h = ids_earlier n a _ 0 _ (inl (omega arith)) h
block n a (suc k) xs p q h =
    (inr (refl, omega arith), (p, omega arith), block n (a + 1) k xs p (omega arith) h)

blocks : (n : ℕ) (ss : List ℕ) → n + length ss ≤ 2 ^ 16 → ((k : ℕ) → get_or ss k 0 ≤ 2 ^ 16)
    → IdsFrom n 0 (flat_map block_ids (enumerate_from n ss))
unfolding IdsFrom
blocks n [] p q = tt
blocks n (s ∷ ss) p q = block n 0 s _ (omega arith) (omega (arith, q 0))
    (blocks (n + 1) ss (omega arith) (λ k. q (suc k)))

pub ids_rise : (info : Information) → IsValid info → IdsFrom 0 0 (ids info)
unfolding ids
ids_rise info valid = blocks 0 _ (omega (arith, sizes-few _ valid)) (λ k. sizes-short _ k valid)

-- ---- what is wanted

above : (n i b f : ℕ) → From n i b f → From n i b (f + 1)
above n i b f (inl p) = inl p
above n i b f (inr p) = inr (p.0, omega arith)

wants_earlier : (n i m j : ℕ) (ws : List Want) → From n i m j → WantsFrom m j ws → WantsFrom n i ws
unfolding WantsFrom
wants_earlier n i m j [] f h = tt
wants_earlier n i m j (w ∷ ws) f h = (earlier n i m j _ _ f h.0, h.1, h.2)

-- what is wanted of symbols rises as they do
module _ (w : SymbolId → Option Reason) where
  abbrev pub wanted : List SymbolId → List Want
  wanted xs = filter_map (λ id. option_map (λ reason. (id, reason)) (w id)) xs

  pub wants_rise : (n i : ℕ) (xs : List SymbolId) → IdsFrom n i xs → WantsFrom n i (wanted xs)
  unfolding IdsFrom WantsFrom
  wants_rise n i [] h = tt
  wants_rise n i (x ∷ xs) h = go (w x) (wants_rise x.sbn (x.esi + 1) xs h.2)
    where
      go : (r : Option Reason) → WantsFrom x.sbn (x.esi + 1) (wanted xs)
          → WantsFrom n i (cons_option (option_map (λ reason. (x, reason)) r) (wanted xs))
      go None later =
          wants_earlier n i _ _ _ (above n i _ _ h.0) later
      go (Some r) later = (h.0, h.1, later)

-- there are no more than two numbers of 16 bits tell apart
pub wants_few : (n i : ℕ) (ws : List Want) → n < 65536 → i ≤ 65536 → WantsFrom n i ws
    → length ws + (n * 65536 + i) ≤ 2 ^ 32
unfolding WantsFrom
wants_few n i [] p q h = omega arith
wants_few n i (w ∷ ws) p q h =
    let rest = wants_few w.0.sbn (w.0.esi + 1) ws (omega arith) (omega arith) h.2 in
    omega arith
  where
    over : From n i w.0.sbn w.0.esi → n * 65536 + i ≤ w.0.sbn * 65536 + w.0.esi
    over (inl f) = omega arith
    over (inr f) = omega arith

-- ---- gaps

goes_tells : (g h : Gap) → goes_on g h ≡ true → (g.sbn ≡ h.sbn) × (g.last + 1 ≡ h.first)
goes_tells g h e =
    let p = both (g.sbn == h.sbn) ((g.last + 1 == h.first) && same_reason g.reason h.reason) e in
    let q = both (g.last + 1 == h.first) (same_reason g.reason h.reason) p.1 in
    (grind (arith, nat_tests, p.0), grind (arith, nat_tests, q.0))

moved : (n i a b f : ℕ) → a ≡ b → From n i a f → From n i b f
moved n i a b f e (inl p) = inl (omega arith)
moved n i a b f e (inr p) = inr (omega arith, p.1)

gaps_before : (n i : ℕ) (id : SymbolId) (r : Reason) (gaps : List Gap) → From n i id.sbn id.esi
    → IsId id → GapsFrom id.sbn (id.esi + 1) gaps → GapsFrom n i (before (one (id, r)) gaps)
unfolding GapsFrom
gaps_before n i id r [] f is h = (f, omega arith, (is.0, is.1, is.1), tt)
gaps_before n i id r (g ∷ gaps) f is h = elim (cases_Bool _) [
  | inl e ↦ let t = goes_tells (one (id, r)) g e in rw e
      (moved n i _ _ _ t.0 f, omega (arith, t.1, h.1), (h.2.0, is.1, h.2.2), h.3)
  | inr e ↦ rw e (f, omega arith, (is.0, is.1, is.1), h)
]

pub gaps_rise : (n i : ℕ) (ws : List Want) → WantsFrom n i ws → GapsFrom n i (runs ws)
unfolding runs WantsFrom GapsFrom
gaps_rise n i [] h = tt
gaps_rise n i ((id, r) ∷ ws) h =
    gaps_before n i id r (runs ws) h.0 h.1 (gaps_rise id.sbn (id.esi + 1) ws h.2)
