-- A whole object has as many bytes as its transfer length (specs/Objects: Whole).
use Rattle.std.proofs.Common.{rules}
use Rattle.std.proofs.Common.{◌≡◌, ℕ, zero, suc, ◌+◌, ◌-◌, ◌*◌, ◌<◌, ◌≤◌, ◌&&◌, true, List, [], ◌∷◌}
use Rattle.std.proofs.Common.{length, get_or, Some, refl, sym, ap, ◌∙◌, inl, inr, ◌⊎◌, arith}
use Rattle.std.proofs.lemmas.{Grind.{div_ceil_times}, List.{length-append, length-take-le}}
use Rattle.std.proofs.Math.Nat.{eq-zero-or-pos}
use Rattle.flute_parts.proofs.Public.{div_ceil-pos, ids_counted, places-inverse}
use Rattle.flute_store.proofs.Common
use Common.{flat_map, ◌==◌, slice_get-get_or, eqb-true, or_cases, both, Information, symbol_count}
use Common.{IsValid, symbol_address, fact_at, ids, last_length, fits_at, fits, Key, SymbolId}
use Common.{Fact, Whole, value_bytes, object}

-- each symbol has e bytes, or is the last and has m
abbrev Each : (SymbolId → List ℕ) → ℕ → ℕ → List SymbolId → Type 0
Each f e m xs = (k : ℕ) (x : SymbolId) → k < length xs → get_or xs k x ≡ x → (length (f x) ≡ e) ⊎
    ((k + 1 ≡ length xs) × (length (f x) ≡ m))

-- so all of them have no fewer than the first ones with e, and the last with m
length-each : (f : SymbolId → List ℕ) (e m : ℕ) (x : SymbolId) (xs : List SymbolId) → m ≤ e
    → Each f e m (x ∷ xs) → length xs * e + m ≤ length (flat_map f (x ∷ xs))
length-each f e m x [] l h = grind (arith, length-append (f x) [], h 0 x (omega arith) refl)
length-each f e m x (y ∷ ys) l h =
    let a = length-append (f x) (flat_map f (y ∷ ys)) in
    let more = length-each f e m y ys l
    (λ k z b g. elim (h (suc k) z (omega (arith, b)) g) [ inl p ↦ inl p | inr p ↦ search rules ]) in
    grind (arith, a, more, h 0 x (omega arith) refl)

-- how long a symbol is that fits
fits-length : (info : Information) (id : SymbolId) (n k : ℕ) → IsValid info → k < length (ids info)
    → get_or (ids info) k id ≡ id → fits info id n ≡ true
    → (n ≡ info.symbol_length) ⊎ ((k + 1 ≡ length (ids info)) × (n ≡ last_length info))
unfolding fits
fits-length info id n k v l g h =
    let at_k = (places-inverse info id k).1 (slice_get-get_or _ k _ l ∙ ap Some g) in
    let count = ids_counted _ v in
    let told = sym (ap (λ p. fits_at info p n) at_k) ∙ h in
    elim (or_cases _ ((k + 1 == symbol_count info) && (n == last_length info)) told) [
      | inl p ↦ inl (eqb-true n _ p)
      | inr p ↦ let q = both _ (n == last_length info) p in inr (search rules)
    ]

symbol_bytes : List Fact → Key → SymbolId → List ℕ
symbol_bytes F key id = value_bytes (fact_at F (symbol_address key id))

each-symbol : (F : List Fact) (key : Key) (info : Information) → IsValid info → Whole F key info
    → Each (symbol_bytes F key) info.symbol_length (last_length info) (ids info)
unfolding symbol_bytes
each-symbol F key info v w k id l g =
    let held = w.each id (k, l, g) in
    let e = ap (λ o. length (value_bytes o)) held.value in
    elim (fits-length info _ (length held.bytes) k v l g held.fitting) [
      | inl p ↦ inl (e ∙ p)
      | inr p ↦ inr (p.0, e ∙ p.1)
    ]

-- the last symbol is no longer than the others
last-short : (info : Information) → 0 < info.symbol_length → last_length info ≤ info.symbol_length
last-short info h = shorter _ _ _ (div_ceil_times _ _ h).0
  where
    shorter : (l t e : ℕ) → l ≤ t * e → l - (t - 1) * e ≤ e
    shorter l zero e h = omega (arith, h)
    shorter l (suc t) e h = let less : suc t - 1 ≡ t = omega arith in rw less (omega arith)

enough : (info : Information) (f : SymbolId → List ℕ) (xs : List SymbolId) → length xs ≡
    symbol_count info → 0 < length xs → last_length info ≤ info.symbol_length → Each f
    info.symbol_length (last_length info) xs → info.transfer_length ≤ length (flat_map f xs)
enough info f [] c p l h = absurd (omega (arith, p))
enough info f (x ∷ xs) c p l h =
    let t : length xs ≡ symbol_count info - 1 = omega (arith) in
    omega (arith, rw t at (length-each f info.symbol_length (last_length info) x xs l h))

pub object-length : (F : List Fact) (key : Key) (info : Information) → IsValid info
    → Whole F key info → length (object F key info) ≡ info.transfer_length
unfolding object symbol_bytes
object-length F key info v w = length-take-le _ _ (elim (eq-zero-or-pos info.transfer_length) [
  | inl z ↦ omega (arith, z)
  | inr l ↦ let count = ids_counted _ v in
      let pos = div_ceil-pos _ info.symbol_length l in
      enough info (symbol_bytes F _) _ count (omega (arith, pos))
      (last-short info (v.parts l).symbol) (each-symbol F _ _ v w)
])
