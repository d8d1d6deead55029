-- range_of: the bytes of a symbol are counted in 64 bits.
use Rattle.std.proofs.Common.{◌≡◌, ◌∙◌, ℕ, ◌+◌, ◌*◌, ◌^◌, ◌<◌, ◌≤◌, Some, inl, inr, arith, length, subst, sym, ap}
use Rattle.std.proofs.Math.Nat.{div-le_self, eq-zero-or-pos}
use Rattle.std.proofs.lemmas.Grind.{div_ceil_times}
use Rattle.std.proofs.lemmas.Nat.{mul-le}
use Rattle.std.proofs.lemmas.Option.{slice_get_within}
use Rattle.std.specs.Int.{div_ceil}
use Rattle.flute_parts.specs.Information.{Information, IsValid}
use Rattle.flute_parts.specs.Partition.{place, symbol_id}
use Rattle.flute_parts.specs.declared.symbol_id.SymbolId.{SymbolId}
use Rattle.flute_parts.proofs.Public.{div_ceil-zero, ids_counted, places-inverse}
use Rattle.flutejoin.proofs.gaps.byte_range.range_of.Goals as goal

-- the bytes up to the end of a symbol
within : (info : Information) (id : SymbolId) (k : ℕ) → IsValid info → place info id ≡ Some k
    → (k + 1) * info.symbol_length < info.transfer_length + info.symbol_length
within info id k v e =
    let l = info.transfer_length in
    let n = info.symbol_length in
    let below = slice_get_within _ k _ ((places-inverse _ _ k).0 e) in
    let count = ids_counted _ v in
    elim (eq-zero-or-pos l) [
      | inl z ↦ let none = subst (λ x. div_ceil x n ≡ 0) (sym z) (div_ceil-zero n) in absurd
          (omega (arith, below, count, none))
      | inr p ↦ let t = div_ceil_times l n (v.parts p).symbol in
          let le : k + 1 ≤ div_ceil l n = omega (arith, below, count) in
          let m = mul-le _ n _ n le (omega arith) in
          omega (arith, t.1, m)
    ]

-- there is at most one symbol more than there are bytes
places_below : (info : Information) (id : SymbolId) (k : ℕ) → IsValid info
    → place info id ≡ Some k → k ≤ info.transfer_length
places_below info id k v e =
    let l = info.transfer_length in
    let n = info.symbol_length in
    let below = slice_get_within _ k _ ((places-inverse _ _ k).0 e) in
    let count = ids_counted _ v in
    let quotient = div-le_self l n in
    omega (arith, below, count, quotient)

-- so those before it and up to its end are counted in 64 bits
before_it : (k n l : ℕ) → n < 65536 → l < 2 ^ 48 → (k + 1) * n < l + n → k * n < 2 ^ 64
before_it k n l small short w =
    omega (arith, mul-le k n (k + 1) n (omega arith) (omega arith), w, small, short)

up_to_end : (k n l : ℕ) → n < 65536 → l < 2 ^ 48 → (k + 1) * n < l + n → (k + 1) * n < 2 ^ 64
up_to_end k n l small short w = omega (arith, w, small, short)

pub overflow_mul-result : goal.overflow_mul-result
overflow_mul-result c =
    let info = c.args.info.now in
    let id = symbol_id c.args.gap.now.sbn c.args.gap.now.first in
    let v = c.symbol.ensures.valid in
    let n = c.from-symbol.ensures ∙ c.symbol.ensures.value in
    let small : info.symbol_length < 65536 = omega (arith, c.symbol.ensures.value) in
    let at = sym (c.in_ok-first.ensures ∙ ap (λ p. place p id) c.of-partition.ensures) in
    let fits = before_it _ _ _ small v.length (within _ _ _ v at) in
    rw n (omega (arith, fits))

pub overflow_add-last : goal.overflow_add-last
overflow_add-last c =
    let info = c.args.info.now in
    let id = symbol_id c.args.gap.now.sbn c.args.gap.now.last in
    let v = c.symbol.ensures.valid in
    let at = sym (c.in_ok-last.ensures ∙ ap (λ p. place p id) c.of-partition.ensures) in
    let below = places_below _ _ _ v at in
    omega (arith, below, v.length)

pub overflow_mul-last : goal.overflow_mul-last
overflow_mul-last c =
    let info = c.args.info.now in
    let id = symbol_id c.args.gap.now.sbn c.args.gap.now.last in
    let v = c.symbol.ensures.valid in
    let n = c.from-symbol.ensures ∙ c.symbol.ensures.value in
    let small : info.symbol_length < 65536 = omega (arith, c.symbol.ensures.value) in
    let at = sym (c.in_ok-last.ensures ∙ ap (λ p. place p id) c.of-partition.ensures) in
    let fits = up_to_end _ _ _ small v.length (within _ _ _ v at) in
    rw n (omega (arith, fits))
