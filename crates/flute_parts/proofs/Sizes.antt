-- The blocks of valid information: how many there are, and how long each is (specs/Partition).
use Rattle.std.proofs.Common.{rules}
use Rattle.std.proofs.Common.{◌≡◌, ℕ, ◌+◌, ◌-◌, ◌<◌, ◌≤◌, []}
use Rattle.std.proofs.Common.{◌++◌, length, get_or, replicate, refl, ap, subst, inl, inr, arith}
use Rattle.std.proofs.lemmas.Bool.{cases_lt}
use Rattle.std.proofs.Math.Nat.{eq-zero-or-pos}
use Rattle.flute_parts.specs.Information.{Information, sizes, symbol_count, block_count}
use Rattle.flute_parts.specs.Information.{large_length, small_length, large_count, IsValid}
use Rattle.flute_parts.specs.Split.{IsSplit}
use Rattle.flute_parts.proofs.Listing.{split, size-large, size-small, size-none}
use Rattle.flute_parts.proofs.Split.{IsSplit-none, IsSplit-of, count-sizes}

pub sizes-none : (i : Information) → i.transfer_length ≡ 0 → sizes i ≡ []
sizes-none i z = (IsSplit-none i z).split

pub sizes-some : (i : Information) → (i.transfer_length ≡ 0 → ⊥) → sizes i ≡ replicate
    (large_count i) (large_length i) ++ replicate (block_count i - large_count i) (small_length i)
unfolding sizes
sizes-some i n = search rules

pub IsSplit-from : (i : Information) → IsValid i → (large : ℕ) × (small : ℕ) × (length' : ℕ) ×
    IsSplit i (symbol_count i) large small length'
IsSplit-from i v = elim (eq-zero-or-pos i.transfer_length) [
  | inl z ↦ let s = IsSplit-none i z in (0, 0, 0, rw (← s.count) s)
  | inr l ↦ (_, _, _, IsSplit-of i _ refl l (v.parts l))
]

pub sizes-few : (i : Information) → IsValid i → length (sizes i) ≤ 65536
sizes-few i v =
    let s = IsSplit-from i v in
    omega (arith, count-sizes i (symbol_count i) s.0 s.1 s.2 s.3)

pub sizes-short : (i : Information) (n : ℕ) → IsValid i → get_or (sizes i) n 0 ≤ 65536
sizes-short i n v =
    let s = IsSplit-from i v in
    let m = s.3.large_longest in
    let e = ap (λ xs. get_or xs n 0) s.3.split in
    elim (cases_lt n s.0) [
      | inl a ↦ omega (arith, size-large s.0 (s.2 + 1) s.1 s.2 n a)
      | inr a ↦ elim (cases_lt n (s.0 + s.1)) [
        | inl b ↦ omega (arith, size-small s.0 (s.2 + 1) s.1 s.2 n a b)
        | inr b ↦ omega (arith, size-none s.0 (s.2 + 1) s.1 s.2 n b)
      ]
    ]
