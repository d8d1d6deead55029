-- Lists read place by place, and the first input that has something.
use Rattle.std.proofs.Common.{rules}
use Rattle.std.proofs.Common.{◌≡◌, ℕ, zero, suc, ◌+◌, ◌<◌, List, [], ◌∷◌}
use Rattle.std.proofs.Common.{◌++◌, length, take, drop, Some, refl, ap, arith}
use Rattle.std.specs.Prelude.{slice_get}
use Rattle.std.specs.List.{AllByRecursion}
use Rattle.std.proofs.lemmas.Option.{slice_get_within}
use Rattle.flutejoin.specs.JoinFaults.{FirstInput}

split_at : {X : Type 0} (xs : List X) (k : ℕ) (x : X) → slice_get xs k ≡ Some x
    → xs ≡ take k xs ++ x ∷ drop (suc k) xs
split_at [] k x e = let within = slice_get_within [] k x e in absurd (omega arith)
split_at (y ∷ ys) zero x e = cc
split_at (y ∷ ys) (suc k) x e = ap (λ zs. y ∷ zs) (split_at ys k x e)

taken_many : {X : Type 0} (xs : List X) (k : ℕ) (x : X) → slice_get xs k ≡ Some x
    → length (take k xs) ≡ k
taken_many xs k x e = search (rules, slice_get_within)

-- a list has an element at each number below its length
pub at_place : {X : Type 0} (xs : List X) (k : ℕ) → k < length xs
    → (x : X) × (slice_get xs k ≡ Some x)
at_place [] k within = absurd (omega arith)
at_place (x ∷ xs) zero _ = (x, refl)
at_place (x ∷ xs) (suc k) within = at_place xs k (omega arith)

-- what holds at each place before this one
pub all_before : {X : Type 0} (P : X → Type 0) (k : ℕ) (xs : List X) →
    ((j : ℕ) (x : X) → j < k → slice_get xs j ≡ Some x → P x) → AllByRecursion P (take k xs)
all_before P zero xs _ = tt
all_before P (suc k) [] _ = tt
all_before P (suc k) (x ∷ xs) each = (
  each 0 x (omega arith) refl,
  all_before P k xs
      (λ j y below e. each (suc j) y (omega arith) e),
)

-- the input at a place is the first with P, where all before it have Q
pub first_at : (Q P : List ℕ → Type 0) (inputs : List (List ℕ)) (k : ℕ) (bytes : List ℕ)
    → slice_get inputs k ≡ Some bytes → AllByRecursion Q (take k inputs) → P bytes
    → FirstInput Q P (k + 1) inputs
first_at Q P inputs k bytes e all one = record {
  before = take k inputs;
  bytes = bytes;
  after = drop (suc k) inputs;
  split = split_at _ k _ e;
  number_is = cc (taken_many _ k _ e);
  earlier = all;
  here = one;
}

-- so it is with one more before it
pub first_after : {Q P : List ℕ → Type 0} {number : ℕ} {inputs : List (List ℕ)} (bytes : List ℕ) → Q
    bytes → FirstInput Q P number inputs → FirstInput Q P (number + 1) (bytes ∷ inputs)
first_after bytes one first = record {
  before = bytes ∷ first.before;
  bytes = first.bytes;
  after = first.after;
  split = cc;
  number_is = omega arith;
  earlier = (one, first.earlier);
  here = first.here;
}

pub first_with : (Q P R : List ℕ → Type 0) (number : ℕ) (inputs : List (List ℕ))
    → (first : FirstInput Q P number inputs) → R first.bytes → FirstInput Q R number inputs
first_with Q P R number inputs first here = search rules
