-- Numbers of bytes, high byte first, as byteorder reads them.
use Rattle.std.proofs.Common.{◌≡◌, ℕ, zero, suc, ◌+◌, ◌*◌, ◌^◌, ◌≤◌, ◌<◌, List, [], ◌∷◌, length}
use Rattle.std.proofs.Common.{take, drop, get_or, refl, ap, ◌∙◌, arith}
use Rattle.std.proofs.lemmas.List.{length-take-le, take_all, get_or-drop}
use Rattle.std.proofs.Math.Nat.{add-mul, mul-le-mul_right, pow-succ', pow-le-pow_right}
use Rattle.byteorder.specs.Endian.{big_from}
use Rattle.byteorder.specs.Numbers.{big_from-cons}
use Rattle.flute_parts.specs.BigEndian.{big_endian}

-- the first n bytes
pub big_from-big_endian : (n : ℕ) (xs : List ℕ) → n ≤ length xs
    → big_from 0 n xs ≡ big_endian (take n xs)
big_from-big_endian zero xs h = refl
big_from-big_endian (suc n) [] h = absurd (omega arith)
big_from-big_endian (suc n) (x ∷ xs) h =
    let len : length (take n xs) ≡ n = length-take-le n xs (omega arith) in
    rw (big_from-cons 0 n x xs, big_from-big_endian n xs (omega arith), len) refl

-- all bytes
pub big_from-whole : (n : ℕ) (xs : List ℕ) → n ≡ length xs → big_from 0 n xs ≡ big_endian xs
big_from-whole n xs h =
    big_from-big_endian n xs (omega arith) ∙ ap big_endian (take_all n xs (omega arith))

from_below : (i n : ℕ) (xs : List ℕ) → ((k : ℕ) → get_or xs k 0 < 256) → big_from i n xs < 256 ^ n
from_below i zero xs h = omega arith
from_below i (suc n) xs h =
    let P : ℕ = 256 ^ n in
    let power : 256 ^ suc n ≡ 256 * P = pow-succ' 256 n in
    let rest = from_below (suc i) n xs h in
    let b : ℕ = get_or xs i 0 in
    let digit : (b + 1) * P ≤ 256 * P = mul-le-mul_right P (omega (arith, h i)) in
    let split : (b + 1) * P ≡ b * P + 1 * P = add-mul b 1 P in
    omega (arith, power, rest, digit, split)

-- n bytes from place k on spell a number of that many bytes, or of more
pub below_bytes : (k n m : ℕ) (xs : List ℕ) → ((i : ℕ) → get_or xs i 0 < 256) → n ≤ m
    → big_from 0 n (drop k xs) < 256 ^ m
below_bytes k n m xs h le =
    let small = from_below 0 n (drop k xs) (λ i. let is = get_or-drop k xs i 0 in
    omega (arith, is, h (k + i))) in
    let more : 256 ^ n ≤ 256 ^ m = pow-le-pow_right (omega arith) le in
    omega arith

-- a number that byteorder read
pub ruleset number_read = (big_from-big_endian, big_from-whole)
