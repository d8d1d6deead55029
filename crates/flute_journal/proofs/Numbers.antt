-- Big-endian numbers and their bytes.
use Rattle.std.proofs.lemmas.Grind.{common_steps}
use Rattle.std.proofs.Common.{rules}
use Rattle.flute_journal.proofs.Common.{big_from-whole, length-bytes_high_first, append-nil}
use Rattle.flute_journal.proofs.Common.{big_from-whole, ◌≡◌, ℕ, zero, suc, ◌+◌, ◌*◌, ◌/◌, ◌%◌, ◌^◌}
use Rattle.flute_journal.proofs.Common.{◌<◌, ◌≤◌, List, [], ◌∷◌, ◌++◌, length, take, drop, get_or}
use Rattle.flute_journal.proofs.Common.{refl, sym, ap, ◌∙◌, subst, arith, lit<, AllByRecursion}
use Rattle.flute_journal.proofs.Common.{pow-succ', mul-add-div_right, mul-add-mod_self_right}
use Rattle.flute_journal.proofs.Common.{add-mul, mul_assoc, div-eq_of_lt, mod-eq_of_lt, one-le-pow}
use Rattle.flute_journal.proofs.Common.{div-one, mul-le-mul_right, take_at, drop_at, length-take}
use Rattle.flute_journal.proofs.Common.{length-drop, take-append-drop, big_endian, in_bytes, IsByte}
use Rattle.byteorder.specs.{Endian.{big_from}, Numbers.{big_number-reads_back}}
use Rattle.std.specs.Int.{byte_at}
use Rattle.std.proofs.lemmas.Nat.{pow-add}
use Rattle.std.proofs.Math.Nat.{mul_comm, div-div-eq-div-mul}

pub byte_at-is : (j n : ℕ) → byte_at j n ≡ n / 256 ^ j % 256
byte_at-is j n = grind (arith, div-one)

power_some : (j : ℕ) → 0 < 256 ^ j
power_some j = omega (arith, one-le-pow j 256 (lit< tt))

pub in_bytes-below : (j x m : ℕ) → in_bytes j (x * 256 ^ j + m) ≡ in_bytes j m
in_bytes-below zero x m = refl
in_bytes-below (suc j) x m = grind (
  arith,
  pow-succ',
  mul_assoc,
  in_bytes-below j (x * 256) m,
  byte_at-is,
  mul-add-div_right,
  power_some,
  mul-add-mod_self_right,
)

pub number-below : (bs : List ℕ) → AllByRecursion IsByte bs → big_endian bs < 256 ^ length bs
number-below [] h = omega arith
number-below (b ∷ bs) h =
    let P : ℕ = 256 ^ length bs in
    let power : 256 ^ suc (length bs) ≡ 256 * P = pow-succ' 256 (length bs) in
    let rest = number-below bs h.1 in
    let digit : (b + 1) * P ≤ 256 * P = mul-le-mul_right P (omega (arith, h.0)) in
    let split : (b + 1) * P ≡ b * P + 1 * P = add-mul b 1 P in
    omega (arith, power, rest, digit, split)

-- bytes are the spelling of the number that they spell
pub in_bytes-number : (bs : List ℕ) → AllByRecursion IsByte bs
    → in_bytes (length bs) (big_endian bs) ≡ bs
in_bytes-number [] h = refl
in_bytes-number (b ∷ bs) h = grind (
  arith,
  number-below,
  byte_at-is,
  mul-add-div_right,
  power_some,
  div-eq_of_lt,
  mod-eq_of_lt,
  in_bytes-below,
  in_bytes-number bs h.1,
)

-- a number is what its bytes spell
pub number-in_bytes : (k n : ℕ) → n < 256 ^ k → big_endian (in_bytes k n) ≡ n
number-in_bytes k n lt = sym (big_from-whole k (in_bytes k n) (sym (length-bytes_high_first k n))) ∙
    ap (big_from 0 k) (sym (append-nil (in_bytes k n))) ∙ big_number-reads_back k n [] lt

-- if two numbers of k bytes, followed by more bytes, have equal bytes, both parts are equal
pub in_bytes-injective : (k m n : ℕ) (x y : List ℕ) → m < 256 ^ k → n < 256 ^ k
    → in_bytes k m ++ x ≡ in_bytes k n ++ y → (m ≡ n) × (x ≡ y)
in_bytes-injective k m n x y small other e =
    let front : in_bytes k m ≡ in_bytes k n = sym
    (take_at (in_bytes k m) x k (length-bytes_high_first k m)) ∙ ap (take k) e ∙ take_at
    (in_bytes k n) y k (length-bytes_high_first k n) in
    let back : x ≡ y = sym (drop_at (in_bytes k m) x k (length-bytes_high_first k m)) ∙ ap (drop k)
    e ∙ drop_at (in_bytes k n) y k (length-bytes_high_first k n) in
    (sym (number-in_bytes k m small) ∙ ap big_endian front ∙ number-in_bytes k n other, back)

pub octets : (bs : List ℕ) → ((i : ℕ) → get_or bs i 0 < 256) → AllByRecursion IsByte bs
octets [] h = tt
octets (b ∷ bs) h = (h 0, octets bs (λ i. h (suc i)))

pub octets-take : (n : ℕ) (bs : List ℕ) → AllByRecursion IsByte bs
    → AllByRecursion IsByte (take n bs)
octets-take x0 x1 x2 = grind (arith, common_steps)

pub octets-drop : (n : ℕ) (bs : List ℕ) → AllByRecursion IsByte bs
    → AllByRecursion IsByte (drop n bs)
octets-drop x0 x1 x2 = grind (arith, common_steps)

pub spelled : (n : ℕ) (bs : List ℕ) → length bs ≡ n → AllByRecursion IsByte bs
    → in_bytes n (big_endian bs) ≡ bs
spelled n bs e h = search (rules, in_bytes-number)

-- two numbers side by side
pub spelled_pair : (m n : ℕ) (bs : List ℕ) → length bs ≡ m + n → AllByRecursion IsByte bs
    → in_bytes m (big_endian (take m bs)) ++ in_bytes n (big_endian (drop m bs)) ≡ bs
spelled_pair m n bs e h =
    grind (arith, spelled, length-take, octets-take, length-drop, octets-drop, take-append-drop)

-- a number that byteorder read
pub ruleset number_read = (big_from-whole, number-below, octets)

-- a number by its high bytes and its lowest eight
byte_above : (k n : ℕ) → byte_at k (n / 2 ^ 64) ≡ byte_at (k + 8) n
byte_above k n =
    let place : 2 ^ 64 * 256 ^ k ≡ 256 ^ (k + 8) = sym
    (pow-add 256 k 8 ∙ mul_comm (256 ^ k) (256 ^ 8)) in byte_at-is k (n / 2 ^ 64) ∙ ap
    (λ x. x % 256) (div-div-eq-div-mul n (2 ^ 64) (256 ^ k) ∙ ap (λ x. n / x) place) ∙ sym
    (byte_at-is (k + 8) n)

pub in_halves : (k n : ℕ) → in_bytes k (n / 2 ^ 64) ++ in_bytes 8 (n % 2 ^ 64) ≡ in_bytes (k + 8) n
in_halves zero n = sym (in_bytes-below 8 (n / 2 ^ 64) (n % 2 ^ 64)) ∙ ap (in_bytes 8) (omega arith)
in_halves (suc k) n = subst
    (λ m. in_bytes (suc k) (n / 2 ^ 64) ++ in_bytes 8 (n % 2 ^ 64) ≡ in_bytes m n)
    (let e : suc (k + 8) ≡ suc k + 8 = omega arith in e) (λ i. byte_above k n i ∷ in_halves k n i)
