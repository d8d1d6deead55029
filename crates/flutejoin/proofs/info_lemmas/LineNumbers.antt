-- information_line: words and numbers at the front of a text.
use Rattle.std.proofs.lemmas.Grind.{common_steps}
use Rattle.std.proofs.Common.{rules}
use Rattle.std.proofs.Common.{◌≡◌, ◌≢◌, ℕ, ◌<◌, ◌≤◌, ◌^◌, true, false, List, [], ◌∷◌, ◌++◌, length}
use Rattle.std.proofs.Common.{take, drop, get_or, decimal, Option, MatchOption, IfSome}
use Rattle.std.proofs.Common.{add-zero, Bor, ap, ◌∙◌, arith}
use Rattle.std.specs.Char.{is_ascii_digit}
use Rattle.std.proofs.lemmas.Str.Parse.{digit_at}
use Rattle.std.proofs.lemmas.Fmt.{decimal_is_IsNumeral_wide}
use Rattle.std.proofs.lemmas.Bool.{true≢false}
use Rattle.std.proofs.lemmas.List.{length-append, get_or_append_left, get_or-append-add}
use Rattle.std.proofs.lemmas.Bool.Decides.{nat_tests}
use Rattle.std.proofs.lemmas.Fmt.{IsAscii-decimal_wide}
use Rattle.std.proofs.lemmas.Str.{IsUtf8-from_ascii}
use Rattle.std.specs.Str.{IsUtf8}
use Rattle.std.specs.Int.{IsInRange}

pub same_rest : (p x y : List ℕ) → p ++ x ≡ p ++ y → x ≡ y
same_rest [] x y e = e
same_rest (c ∷ p) x y e = same_rest p x y cc

pub strip_finds : (s p tail : List ℕ) (r : Option (Bor (List ℕ))) → MatchOption r
    ((rest : List ℕ) → s ≢ p ++ rest) (λ x. s ≡ p ++ x.now)
    → s ≡ p ++ tail → MatchOption r ⊥ (λ x. x.now ≡ tail)
strip_finds = search (rules, same_rest)

pub strip_found : (s p : List ℕ) (r : Option (Bor (List ℕ))) → MatchOption r
    ((rest : List ℕ) → s ≢ p ++ rest) (λ x. s ≡ p ++ x.now) → IfSome r (λ x. s ≡ p ++ x.now)
strip_found = search rules

pub wide : (n : ℕ) → n < 2 ^ 128 → n < 10 ^ 64
wide n h = omega arith

range_digit : (c : ℕ) → IsInRange 48 57 c → is_ascii_digit c ≡ true
range_digit c h = grind (arith, nat_tests, h)

pub digit_in_decimal : (n k : ℕ) → n < 2 ^ 128 → k < length (decimal n) → is_ascii_digit
    (get_or (decimal n) k 0) ≡ true
digit_in_decimal n k small h = search (rules, range_digit, digit_at, decimal_is_IsNumeral_wide)

pub some_digits : (n : ℕ) → n < 2 ^ 128 → 0 < length (decimal n)
some_digits n small = (decimal_is_IsNumeral_wide n (wide n small)).0.0

pub utf8_decimal : (n : ℕ) → n < 2 ^ 128 → IsUtf8 (decimal n)
utf8_decimal n small = search (rules, IsUtf8-from_ascii, IsAscii-decimal_wide)

-- what the digits that a text begins with are
pub record DigitsOf (s : List ℕ) (len : ℕ) : Type 0 where
  pub within : len ≤ length s
  pub before : (k : ℕ) → k < len → is_ascii_digit (get_or s k 0) ≡ true
  pub stops : len < length s → is_ascii_digit (get_or s len 0) ≡ false

-- a text that begins with the digits of a number, and then no digit, has exactly these digits
pub digits_end : (s tail : List ℕ) (n len : ℕ) → n < 2 ^ 128 → is_ascii_digit (get_or tail 0 0) ≡
    false → s ≡ decimal n ++ tail → DigitsOf s len → len ≡ length (decimal n)
digits_end s tail n len small ends is d = omega (arith, short, long)
  where
    short : len < length (decimal n) → ⊥
    short h =
        let at = ap (λ x. get_or x len 0) is ∙
        get_or_append_left (decimal n) tail 0 len h in
        let more : len < length s = omega (arith, ap length is ∙ length-append (decimal n) tail) in
        true≢false (cc (digit_in_decimal n _ small h, d.stops more))

    long : length (decimal n) < len → ⊥
    long h =
        let at = ap
        (λ x. get_or x (length (decimal n)) 0) is ∙
        (rw add-zero at (get_or-append-add (decimal n) tail 0 0)) in
        true≢false (cc (d.before (length (decimal n)) h))

pub number_front : (s tail : List ℕ) (n len : ℕ) → s ≡ decimal n ++ tail → len ≡ length (decimal n)
    → take len s ≡ decimal n
number_front s tail n len is len_is = grind (arith, common_steps)

pub number_back : (s tail : List ℕ) (n len : ℕ) → s ≡ decimal n ++ tail → len ≡ length (decimal n)
    → drop len s ≡ tail
number_back s tail n len is len_is = grind (arith, common_steps)
