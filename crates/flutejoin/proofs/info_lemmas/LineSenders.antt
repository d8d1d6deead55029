-- information_line: a sender in 32 digits.
use Rattle.std.proofs.Common.{rules}
use Rattle.std.proofs.Common.{◌≡◌, ℕ, zero, suc, ◌*◌, ◌<◌, ◌≤◌, ◌^◌, List, [], ◌++◌, length}
use Rattle.std.proofs.Common.{take, drop, get_or, Ok, sym, ap, ◌∙◌, arith}
use Rattle.std.specs.Int.{bytes_high_first, byte_at}
use Rattle.std.proofs.Math.Seq.{take-append_seam, drop-append_seam}
use Rattle.std.proofs.lemmas.List.{length-append}
use Rattle.byteorder.specs.Endian.{big_from}
use Rattle.byteorder.specs.Numbers.{length-bytes_high_first}
use Rattle.hex.specs.Hex.{encode_lower, lower_digits, decode_sized}
use Rattle.hex.proofs.HexLemmas.{length-encode_with, decode_sized-encode_lower}

byte_below : (k n : ℕ) → byte_at k n < 256
byte_below = search rules

bytes_below : (k n i : ℕ) → get_or (bytes_high_first k n) i 0 < 256
bytes_below zero n i = omega arith
bytes_below (suc k) n zero = byte_below k n
bytes_below (suc k) n (suc i) = bytes_below k n i

abbrev pub digits_of : ℕ → List ℕ
digits_of n = encode_lower (bytes_high_first 16 n)

pub digits_length : (n : ℕ) → length (digits_of n) ≡ 32
digits_length n = length-encode_with lower_digits (bytes_high_first 16 n) ∙ ap (λ k. 2 * k)
    (length-bytes_high_first 16 n)

pub long_enough : (s tail : List ℕ) (n : ℕ) → s ≡ digits_of n ++ tail → 32 ≤ length s
long_enough s tail n is = omega
    (arith, ap length is ∙ length-append (digits_of n) tail, digits_length n)

pub digits_front : (s tail : List ℕ) (n : ℕ) → s ≡ digits_of n ++ tail → take 32 s ≡ digits_of n
digits_front s tail n is = ap (λ k. take k s) (sym (digits_length n)) ∙ ap
    (take (length (digits_of n))) is ∙ take-append_seam (digits_of n) tail

pub digits_back : (s tail : List ℕ) (n : ℕ) → s ≡ digits_of n ++ tail → drop 32 s ≡ tail
digits_back s tail n is = ap (λ k. drop k s) (sym (digits_length n)) ∙ ap
    (drop (length (digits_of n))) is ∙ drop-append_seam (digits_of n) tail

pub digits_decoded : (n : ℕ) → decode_sized (digits_of n) 16 ≡ Ok (bytes_high_first 16 n)
digits_decoded n = decode_sized-encode_lower (bytes_high_first 16 n) 16
    (length-bytes_high_first 16 n) (bytes_below 16 n)

pub read_back : (n : ℕ) → n < 2 ^ 128 → big_from 0 16 (bytes_high_first 16 n) ≡ n
read_back n small = search rules
