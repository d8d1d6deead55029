-- The hexadecimal digits of bytes, byte after byte, and what they stand for (specs/Digits).
use Rattle.std.proofs.lemmas.Grind.{common_steps}
use Rattle.std.proofs.Common.{rules}
use Rattle.std.proofs.Common.{◌≡◌, ℕ, zero, suc, ◌+◌, ◌*◌, ◌<◌, ◌≤◌}
use Rattle.std.proofs.Common.{length, arith, List, [], ◌∷◌, ◌++◌, Option, refl, ap}
use Rattle.std.proofs.Common.{◌∙◌, take, drop, append_assoc, append-nil, map}
use Rattle.std.proofs.Common.{slice_index, slice_set, ◌/◌, ◌%◌}
use Rattle.std.specs.Io.KnownBytes.{Appends}
use Rattle.std.proofs.KnownBytes.{Appends-trans}
use Rattle.std.proofs.lemmas.List.{length-append, length-drop}
use Rattle.std.proofs.lemmas.List.{drop_all, drop_more, take_all}
use Rattle.hex.proofs.HexLemmas.{length-encode_with}
use Rattle.hex.proofs.Pairs.{take-two_writes}
use Rattle.flute_parts.specs.Devices.{AppendsPart}
use Rattle.flute_parts.proofs.Public.{AppendsPart-first, AppendsPart-second}
use Rattle.hex.specs.Hex.{encode_with, encode_lower, lower_digits}
use Rattle.flutejoin.specs.Digits.{halves}

encode_with-append : (t xs ys : List ℕ)
    → encode_with t (xs ++ ys) ≡ encode_with t xs ++ encode_with t ys
unfolding encode_with
encode_with-append t [] ys = refl
encode_with-append t (x ∷ xs) ys = search (rules, encode_with-append t xs ys)

pub encode_lower-append : (xs ys : List ℕ)
    → encode_lower (xs ++ ys) ≡ encode_lower xs ++ encode_lower ys
encode_lower-append xs ys = encode_with-append _ _ _

pub encode_lower-nil : encode_lower [] ≡ []
unfolding encode_with
encode_lower-nil = refl

-- n bytes more were put into digits: the digits of a front and of a piece are those of both
pub front_more : {bytes : List ℕ} (front rest : List ℕ) {piece later : List ℕ} (n : ℕ) → bytes ≡
    front ++ rest → piece ≡ take n rest → later ≡ drop n rest → bytes ≡ (front ++ piece) ++ later
front_more front rest {piece} {later} n is p l = grind (arith, common_steps) steps 400000

-- a failure leaves a part of the digits of all bytes
pub digits_cut : {bytes : List ℕ} (front piece later : List ℕ) {digits : List ℕ}
    {old mid new : Option (List ℕ)} → bytes ≡ (front ++ piece) ++ later
    → digits ≡ encode_lower piece → Appends old mid (encode_lower front)
    → AppendsPart mid new digits → AppendsPart old new (encode_lower bytes)
digits_cut {bytes} front piece later {old} {mid} {new} is are done part =
    let all = ap encode_lower is ∙ encode_lower-append _ _ ∙ ap
    (λ x. x ++ encode_lower later) (encode_lower-append _ _) in
    let part' = rw are at part in
    rw all (AppendsPart-first _ _ _ _ (AppendsPart-second _ _ _ _ _ done part'))

pub digits_more : (front piece : List ℕ) {digits : List ℕ} (old mid new : Option (List ℕ))
    → digits ≡ encode_lower piece → Appends old mid (encode_lower front)
    → Appends mid new digits → Appends old new (encode_lower (front ++ piece))
digits_more front piece old mid new are done more = search
    (rules, encode_lower-append, Appends-trans)

-- the buffer for digits keeps its length
pub room_kept : (piece digits room : List ℕ) → digits ≡ encode_lower piece → 2 * length piece ≤
    length room → length (digits ++ drop (2 * length piece) room) ≡ length room
room_kept piece digits room is fits =
    let len = ap length is ∙ length-encode_with lower_digits
    piece in omega (
      arith,
      length-append digits (drop (2 * length piece) room),
      length-drop
          (2 * length piece) room,
    )

-- the halves of what is left, from one byte on
halves-drop : (xs : List ℕ) (i : ℕ) → i < length xs → halves (drop i xs) ≡ slice_index xs i / 16 ∷
    slice_index xs i % 16 ∷ halves (drop (i + 1) xs)
unfolding halves
halves-drop xs i h = rw (drop_more _ i 0 h) refl

-- one byte more was halved
pub halved-more : (xs room : List ℕ) (i : ℕ) → i < length xs → 2 * i + 1 < length room
    → take (2 * i) room ++ halves (drop i xs) ≡ halves xs
    → take (2 * (i + 1)) (slice_set (slice_set room (2 * i) (slice_index xs i / 16)) (2 * i + 1)
    (slice_index xs i % 16)) ++ halves (drop (i + 1) xs) ≡ halves xs
halved-more xs room i h fits so_far =
    let two : 2 * (i + 1) ≡ 2 * i + 2 = omega arith in
    let front = take-two_writes room (2 * i) (slice_index xs i / 16) (slice_index xs i % 16) fits in
    rw (two, front, append_assoc) (rw (halves-drop _ i h) at so_far)

-- all bytes were halved
pub halved-all : (xs room : List ℕ) (i : ℕ) → length xs ≤ i → length room ≡ 2 * length xs
    → take (2 * i) room ++ halves (drop i xs) ≡ halves xs → room ≡ halves xs
unfolding halves
halved-all xs room i h len so_far =
    rw (drop_all i _ h, take_all (2 * i) room (omega arith), append-nil) at so_far

-- each half has its digit
pub digits-halves : (xs : List ℕ)
    → map (λ half. slice_index lower_digits half) (halves xs) ≡ encode_lower xs
unfolding halves encode_with
digits-halves [] = refl
digits-halves (x ∷ xs) = rw (digits-halves xs) refl

-- a half is below 16
pub halves-below : (xs : List ℕ) → ((k : ℕ) → slice_index xs k < 256) → (k : ℕ)
    → slice_index (halves xs) k < 16
unfolding halves
halves-below [] h k = omega arith
halves-below (x ∷ xs) h zero = let e = h 0 in omega arith
halves-below (x ∷ xs) h (suc zero) = omega arith
halves-below (x ∷ xs) h (suc (suc k)) = halves-below xs (λ j. h (suc j)) k
