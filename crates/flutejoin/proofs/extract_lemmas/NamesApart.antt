-- extract --all: different objects have different file names (specs/FileNames).
use Rattle.std.proofs.Common.{rules}
use Rattle.std.proofs.Common.{◌≡◌, ℕ, zero, suc, ◌<◌, ◌^◌, ◌*◌, List, [], ◌∷◌, ◌++◌, length}
use Rattle.std.proofs.Common.{codes, decimal, refl, sym, ap, ◌∙◌, arith}
use Rattle.std.specs.List.{AllByRecursion}
use Rattle.std.specs.Int.{bytes_high_first, byte_at}
use Rattle.std.specs.Prelude.{slice_index}
use Rattle.std.specs.Str.Parse.{AllDigits, digits_value}
use Rattle.std.proofs.lemmas.Fmt.{decimal_is_IsNumeral_wide}
use Rattle.byteorder.specs.Endian.{big_from}
use Rattle.byteorder.specs.Numbers.{big_number-reads_back, length-bytes_high_first}
use Rattle.hex.specs.Hex.{encode_lower, lower_digits}
use Rattle.hex.proofs.HexLemmas.{decode_of-encode_lower, decode_of-same, length-encode_with}
use Rattle.flute_parts.specs.ObjectName.{IsObjectName}
use Rattle.flute_parts.specs.Session.{IsSender}
use Rattle.flute_parts.specs.declared.key.Key.{Key}
use Rattle.flute_parts.specs.declared.object_key.ObjectName.{ObjectName}
use Rattle.flutejoin.specs.FileNames.{IsKey, object_name, file_name}

-- ---- senders

byte_below : (k n : ℕ) → byte_at k n < 256
byte_below = search rules

bytes_are : (k n i : ℕ) → slice_index (bytes_high_first k n) i < 256
bytes_are zero n i = omega arith
bytes_are (suc k) n zero = byte_below k n
bytes_are (suc k) n (suc i) = bytes_are k n i

pub senders_same : (a b : ℕ) → IsSender a → IsSender b → encode_lower (bytes_high_first 16 a) ≡
    encode_lower (bytes_high_first 16 b) → a ≡ b
senders_same a b p q e =
    let same = decode_of-same (encode_lower (bytes_high_first 16 b)) (bytes_high_first 16 a)
    (bytes_high_first 16 b) (cc (decode_of-encode_lower (bytes_high_first 16 a) (bytes_are 16 a)))
    (decode_of-encode_lower (bytes_high_first 16 b) (bytes_are 16 b)) in sym
    (big_number-reads_back 16 a [] p) ∙ ap (λ l. big_from 0 16 (l ++ [])) same ∙
    big_number-reads_back 16 b [] q

-- ---- numbers

pub numbers_same : (a b : ℕ) → a < 10 ^ 64 → b < 10 ^ 64 → decimal a ≡ decimal b → a ≡ b
numbers_same a b p q e = sym (decimal_is_IsNumeral_wide a p).1 ∙ ap (digits_value 10) e ∙
    (decimal_is_IsNumeral_wide b q).1

abbrev NoDash : List ℕ → Type 0
NoDash = AllByRecursion (λ c. c ≡ 45 → ⊥)

no_dash : (ds : List ℕ) → AllDigits 10 ds → NoDash ds
no_dash [] h = tt
no_dash (c ∷ cs) h = (λ e. let k = rw e at h.0 in omega arith, no_dash cs h.1)

-- the first dash is where the number ends
at_dash : (xs ys us vs : List ℕ) → NoDash xs → NoDash ys → xs ++ 45 ∷ us ≡ ys ++ 45 ∷ vs →
    (xs ≡ ys) × (us ≡ vs)
at_dash [] [] us vs h g e = (refl, cc)
at_dash [] (y ∷ ys) us vs h g e = absurd (g.0 cc)
at_dash (x ∷ xs) [] us vs h g e = absurd (h.0 cc)
at_dash (x ∷ xs) (y ∷ ys) us vs h g e =
    let first : x ≡ y = cc in
    let rest = at_dash xs ys _ _ h.1 g.1 cc in
    (λ i. first i ∷ rest.0 i, rest.1)

pub same_split : (xs ys us vs : List ℕ) → length xs ≡ length ys → xs ++ us ≡ ys ++ vs → (xs ≡ ys) ×
    (us ≡ vs)
same_split [] [] us vs l e = (refl, e)
same_split [] (y ∷ ys) us vs l e = absurd (omega arith)
same_split (x ∷ xs) [] us vs l e = absurd (omega arith)
same_split (x ∷ xs) (y ∷ ys) us vs l e =
    let first : x ≡ y = cc in
    let rest = same_split xs ys _ _ (omega arith) cc in
    (λ i. first i ∷ rest.0 i, rest.1)

-- ---- objects

not_fdt : (n : ℕ) (rest : List ℕ) → n < 10 ^ 64 → decimal n ≡ 102 ∷ rest → ⊥
not_fdt n rest small e =
    let k = rw e at (decimal_is_IsNumeral_wide n small).0.1 in
    let d = k.0 in
    absurd (omega arith)

small_instance : (n : ℕ) → n < 2 ^ 20 → n < 10 ^ 64
small_instance n h = omega arith

small_toi : (n : ℕ) → n < 2 ^ 112 → n < 10 ^ 64
small_toi n h = omega arith

small_tsi : (n : ℕ) → n < 2 ^ 48 → n < 10 ^ 64
small_tsi n h = omega arith

objects_same : (a b : ObjectName) → IsObjectName a → IsObjectName b → object_name a ≡ object_name b
    → a ≡ b
objects_same = search (rules, numbers_same, small_toi, small_instance, same_split, not_fdt)

pub names_apart : (k l : Key) → IsKey k → IsKey l → file_name k ≡ file_name l → k ≡ l
unfolding file_name
names_apart k l p q e =
    let digits : (n : ℕ) → length (encode_lower (bytes_high_first 16 n)) ≡ 32 = λ n.
    length-encode_with lower_digits (bytes_high_first 16 n) ∙ ap (λ x. 2 * x)
    (length-bytes_high_first 16 n) in
    let one = same_split _ _ _ _ (digits k.session.sender ∙ sym (digits l.session.sender)) e in
    let two = (same_split (codes "-") (codes "-") _ _ refl one.1).1 in
    let kt = small_tsi _ p.tsi in
    let lt = small_tsi _ q.tsi in
    let three = at_dash _ _ _ _ (no_dash _ (decimal_is_IsNumeral_wide _ kt).0.1)
    (no_dash _ (decimal_is_IsNumeral_wide _ lt).0.1) two in
    let s = senders_same _ _ p.sender q.sender one.0 in
    let t = numbers_same _ _ kt lt three.0 in
    let o = objects_same _ _ p.object q.object three.1 in
    λ i. record { session = record { sender = s i; tsi = t i }; object = o i }
