-- The LCT header.
use Rattle.std.specs.Prelude.{ℕ, ◌+◌, ◌*◌, ◌/◌, ◌%◌, ◌^◌, List, take, drop, slice_range}
use Rattle.flute_parts.specs.BigEndian.{big_endian}
use Rattle.flute_wire.specs.declared.first_word.FirstWord.{FirstWord}

-- the fields of the first word: each is the word divided by the bits below it, and of that its own
-- bits (RFC 5651, 5.1)
abbrev pub fields : ℕ → FirstWord
fields n = record {
  version = n / 2 ^ 28;
  congestion_words = n / 2 ^ 26 % 2 ^ 2;
  tsi_words = n / 2 ^ 23 % 2;
  toi_words = n / 2 ^ 21 % 2 ^ 2;
  half_word = n / 2 ^ 20 % 2;
  header_words = n / 2 ^ 8 % 2 ^ 8;
  codepoint = n % 2 ^ 8;
}

-- the lengths in bytes that the first word gives (RFC 5651, 5.1)
abbrev pub cci_len : FirstWord → ℕ
cci_len w = 4 * (w.congestion_words + 1)

-- how many bytes the TSI has
abbrev pub tsi_len : FirstWord → ℕ
tsi_len w = 4 * w.tsi_words + 2 * w.half_word

-- how many bytes the TOI has
abbrev pub toi_len : FirstWord → ℕ
toi_len w = 4 * w.toi_words + 2 * w.half_word

-- how many bytes the whole LCT header has
abbrev pub header_len : FirstWord → ℕ
header_len w = 4 * w.header_words

-- the fields before the extensions, in words
abbrev pub fixed_words : FirstWord → ℕ
fixed_words w = 2 + w.congestion_words + w.tsi_words + w.toi_words + w.half_word

-- the parts of a datagram, by place
abbrev pub first_word : List ℕ → FirstWord
first_word d = fields (big_endian (take 4 d))

-- where the TSI, the TOI and the extensions begin
abbrev pub tsi_at : FirstWord → ℕ
tsi_at w = 4 + cci_len w

-- where the TOI begins in the datagram
abbrev pub toi_at : FirstWord → ℕ
toi_at w = tsi_at w + tsi_len w

-- where the extensions begin in the datagram
abbrev pub extensions_at : FirstWord → ℕ
extensions_at w = toi_at w + toi_len w

-- the two numbers of the header, the bytes of its extensions, and those after it
abbrev pub tsi_in : List ℕ → ℕ
tsi_in d = big_endian (slice_range d (tsi_at (first_word d)) (toi_at (first_word d)))

-- the TOI of a datagram
abbrev pub toi_in : List ℕ → ℕ
toi_in d = big_endian (slice_range d (toi_at (first_word d)) (extensions_at (first_word d)))

-- the bytes of all extensions of a datagram
abbrev pub extension_area : List ℕ → List ℕ
extension_area d = slice_range d (extensions_at (first_word d)) (header_len (first_word d))

-- what follows the LCT header: a symbol's ID and bytes, or nothing
abbrev pub after_header : List ℕ → List ℕ
after_header d = drop (header_len (first_word d)) d
