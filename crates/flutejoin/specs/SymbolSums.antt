-- A sum of a symbol's bytes, which `show --sums` prints in their place.
use Rattle.std.specs.Prelude.{ℕ, List, ◌++◌, codes, length, take}
use Rattle.hex.specs.Hex.{encode_lower}
use Rattle.sha2.specs.Sha256.{sha256}
use Rattle.flute_parts.specs.declared.fact.Fact.{Fact}
use Rattle.flute_parts.specs.declared.fact.Fact.TheVariants.{Symbol}
use Rattle.flutejoin.specs.Lines.{fact_words, key_words, line, symbol_words}

-- the first 8 bytes of their SHA-256 (FIPS 180-4)
abbrev pub symbol_sum : List ℕ → List ℕ
symbol_sum bytes = take 8 (sha256 bytes)

-- the words of a fact's line, with a symbol's sum and without its bytes
abbrev pub summed_words : Fact → List ℕ
summed_words (Symbol key id bytes) =
    key_words key ++ codes " " ++ symbol_words id (length bytes) ++ codes "sum "
    ++ encode_lower (symbol_sum bytes)
summed_words fact = fact_words fact

unfoldable pub summed_line : Fact → List ℕ
summed_line fact = line (summed_words fact)
