-- The pieces of a line of information, one after the other (specs/InformationLines).
use Rattle.std.proofs.lemmas.Grind.{common_steps}
use Rattle.std.proofs.Common.{rules}
use Rattle.std.proofs.Common.{◌≡◌, ℕ, ◌==◌, ◌<◌, ◌^◌, Bool, true, false, List, []}
use Rattle.std.proofs.Common.{◌++◌, get_or, codes, decimal}
use Rattle.std.proofs.Common.{append_assoc, refl, sym, ap, ◌∙◌, arith}
use Rattle.std.specs.Int.{bytes_high_first}
use Rattle.std.proofs.lemmas.Bool.{true≢false}
use Rattle.std.proofs.lemmas.List.{append_cancel_left, get_or_append_left}
use Rattle.hex.specs.Hex.{encode_lower}
use Rattle.flute_parts.specs.Information.{Information}
use Rattle.flute_parts.specs.declared.object_key.ObjectName.{ObjectName}
use Rattle.flute_parts.specs.declared.object_key.ObjectName.TheVariants.{Instance, File}
use Rattle.flute_parts.specs.declared.key.Key.{Key}
use Rattle.flute_parts.specs.declared.fact.Fact.TheVariants.{Info}
use Rattle.flutejoin.specs.InformationLines.{numbers_of}
use Rattle.flutejoin.specs.declared.info.information_line.InfoNumbers.{InfoNumbers}
use Rattle.flutejoin.specs.Lines.{source_words, object_words, information_words, fact_words}
use Rattle.flutejoin.proofs.info_lemmas.LineNumbers.{digit_in_decimal, some_digits}

abbrev pub from_block : Information → List ℕ
from_block i = codes " block " ++ (decimal i.max_block_length ++ [])

abbrev pub from_symbol : Information → List ℕ
from_symbol i = codes " symbol " ++ (decimal i.symbol_length ++ from_block i)

pub information_chain : (i : Information)
    → information_words i ≡ codes "info length " ++ (decimal i.transfer_length ++ from_symbol i)
information_chain i = grind (arith, common_steps)

abbrev pub from_info : Information → List ℕ
from_info info = codes " " ++ information_words info

abbrev pub from_object : Key → Information → List ℕ
from_object key info = object_words key.object ++ from_info info

abbrev pub from_space : Key → Information → List ℕ
from_space key info = codes " " ++ from_object key info

pub fact_chain : (key : Key) (info : Information) → fact_words (Info key info) ≡ source_words
    key.session.sender ++ (codes "session " ++ (decimal key.session.tsi ++ from_space key info))
fact_chain key info = seven (source_words key.session.sender) (codes "session ")
    (decimal key.session.tsi) (codes " ") (object_words key.object) (codes " ")
    (information_words info)
  where
    seven : (a b c d e f g : List ℕ) → (a ++ b ++ c ++ d ++ e) ++ f ++ g ≡ a ++
        (b ++ (c ++ (d ++ (e ++ (f ++ g)))))
    seven a b c d e f g = simp append_assoc refl

-- what follows the word source, if there is a sender
pub source_chain : (n : ℕ) (tail : List ℕ) → (n == 0) ≡ false → source_words n ++ tail ≡ codes
    "source " ++ (encode_lower (bytes_high_first 16 n) ++ (codes " " ++ tail))
source_chain n tail some = grind (arith, common_steps)

pub source_none : (n : ℕ) (tail : List ℕ) → (n == 0) ≡ true → source_words n ++ tail ≡ tail
source_none n tail none = search rules

-- no number begins with the word fdt
pub no_fdt : (n : ℕ) (x rest : List ℕ) → n < 2 ^ 128 → decimal n ++ x ≡ codes "fdt " ++ rest → ⊥
no_fdt n x _ small e =
    let at = sym (get_or_append_left (decimal n) x 0 0 (some_digits n small)) ∙ ap
    (λ l. get_or l 0 0) e in true≢false (cc (digit_in_decimal n 0 small (some_digits n small)))

apart : (x y : List ℕ) → codes "session " ++ x ≡ codes "source " ++ y → ⊥
apart x y e = search rules

-- the digits follow the word source
pub source_rest : (s tail rest : List ℕ) (n : ℕ) → s ≡ source_words n ++ (codes "session " ++ tail)
    → s ≡ codes "source " ++ rest
    → rest ≡ encode_lower (bytes_high_first 16 n) ++ (codes " " ++ (codes "session " ++ tail))
source_rest s tail rest n is found = go _ refl
  where
    go : (b : Bool) → (n == 0) ≡ b
        → rest ≡ encode_lower (bytes_high_first 16 n) ++ (codes " " ++ (codes "session " ++ tail))
    go true none = absurd (apart _ _ (sym (source_none n _ none)
        ∙ sym is ∙ found))
    go false some = append_cancel_left (codes "source ") rest _ (cc (source_chain n _ some))

pub same_numbers : (info : Information) (n : InfoNumbers) → n.length ≡ info.transfer_length
    → n.symbol ≡ info.symbol_length → n.block ≡ info.max_block_length → numbers_of n ≡ info
same_numbers info n x y z = search rules

pub by_name : (P : ObjectName → Type 0) → ((i : ℕ) → P (Instance i)) → ((t : ℕ) → P (File t)) →
    (name : ObjectName) → P name
by_name P i t (Instance n) = i n
by_name P i t (File n) = t n

-- an object after the words object fdt is no file
pub no_file : (s tail rest : List ℕ) (n : ℕ) → n < 2 ^ 112 → s ≡ codes " " ++
    (object_words (File n) ++ tail) → s ≡ codes " object fdt " ++ rest → ⊥
no_file s tail rest n small is found = search (rules, no_fdt)
