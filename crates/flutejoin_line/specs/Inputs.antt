-- Standard input, among the inputs of a command.
use Rattle.std.specs.Prelude.{◌≡◌, ◌&&◌, ◌||◌, ℕ, Bool, true, false, List, [], ◌∷◌, codes, Option}
use Rattle.std.specs.Prelude.{Some, None}
use Rattle.std.specs.List.{list_any}
use Rattle.std.specs.Str.{bytes_eq}
use Rattle.flutejoin.specs.declared.command_fault.CommandFault.{CommandFault}
use Rattle.flutejoin.specs.declared.command_fault.CommandFault.TheVariants.{StandardInputTwice}

-- whether the word is `-`, standard input
abbrev pub is_standard : List ℕ → Bool
is_standard word = bytes_eq word (codes "-")

-- more than one of these words is `-`
abbrev pub is_standard_twice : List (List ℕ) → Bool
is_standard_twice [] = false
is_standard_twice (word ∷ words) =
    (is_standard word && list_any is_standard words) || is_standard_twice words

-- the word of an option, if it is given
abbrev pub word_if : Option (List ℕ) → List (List ℕ)
word_if None = []
word_if (Some word) = word ∷ []

-- and that is the fault
abbrev pub IsTwice : List (List ℕ) → CommandFault → Type 0
IsTwice words StandardInputTwice = is_standard_twice words ≡ true
IsTwice words _ = ⊥
