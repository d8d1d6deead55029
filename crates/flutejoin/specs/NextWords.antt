-- Lines of a source that are read one by one: what the next call gives, and why none.
use Rattle.std.specs.Prelude.{◌≡◌, ◌++◌, ⊤, ℕ, Bool, List, [], Option, Some, None, IfSome}
use Rattle.std.specs.Prelude.{Result, Err, codes, if◌then◌else◌}
use Rattle.std.specs.Io.KnownBytes.{Consumes}
use Rattle.flutejoin.specs.Lines.{line}
use Rattle.flutejoin.specs.ListedLines.{HasNoEnd, IsOneLine}
use Rattle.flutejoin.specs.declared.lines.next_words.WordsFault.{WordsFault}
use Rattle.flutejoin.specs.declared.lines.next_words.WordsFault.TheVariants.{Read, NoEnd}
use Rattle.flutejoin.specs.declared.lines.text.Text.{Text}

-- a line was read of it, or it has ended
abbrev pub GivesWords : Option (List ℕ) → Option (List ℕ) → Option (List ℕ) → Type 0
GivesWords old new None = IfSome old (λ bytes. bytes ≡ []) × Consumes old new []
GivesWords old new (Some words) = IsOneLine words × Consumes old new (line words)

-- these are the next bytes of a line, of which these came before; whether it has ended
pub record TakesWords (old new : Option (List ℕ)) (before now : List ℕ)
    (ended : Bool) : Type 0 where
  pub words : List ℕ
  pub now_is : now ≡ before ++ words
  pub one_line : IsOneLine words
  pub taken : Consumes old new (words ++ (if ended then codes "\n" else []))

-- why no further line was read
abbrev pub WordsFail : Option (List ℕ) → WordsFault → Type 0
WordsFail old Read = ⊤
WordsFail old NoEnd = IfSome old HasNoEnd

-- how often the source failed, by the result
abbrev pub words_failures : {T : Type 0} → Result T WordsFault → ℕ
words_failures (Err Read) = 1
words_failures _ = 0
