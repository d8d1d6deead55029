-- A list that is read line by line: what its lines tell, and which of them is at fault.
use Rattle.std.specs.Prelude.{◌≡◌, ◌≢◌, ◌⊎◌, ⊤, ◌+◌, ◌-◌, ◌<◌, ◌^◌, ℕ, List, [], ◌∷◌, ◌++◌, length}
use Rattle.std.specs.Prelude.{Option}
use Rattle.std.specs.Io.KnownBytes.{Consumes}
use Rattle.std.specs.List.{flat_map, All}
use Rattle.flutejoin.specs.Lines.{line}

-- no line feed is in it
abbrev pub IsOneLine : List ℕ → Type 0
IsOneLine words = All (λ byte. byte ≢ 10) words

-- a line is passed over that is empty, or begins with a number sign
abbrev pub IsPassedOver : List ℕ → Type 0
IsPassedOver [] = ⊤
IsPassedOver (byte ∷ words) = byte ≡ 35

-- bytes begin with some that no line feed ends: all of them, or more than 512
pub record HasNoEnd (bytes : List ℕ) : Type 0 where
  pub words : List ℕ
  pub rest : List ℕ
  pub bytes_are : bytes ≡ words ++ rest
  pub one_line : IsOneLine words
  pub some : 0 < length words
  pub long : (rest ≡ []) ⊎ (512 < length words)

-- a line tells this (`Tells`)
module _ {X : Type 0} (Tells : List ℕ → List X → Type 0) where
  -- lines, and what they tell together, in their order
  unfoldable pub LinesTell : List (List ℕ) → List X → Type 0
  LinesTell [] items = items ≡ []
  LinesTell (words ∷ lines) items =
      (here : List X) × (later : List X) × IsOneLine words × Tells words here
      × LinesTell lines later × (items ≡ here ++ later)

  -- a list is lines that each end with a line feed, and tell this
  pub record ListTells (bytes : List ℕ) (items : List X) : Type 0 where
    pub lines : List (List ℕ)
    pub text : bytes ≡ flat_map line lines
    pub tell : LinesTell lines items

  -- the list begins with lines that tell this, as many as are before the line with this number,
  -- from 1, and then has other bytes
  pub record BeginsLine (bytes : List ℕ) (number : ℕ) (items : List X)
      (rest : List ℕ) : Type 0 where
    pub lines : List (List ℕ)
    pub text : bytes ≡ flat_map line lines ++ rest
    pub tell : LinesTell lines items
    pub number_is : number ≡ length lines + 1

  -- the list begins so, and then has a line of which P holds
  pub record HasLine (P : List ℕ → Type 0) (bytes : List ℕ) (number : ℕ) : Type 0 where
    pub items : List X
    pub words : List ℕ
    pub rest : List ℕ
    pub begins : BeginsLine bytes number items (line words ++ rest)
    pub one_line : IsOneLine words
    pub here : P words

  -- the list begins so, and then has bytes of which P holds
  pub record HasRest (P : List ℕ → Type 0) (bytes : List ℕ) (number : ℕ) : Type 0 where
    pub items : List X
    pub rest : List ℕ
    pub begins : BeginsLine bytes number items rest
    pub here : P rest

  -- the line with this number is none that tells anything (`TellsNothing`), or has no end within
  -- 512 bytes; no more than 2^64 - 1 lines are read
  pub data HasBadLine (TellsNothing : List ℕ → Type 0) (bytes : List ℕ)
      (number : ℕ) : Type 0 where
    nothing : HasLine TellsNothing bytes number → HasBadLine TellsNothing bytes number
    no_end : HasRest HasNoEnd bytes number → HasBadLine TellsNothing bytes number
    too_many : (items : List X) (rest : List ℕ) → BeginsLine bytes (2 ^ 64) items rest
        → number ≡ 2 ^ 64 - 1 → HasBadLine TellsNothing bytes number

  -- what was read of a list, from all that its source had to what it has: so many lines but one
  pub record HasRead (all left : Option (List ℕ)) (number : ℕ) (items : List X) : Type 0 where
    pub bytes : List ℕ
    pub taken : Consumes all left bytes
    pub begins : BeginsLine bytes number items []
