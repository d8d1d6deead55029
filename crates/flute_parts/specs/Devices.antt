-- What is written to a sink whose bytes contracts see, and how often a device failed.
use Rattle.std.specs.Prelude.{◌≡◌, ◌≢◌, ℕ, Bool, true, false, List, [], ◌++◌}
use Rattle.std.specs.Prelude.{Option, Result, MatchResult}
use Rattle.std.specs.Io.KnownBytes.{Appends}

-- a part of the bytes was appended, and not all of them
pub record AppendsPart (old new : Option (List ℕ)) (bytes : List ℕ) : Type 0 where
  pub part : List ℕ
  pub rest : List ℕ
  pub appended : Appends old new part
  pub whole : bytes ≡ part ++ rest
  pub cut : rest ≢ []

-- the bytes were appended, or after a failure a part of them
abbrev pub Writes : {T E : Type 0} → Option (List ℕ) → Option (List ℕ) → List ℕ → Result T E
    → Type 0
Writes old new bytes result =
    MatchResult result (λ _. Appends old new bytes) (λ _. AppendsPart old new bytes)

-- how often a device failed that is known to have failed, or not
abbrev pub times_failed : Bool → ℕ
times_failed true = 1
times_failed false = 0
