-- What became of the outputs that were closed, at any moment since they were begun.
use Rattle.std.specs.Prelude.{◌≡◌, ◌⊎◌, ℕ, List, ◌∷◌, Option, Some, None}
use Rattle.flute_output.specs.Entries.{Entries}
use Rattle.flutejoin_commands.specs.Commands.{IsWholeAlways}
use Rattle.flutejoin_commands.specs.Files.{Files}
use Rattle.flutejoin_commands.specs.Worlds.{HasOut}

-- an output that was closed: its name, and what its folder has then, with what OUT has been
pub record Closing : Type 0 where
  pub name : List ℕ
  pub entries : Entries

-- what became of an output at this name, put together
abbrev pub closing : List ℕ → Entries → Closing
closing name e = record { name = name; entries = e }

-- one output more is closed, if closed outputs are known
abbrev pub IsNoted : List ℕ → Option Entries → Option (List Closing) → Option (List Closing)
    → Type 0
IsNoted name entries None new = new ≡ None
IsNoted name None (Some old) new = ⊥
IsNoted name (Some e) (Some old) new = new ≡ Some (closing name e ∷ old)

-- its folder had first what its name has of these files; and at any moment since, and after a lost
-- power, OUT was what it was then or one new file, whole
abbrev pub WasWhole : Option Files → Closing → Type 0
WasWhole files c =
    (first : Option Entries) × HasOut files c.name first × IsWholeAlways first (Some c.entries)

-- this output is closed, and was whole at any moment
pub record IsClosedWhole (name : List ℕ) (files : Option Files)
    (old new : Option (List Closing)) : Type 0 where
  pub before : List Closing
  pub entries : Entries
  pub was : old ≡ Some before
  pub is : new ≡ Some (closing name entries ∷ before)
  pub whole : WasWhole files (closing name entries)

-- the output is closed as a whole file, or no output is; or closed outputs are not known
abbrev pub ClosesWhole : List ℕ → Option Files → Option (List Closing)
    → Option (List Closing) → Type 0
ClosesWhole name files old new = (new ≡ old) ⊎ IsClosedWhole name files old new
