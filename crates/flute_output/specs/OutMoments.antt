-- What OUT was at each moment: whoever looked then, or stopped the program, found it so.
use Rattle.std.specs.Prelude.{◌≡◌, ◌⊎◌, List, [], ◌∷◌, Option, Some, Contains}
use Rattle.flute_output.specs.Entries.{Stored}

-- what OUT was at one moment, and what it was before that a lost power could have brought back
pub record Moment : Type 0 where
  pub out : Option Stored
  pub unsure : List (Option Stored)

-- a moment right after OUT was replaced by this file
abbrev pub replaced : Option Stored → Moment → Moment
replaced file m = record { out = file; unsure = m.out ∷ m.unsure }

-- a moment at which the disk had the name OUT as it was
abbrev pub settled : Moment → Moment
settled m = record m { unsure = [] }

-- The moments so far, the latest first, and those after a call; none where contracts see none. At
-- the end of the call the last moment was changed so, and until then OUT stayed what it was.
abbrev pub Follows : (Moment → Moment) → List Moment → List Moment → Type 0
Follows change [] new = new ≡ []
Follows change (now ∷ before) [] = ⊥
Follows change (now ∷ before) (last ∷ rest) =
    (last ≡ change now) × ((m : Moment) → Contains rest m → Contains before m ⊎ (m ≡ now))

-- OUT stayed what it was at each moment of the call
abbrev pub Steady : List Moment → List Moment → Type 0
Steady = Follows (λ m. m)

-- each moment that came was the last one of before; or OUT was the file, and a lost power could
-- bring back nothing but that, or what could come back before; or the disk had the name for certain
abbrev pub BecomesAt : Stored → List Moment → List Moment → Type 0
BecomesAt file [] new = new ≡ []
BecomesAt file (now ∷ before) new = (m : Moment) → Contains new m → Contains before m
    ⊎ ((m ≡ now) ⊎ ((m ≡ replaced (Some file) now) ⊎ (m ≡ settled (replaced (Some file) now))))
