-- write_line: a line that was written (specs/Pieces).
use Rattle.std.proofs.Common.{rules}
use Rattle.std.proofs.Common.{◌≡◌, ℕ, List, Option, Result}
use Rattle.flute_parts.specs.Devices.{Writes}
use Rattle.flutejoin.specs.Lines.{line}

-- a line of these words was written
pub line_written : {T E : Type 0} (words : List ℕ) (old new : Option (List ℕ))
    (words' : List ℕ) (r : Result T E) → words' ≡ words → Writes old new (line words') r
    → Writes old new (line words) r
line_written words old new words' r w done = search rules
