-- The first bytes of an input.
use Rattle.std.specs.Prelude.{◌≡◌, ℕ, List, take, Option, Some, IfSome}
use Rattle.std.specs.Io.KnownBytes.{prepend_known}

-- the bytes that were left begin with these first bytes, and the others are left now
abbrev pub Begins : List ℕ → Option (List ℕ) → Option (List ℕ) → Type 0
Begins first old new =
    IfSome old (λ bytes. (prepend_known first new ≡ Some bytes)
    × (take 4 first ≡ take 4 bytes))
