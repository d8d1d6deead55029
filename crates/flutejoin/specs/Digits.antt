-- What the hexadecimal digits of bytes stand for.
use Rattle.std.specs.Prelude.{ℕ, ◌/◌, ◌%◌, List, [], ◌∷◌}

-- the high four bits and then the low four bits of each byte
unfoldable pub halves : List ℕ → List ℕ
halves [] = []
halves (byte ∷ rest) = byte / 16 ∷ byte % 16 ∷ halves rest
