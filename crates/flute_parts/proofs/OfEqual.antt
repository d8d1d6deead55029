-- What is said of a part of a value, said of an equal one.
use Rattle.std.proofs.Common.{rules}
use Rattle.std.proofs.Common.{◌≡◌}

pub of_equal : {D V : Type 0} (part : D → V) (P : V → Type 0) {x : D} → P (part x)
    → (y : D) → x ≡ y → P (part y)
of_equal part P p y same = search rules
