-- A result that is returned again, as another kind of result.
use Rattle.std.proofs.Common.{rules}
use Rattle.std.proofs.Common.{◌≡◌, ◌↔◌, Ok, Err}

-- a success is full exactly where the limits are passed, if they are not passed
pub not_full : {S T E F : Type 0} (x : S) (y : T) (e : E) (f : F) (P : Type 0) → (Ok x ≡ Err e) ↔ P
    → (Ok y ≡ Err f) ↔ P
not_full = search rules
