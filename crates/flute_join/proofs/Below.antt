-- What follows from the laws of a join.
use Rattle.std.proofs.Common.{rules}
use Rattle.std.proofs.Common.{◌≡◌, ◌↔◌, Result, Ok, Err, OnOk, OnErr, sym, ap, ◌∙◌, subst}
use Rattle.flute_join.specs.Semilattice.{IsJoin, IsBelow}

module _ {M : Type 0} {join : M → M → M} (laws : IsJoin join) where
  pub below_self : (x : M) → IsBelow join x x
  below_self = laws.idempotent

  pub below_join : (x y : M) → IsBelow join x (join x y)
  below_join x y = search rules

  pub below_trans : (x y z : M) → IsBelow join x y → IsBelow join y z → IsBelow join x z
  below_trans x y z p q = search rules

  pub below_antisymmetric : (x y : M) → IsBelow join x y → IsBelow join y x → x ≡ y
  below_antisymmetric x y p q = search rules

  pub below_second : (x y : M) → IsBelow join y (join x y)
  below_second x y = search rules

  pub least : (x y z : M) → IsBelow join x z → IsBelow join y z → IsBelow join (join x y) z
  least x y z p q = search rules

  -- a value between the first and the join, joined again
  pub joined_again : (old other between : M) → IsBelow join old between
      → IsBelow join between (join old other) → join between other ≡ join old other
  joined_again old other between p q = search rules

-- what holds of the value at `Ok` and of the one at `Err`
pub by_outcome : {T E M : Type 0} (P : M → Type 0) {old new joined : M} (r : Result T E)
    → OnOk r (new ≡ joined) → OnErr r (new ≡ old) → P joined → P old → P new
by_outcome x0 x1 x2 x3 x4 x5 = search rules

pub ok_is_not_err : {T E : Type 0} (x : T) (e : E) → Ok x ≡ Err e → ⊥
ok_is_not_err x e p = cc

abbrev error_or : {T E : Type 0} → E → Result T E → E
error_or d (Ok x) = d
error_or d (Err e) = e

pub same_error : {T E : Type 0} (r : Result T E) (d e : E) → r ≡ Err d → r ≡ Err e → d ≡ e
same_error r d e p q = search rules

pub error_iff : {T E : Type 0} (r : Result T E) (d e : E) (P : Type 0) → r ≡ Err d
    → (r ≡ Err e) ↔ P → (d ≡ e) ↔ P
error_iff r d e P was known = search rules
