-- The join of two cells.
use Rattle.std.specs.Prelude.{◌≡◌, ◌≢◌, Bool, true, false, cond, refl, Option, Some, None, IsSome}
use Rattle.std.specs.Cmp.{IsEquivalence}
use Rattle.std.proofs.Common.{sym, ap, ◌∙◌}
use Rattle.flute_join.specs.declared.cell.Cell.{Cell}
use Rattle.flute_join.specs.declared.cell.Cell.TheVariants.{Absent, One, Conflict}
use Rattle.flute_join.specs.Semilattice.{IsJoin}

-- absent adds nothing, two equal values are one, and two different values, or a conflict,
-- are a conflict
abbrev pub cell_join : {T : Type 0} → (T → T → Bool) → Cell T → Cell T → Cell T
cell_join eq Absent d = d
cell_join eq (One x) Absent = One x
cell_join eq (One x) (One y) = cond (eq x y) (One x) Conflict
cell_join eq (One x) Conflict = Conflict
cell_join eq Conflict d = Conflict

-- the value of a cell that holds one
abbrev pub one_value : {T : Type 0} → Cell T → Option T
one_value Absent = None
one_value (One x) = Some x
one_value Conflict = None

-- something came
abbrev pub IsKnown : {T : Type 0} → Cell T → Type 0
IsKnown c = c ≢ Absent

-- joining d into c may ask for memory: an absent cell takes a copy of the one value
abbrev pub CellNeedsMemory : {T : Type 0} → Cell T → Cell T → Type 0
CellNeedsMemory c d = (c ≡ Absent) × IsSome (one_value d)

module _ {T : Type 0} {eq : T → T → Bool} (laws : IsEquivalence eq)
    (same : (x y : T) → eq x y ≡ true → x ≡ y) where
  pub right_absent : (c : Cell T) → cell_join eq c Absent ≡ c
  right_absent Absent = refl
  right_absent (One x) = refl
  right_absent Conflict = refl

  right_conflict : (c : Cell T) → cell_join eq c Conflict ≡ Conflict
  right_conflict Absent = refl
  right_conflict (One x) = refl
  right_conflict Conflict = refl

  either_value : (x y : T) (b : Bool) → eq x y ≡ b
      → cond b (One x) Conflict ≡ cond b (One y) Conflict
  either_value x y true e = ap One (same x y e)
  either_value x y false e = refl

  three_values : (x y z : T) (b c : Bool) → eq x y ≡ b → eq y z ≡ c
      → cell_join eq (cond b (One x) Conflict) (One z)
      ≡ cell_join eq (One x) (cond c (One y) Conflict)
  three_values x y z true true e f =
      ap (λ b. cond b (One x) Conflict) (laws.congr x y z e ∙ f ∙ sym e)
  three_values x y z true false e f = ap (λ b. cond b (One x) Conflict) (laws.congr x y z e ∙ f)
  three_values x y z false true e f = sym (ap (λ b. cond b (One x) Conflict) e)
  three_values x y z false false e f = refl

  commutes : (c d : Cell T) → cell_join eq c d ≡ cell_join eq d c
  commutes Absent d = sym (right_absent d)
  commutes (One x) Absent = refl
  commutes (One x) (One y) =
      either_value x y (eq x y) refl ∙ ap (λ b. cond b (One y) Conflict) (laws.symm x y)
  commutes (One x) Conflict = refl
  commutes Conflict d = sym (right_conflict d)

  associates : (c d e : Cell T)
      → cell_join eq (cell_join eq c d) e ≡ cell_join eq c (cell_join eq d e)
  associates Absent d e = refl
  associates (One x) Absent e = refl
  associates (One x) (One y) Absent = right_absent (cond (eq x y) (One x) Conflict)
  associates (One x) (One y) (One z) = three_values x y z (eq x y) (eq y z) refl refl
  associates (One x) (One y) Conflict = right_conflict (cond (eq x y) (One x) Conflict)
  associates (One x) Conflict e = refl
  associates Conflict d e = refl

  repeats : (c : Cell T) → cell_join eq c c ≡ c
  repeats Absent = refl
  repeats (One x) = ap (λ b. cond b (One x) Conflict) (laws.refl x)
  repeats Conflict = refl

  -- the join of cells is a join, if values that compare equal are the same
  pub cell_join_laws : IsJoin (cell_join eq)
  cell_join_laws = record { commutative = commutes; associative = associates; idempotent = repeats }
