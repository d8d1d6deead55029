-- Chained: a stream with number 0 and others after it, and how one is advanced.
use Rattle.flute_streams.proofs.Common.{◌≡◌, ℕ, zero, suc, ◌+◌, ◌-◌, ◌<◌}
use Rattle.flute_streams.proofs.Common.{◌≤◌, List, [], ◌∷◌, length, length-take}
use Rattle.flute_streams.proofs.Common.{take_all, get_or, get_or_from_slice_get, same_Some, Some}
use Rattle.flute_streams.proofs.Common.{inl, inr, Result, refl, sym, ap, ◌∙◌, arith}
use Rattle.flute_streams.proofs.Common.{slice_get, slice_set, LoadFault, Either, First}
use Rattle.flute_streams.proofs.Common.{Second, Behaviour, Advances, either_behaviour}
use Rattle.flute_streams.proofs.streams_lemmas.Eithers.{second_at}
use Rattle.std.proofs.{
  lemmas.Option.{slice_get-map, slice_get_read, slice_get_cases},
  lemmas.List.{length-map, get_or-take},
  Math.Seq.{take-set-lt},
}
use Rattle.std.specs.Prelude.{map, min, option_map}
use Rattle.flute_streams.specs.Chains.{chained, taken}

abbrev seconds : (A B : Type 0) → List B → List (Either A B)
seconds A B ys = map Second ys

pub seconds_set : (A B : Type 0) (ys : List B) (k : ℕ) (y : B)
    → seconds A B (slice_set ys k y) ≡ slice_set (seconds A B ys) k (Second y)
seconds_set A B [] k y = refl
seconds_set A B (z ∷ ys) zero y = refl
seconds_set A B (z ∷ ys) (suc k) y = ap (λ l. Second z ∷ l) (seconds_set A B ys k y)

seconds_many : (A B : Type 0) (ys : List B) → length (seconds A B ys) ≡ length ys
seconds_many A B ys = length-map ys _

-- Of the others so many are taken.

pub taken_many : {B : Type 0} (ys : List B) → length (taken ys) ≡ min 65535 (length ys)
unfolding taken
taken_many ys = length-take _ ys

pub taken_at : {B : Type 0} (ys : List B) (k : ℕ) (y : B) → k < 65535
    → get_or (taken ys) k y ≡ get_or ys k y
unfolding taken
taken_at ys k y within = get_or-take 65535 ys k y within

pub taken_set : {B : Type 0} (ys : List B) (k : ℕ) (y : B) → k < 65535
    → taken (slice_set ys k y) ≡ slice_set (taken ys) k y
unfolding taken
taken_set ys k y within = take-set-lt 65535 ys k y within

pub taken_all : {B : Type 0} (ys : List B) → length ys ≤ 65535 → taken ys ≡ ys
unfolding taken
taken_all ys few = take_all _ ys few

pub chained_many : (A B : Type 0) (x : A) (ys : List B)
    → length (chained {A = A} x (taken ys)) ≡ min (length ys) 65535 + 1
chained_many A B x ys = omega (arith, seconds_many A B (taken ys), taken_many ys)

-- another stream, at its place among all
module _ {A B : Type 0} (a : Behaviour A) (b : Behaviour B) (x : A) (ys : List B) (n : ℕ)
    (within : n < length (chained x (taken ys))) (other : ¬ (n ≡ 0)) where
  later : n ≡ suc (n - 1)
  later = omega arith

  near : n - 1 < length (taken ys)
  near = omega (arith, seconds_many A B (taken ys))

  below : n - 1 < 65535
  below = omega (arith, near, taken_many ys)

  pub far : n - 1 < length ys
  far = omega (arith, near, taken_many ys)

  stands : (y : B) → slice_get ys (n - 1) ≡ Some y
      → slice_get (chained x (taken ys)) n ≡ Some (Second y)
  stands y is = ap (slice_get (chained x (taken ys))) later ∙ slice_get-map Second (taken ys)
      (n - 1) ∙ ap (option_map Second) (slice_get_read _ _ _ y refl
      near (sym (taken_at ys _ y below ∙ get_or_from_slice_get ys _ y y is)))

  -- what is read of the other stream is read of the stream with its number
  pub other_is : {X : Type 0} (read : Either A B → X) (o : X)
      → ((y : B) → slice_get ys (n - 1) ≡ Some y → o ≡ read (Second y)) → (s : Either A B)
      → slice_get (chained x (taken ys)) n ≡ Some s → o ≡ read s
  other_is read o h s e = elim (slice_get_cases ys (n - 1)).1 [
    | inl (y, _, is, _) ↦ let both = sym (stands y is) ∙ e in h y is
        ∙ ap read (same_Some _ _ both)
    | inr (past, _) ↦ absurd (omega (arith, far))
  ]

  pub other_advances : (zs : List B) (r : Result (Unit {0}) LoadFault) → Advances b (n - 1) ys zs r
      → Advances (either_behaviour a b) n (chained x (taken ys)) (chained x (taken zs)) r
  other_advances zs r v = second_at a b _ r (stands _ v.was) (ap (λ l. chained x (taken l)) v.now ∙
      ap (chained x) (taken_set ys _ _ below) ∙ ap (λ l. First x ∷ l) (seconds_set A B _ _ _) ∙ sym
      (ap (λ m. slice_set (chained x (taken ys)) m (Second v.after)) later)) v.goes_on v.stops
