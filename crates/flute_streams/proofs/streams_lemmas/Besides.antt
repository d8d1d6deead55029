-- Both: streams and others after them, and how one is advanced.
use Rattle.flute_streams.proofs.Common.{◌≡◌, ℕ, zero, suc, ◌+◌, ◌<◌}
use Rattle.flute_streams.proofs.Common.{List, [], ◌∷◌, length, length-append}
use Rattle.flute_streams.proofs.Common.{get_or_from_slice_get, same_Some, Some}
use Rattle.flute_streams.proofs.Common.{inl, inr, Result, refl, sym, ap, ◌∙◌, arith}
use Rattle.flute_streams.proofs.Common.{slice_get, slice_set, slice_get_within, LoadFault, Either}
use Rattle.flute_streams.proofs.Common.{First, Second, Behaviour, Advances, either_behaviour}
use Rattle.flute_streams.proofs.streams_lemmas.Chaining.{seconds_set, taken_at, taken_many}
use Rattle.flute_streams.proofs.streams_lemmas.Chaining.{taken_set}
use Rattle.flute_streams.proofs.streams_lemmas.Eithers.{first_at, second_at}
use Rattle.std.proofs.{
  lemmas.Option.{slice_get-map, slice_get_read, slice_get_cases},
  lemmas.List.{length-map},
}
use Rattle.std.specs.Prelude.{map, min, option_map}
use Rattle.flute_streams.specs.Chains.{beside, taken}

pub beside_many : {A B : Type 0} (xs : List A) (ys : List B)
    → length (beside xs ys) ≡ length xs + length ys
beside_many {A} {B} xs ys =
    let firsts : List (Either A B) = map First xs in
    let seconds : List (Either A B) = map Second ys in
    omega (
      arith,
      length-append firsts seconds,
      length-map {B = Either A B} xs First,
      length-map {B = Either A B} ys Second,
    )

-- where a stream of the one list stands among all, and one of the other

first_stands : {A B : Type 0} (xs : List A) (ys : List B) (n : ℕ) (x : A)
    → slice_get xs n ≡ Some x → slice_get (beside xs ys) n ≡ Some (First x)
first_stands [] ys n x is = let within = slice_get_within [] n x is in absurd (omega arith)
first_stands (z ∷ xs) ys zero x is = let same : z ≡ x = cc in ap (λ w. Some (First w)) same
first_stands (z ∷ xs) ys (suc n) x is = first_stands xs ys n x is

second_stands : {A B : Type 0} (xs : List A) (ys : List B) (k n : ℕ) (y : B)
    → k ≡ length xs + n → slice_get ys n ≡ Some y → slice_get (beside xs ys) k ≡ Some (Second y)
second_stands [] ys k n y at is =
    let same : k ≡ n = omega arith in
    slice_get-map Second ys k ∙ ap (option_map Second) (ap (slice_get ys) same ∙ is)
second_stands (z ∷ xs) ys zero n y at is = absurd (omega arith)
second_stands (z ∷ xs) ys (suc k) n y at is = second_stands xs ys k n y (omega arith) is

first_set : {A B : Type 0} (xs : List A) (ys : List B) (n : ℕ) (x : A) → n < length xs
    → beside (slice_set xs n x) ys ≡ slice_set (beside xs ys) n (First x)
first_set [] ys n x within = absurd (omega arith)
first_set (z ∷ xs) ys zero x within = refl
first_set (z ∷ xs) ys (suc n) x within =
    ap (λ l. First z ∷ l) (first_set xs ys n x (omega arith))

second_set : {A B : Type 0} (xs : List A) (ys : List B) (k n : ℕ) (y : B) → k ≡ length xs + n
    → beside xs (slice_set ys n y) ≡ slice_set (beside xs ys) k (Second y)
second_set {A} {B} [] ys k n y at =
    let same : n ≡ k = omega arith in
    seconds_set A B ys n y ∙ ap (λ m. slice_set (map Second ys) m (Second y)) same
second_set (z ∷ xs) ys zero n y at = absurd (omega arith)
second_set (z ∷ xs) ys (suc k) n y at =
    ap (λ l. First z ∷ l) (second_set xs ys k n y (omega arith))

-- one that is taken stands where it stood
taken_stands : {B : Type 0} (ys : List B) (k : ℕ) (y : B) → k < length (taken ys)
    → slice_get ys k ≡ Some y → slice_get (taken ys) k ≡ Some y
taken_stands ys k y near is =
    slice_get_read (taken ys) (length (taken ys)) k y refl near
    (sym (taken_at ys k y (omega (arith, near, taken_many ys))
    ∙ get_or_from_slice_get ys k y y is))

pub taken_count : {B : Type 0} (ys : List B) → length (taken ys) ≡ min (length ys) 65535
taken_count ys = omega (arith, taken_many ys)

pub below_taken : {B : Type 0} (ys : List B) (k : ℕ) → k < length (taken ys) → k < length ys
below_taken ys k near = omega (arith, near, taken_many ys)

module _ {A B : Type 0} (a : Behaviour A) (b : Behaviour B) (xs : List A) (ys : List B) (n : ℕ)
  where
    -- a stream of the one list, at its place among all
    module _ (near : n < length (taken xs)) where
      -- what is read of it is read of the stream with its number
      pub first_is : {X : Type 0} (read : Either A B → X) (o : X)
          → ((x : A) → slice_get xs n ≡ Some x → o ≡ read (First x)) → (s : Either A B)
          → slice_get (beside (taken xs) (taken ys)) n ≡ Some s → o ≡ read s
      first_is read o h s e = elim (slice_get_cases xs n).1 [
        | inl (x, _, is, _) ↦
            let here = first_stands (taken xs) (taken ys) n x (taken_stands xs n x near is) in
            let both : Some (First x) ≡ Some s = sym here ∙ e in
            h x is ∙ ap read (same_Some _ _ both)
        | inr (past, _) ↦ absurd (omega (arith, below_taken xs n near, past))
      ]

      pub first_moves : (zs : List A) (r : Result (Unit {0}) LoadFault) → Advances a n xs zs r
          → Advances (either_behaviour a b) n (beside (taken xs) (taken ys))
          (beside (taken zs) (taken ys)) r
      first_moves zs r v =
          first_at a b v.after r
          (first_stands (taken xs) (taken ys) n v.before (taken_stands xs n v.before near v.was))
          (ap (λ l. beside (taken l) (taken ys)) v.now
          ∙ ap (λ l. beside l (taken ys))
          (taken_set xs n v.after (omega (arith, near, taken_many xs)))
          ∙ first_set (taken xs) (taken ys) n v.after near) v.goes_on v.stops

    -- one of the other list
    module _ (k : ℕ) (at : n ≡ length (taken xs) + k)
        (within : n < length (beside (taken xs) (taken ys))) where
      near : k < length (taken ys)
      near = omega (arith, at, within, beside_many (taken xs) (taken ys))

      pub second_below : k < length ys
      second_below = below_taken ys k near

      pub second_is : {X : Type 0} (read : Either A B → X) (o : X)
          → ((y : B) → slice_get ys k ≡ Some y → o ≡ read (Second y)) → (s : Either A B)
          → slice_get (beside (taken xs) (taken ys)) n ≡ Some s → o ≡ read s
      second_is read o h s e = elim (slice_get_cases ys k).1 [
        | inl (y, _, is, _) ↦
            let here = second_stands (taken xs) (taken ys) n k y at (taken_stands ys k y near is) in
            let both : Some (Second y) ≡ Some s = sym here ∙ e in
            h y is ∙ ap read (same_Some _ _ both)
        | inr (past, _) ↦ absurd (omega (arith, second_below, past))
      ]

      pub second_moves : (zs : List B) (r : Result (Unit {0}) LoadFault) → Advances b k ys zs r
          → Advances (either_behaviour a b) n (beside (taken xs) (taken ys))
          (beside (taken xs) (taken zs)) r
      second_moves zs r v =
          second_at a b v.after r
          (second_stands (taken xs) (taken ys) n k v.before at
          (taken_stands ys k v.before near v.was))
          (ap (λ l. beside (taken xs) (taken l)) v.now
          ∙ ap (λ l. beside (taken xs) l)
          (taken_set ys k v.after (omega (arith, near, taken_many ys)))
          ∙ second_set (taken xs) (taken ys) n k v.after at) v.goes_on v.stops
