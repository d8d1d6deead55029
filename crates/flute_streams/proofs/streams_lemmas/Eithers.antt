-- Either: a stream of two kinds is advanced as its kind is (specs/Eithers).
use Rattle.flute_streams.proofs.Common.{rules, ◌≡◌, ℕ, List, ◌∷◌, ◌++◌, Some}
use Rattle.flute_streams.proofs.Common.{Result, Ok, Err}
use Rattle.flute_streams.proofs.Common.{sym, ap, OnOk, IfErr, slice_get, slice_set, Fact, LoadFault}
use Rattle.flute_streams.proofs.Common.{Either, First, Second, Behaviour, Gave, GoesOn, Stopped}
use Rattle.flute_streams.proofs.Common.{StopsAt, Advances, option_list, either_behaviour}

module _ {A B : Type 0} (a : Behaviour A) (b : Behaviour B) where
  abbrev e : Behaviour (Either A B)
  e = either_behaviour a b

  first_on : (x y : A) → GoesOn a x y → (start : Either A B) (F : List Fact)
      → e.passes start (First x) F → Gave e start (First y) (F ++ option_list (a.held x))
  first_on = search rules

  second_on : (x y : B) → GoesOn b x y → (start : Either A B) (F : List Fact)
      → e.passes start (Second x) F → Gave e start (Second y) (F ++ option_list (b.held x))
  second_on = search rules

  first_stops : (x y : A) (f : LoadFault) → StopsAt a x y f → (start : Either A B) (F : List Fact)
      → e.passes start (First x) F → Stopped e start (First y) (F ++ option_list (a.held x)) f
  first_stops = search rules

  second_stops : (x y : B) (f : LoadFault) → StopsAt b x y f → (start : Either A B) (F : List Fact)
      → e.passes start (Second x) F → Stopped e start (Second y) (F ++ option_list (b.held x)) f
  second_stops = search rules

  -- the stream at a place, of the one kind or of the other, was advanced
  pub first_at : {x : A} (y : A) {n : ℕ} {old new : List (Either A B)} (r : Result (Unit {0}) LoadFault)
      → slice_get old n ≡ Some (First x) → new ≡ slice_set old n (First y) → OnOk r (GoesOn a x y) →
      IfErr r (StopsAt a x y) → Advances e n old new r
  first_at y (Ok t) w m g s = search (rules, first_on)
  first_at y (Err f) w m g s = search (rules, first_stops)

  pub second_at : {x : B} (y : B) {n : ℕ} {old new : List (Either A B)}
      (r : Result (Unit {0}) LoadFault) → slice_get old n ≡ Some (Second x) → new ≡ slice_set old n
      (Second y) → OnOk r (GoesOn b x y) → IfErr r (StopsAt b x y) → Advances e n old new r
  second_at y (Ok t) w m g s = search (rules, second_on)
  second_at y (Err f) w m g s = search (rules, second_stops)

  pub first_advances : (x y : A) (others : List (Either A B)) (n : ℕ)
      (r : Result (Unit {0}) LoadFault) → n ≡ 0 → OnOk r (GoesOn a x y) → IfErr r (StopsAt a x y)
      → Advances e n (First x ∷ others) (First y ∷ others) r
  first_advances x y others n r h g s = first_at y r (ap (slice_get (First x ∷ others)) h)
      (sym (ap (λ k. slice_set (First x ∷ others) k (First y)) h)) g s
