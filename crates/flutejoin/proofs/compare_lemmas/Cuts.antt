-- Lists that are cut into the part of each session (specs/Parts).
use Rattle.std.proofs.Common.{rules}
use Rattle.std.proofs.Common.{◌≡◌, Bool, true, false, List, [], ◌∷◌, ◌++◌, if◌then◌else◌, refl, sym}
use Rattle.std.proofs.Common.{ap, ◌∙◌, subst}
use Rattle.std.specs.List.{AllByRecursion}
use Rattle.flute_parts.specs.Session.{Session}
use Rattle.flute_parts.specs.Order.{same_session}
use Rattle.flutejoin.specs.Parts.{before_parts, parts_of}

same_true : (a b : Session) → a ≡ b → same_session a b ≡ true
same_true a b e = search rules

other_false : (a b : Session) → (a ≡ b → ⊥) → same_session a b ≡ false
other_false a b h = search rules

module _ {T : Type 0} (session_in : T → Session) where
  abbrev pub AreOf : Session → List T → Type 0
  AreOf s ts = AllByRecursion (λ (t : T). session_in t ≡ s) ts

  abbrev parts : List T → List (T × List T)
  parts = parts_of session_in

  abbrev before : T → List (T × List T) → List (T × List T)
  before = before_parts session_in

  pub of_more : (s : Session) (ts : List T) (t : T) → AreOf s ts → session_in t ≡ s
      → AreOf s (ts ++ t ∷ [])
  of_more s [] t a e = (e, tt)
  of_more s (u ∷ us) t a e = (a.0, of_more s us t a.1 e)

  -- those of one session are one part
  pub one_part : (t : T) (ts : List T) → AreOf (session_in t) ts → parts (t ∷ ts) ≡ (t, ts) ∷ []
  unfolding parts_of
  one_part t [] a = refl
  one_part t (u ∷ us) a =
      let of_u : (xs : List T) → AreOf (session_in t) xs → AreOf (session_in u) xs = λ xs. subst
      (λ s. AreOf s xs) (sym a.0) in
      let rest = one_part u us (of_u us a.1) in
      let same = same_true _ _ (sym a.0) in
      ap (before t) rest ∙ ap (λ b. if b then (t, u ∷ us) ∷ [] else ((t, []) ∷ (u, us) ∷ [])) same

  -- the parts of a list begin with its first
  pub record Begins (t : T) (ts : List T) : Type 0 where
    pub others : List T
    pub rest : List (T × List T)
    pub are : parts (t ∷ ts) ≡ (t, others) ∷ rest

  in_front : (t : T) (ps : List (T × List T)) → (others : List T) × ((rest : List (T × List T))
      × (before t ps ≡ (t, others) ∷ rest))
  in_front t [] = ([], ([], refl))
  in_front t ((u, us) ∷ ps) = by _
    where
      by : (b : Bool) → (others : List T) × ((rest : List (T × List T))
          × ((if b then (t, u ∷ us) ∷ ps else ((t, []) ∷ (u, us) ∷ ps)) ≡ (t, others) ∷ rest))
      by true = (u ∷ us, (ps, refl))
      by false = ([], ((u, us) ∷ ps, refl))

  begins : (t : T) (ts : List T) → Begins t ts
  unfolding parts_of
  begins t ts =
      let h = in_front t _ in
      record { others = h.0; rest = h.1.0; are = h.1.1 }

  -- what follows a part stays as it is
  before_more : (t : T) (p : T × List T) (ps more : List (T × List T))
      → before t ((p ∷ ps) ++ more) ≡ before t (p ∷ ps) ++ more
  before_more t (u, us) ps more = by _
    where
      by : (b : Bool) → (if b then (t, u ∷ us) ∷ (ps ++ more)
          else ((t, []) ∷ (u, us) ∷ (ps ++ more)))
          ≡ (if b then (t, u ∷ us) ∷ ps else ((t, []) ∷ (u, us) ∷ ps)) ++ more
      by true = refl
      by false = refl

  -- one of another session begins a part
  next_front : (t next : T) (more : List T) → (session_in next ≡ session_in t → ⊥)
      → before t (parts (next ∷ more)) ≡ (t, []) ∷ parts (next ∷ more)
  next_front t next more h =
      let b = begins _ _ in
      let apart = other_false _ _ (λ e. h (sym e)) in
      ap (before t) b.are ∙ ap
      (λ c. if c then (t, next ∷ b.others) ∷ b.rest else ((t, []) ∷ (next, b.others) ∷ b.rest))
      apart ∙ ap (λ ps. (t, []) ∷ ps) (sym b.are)

  -- more in front of a list whose first part stays
  in_front_of : (u t : T) (ts more : List T) → parts ((t ∷ ts) ++ more) ≡ parts (t ∷ ts) ++ parts
      more → parts (u ∷ ((t ∷ ts) ++ more)) ≡ parts (u ∷ (t ∷ ts)) ++ parts more
  unfolding parts_of
  in_front_of u t ts more e =
      let b = begins t ts in
      ap (before u) (e ∙ ap (λ ps. ps ++ parts more) b.are) ∙ before_more u _ _ _ ∙ ap
      (λ ps. before u ps ++ parts more) (sym b.are)

  next_part : (s : Session) (t : T) (ts : List T) (next : T) (more : List T) → session_in t ≡ s
      → AreOf s ts → (session_in next ≡ s → ⊥)
      → parts ((t ∷ ts) ++ next ∷ more) ≡ parts (t ∷ ts) ++ parts (next ∷ more)
  unfolding parts_of
  next_part s t [] next more e a h = next_front t _ more (λ same. h (same ∙ e))
  next_part s t (u ∷ us) next more e a h =
      in_front_of t u us (next ∷ more) (next_part s u us _ more a.0 a.1 h)

  -- and those before stay as they are
  pub apart_from : (earlier : List T) (t : T) (ts : List T) (next : T) (more : List T) → AreOf
      (session_in t) ts → (session_in next ≡ session_in t → ⊥) → parts
      ((earlier ++ t ∷ ts) ++ next ∷ more) ≡ parts (earlier ++ t ∷ ts) ++ parts (next ∷ more)
  apart_from [] t ts next more a h = next_part _ t _ _ _ refl a h
  apart_from (u ∷ []) t ts next more a h = in_front_of u t _ _ (apart_from [] t _ _ _ a h)
  apart_from (u ∷ v ∷ earlier) t ts next more a h = in_front_of u v _ _
      (apart_from (v ∷ earlier) t _ _ _ a h)
