-- Inputs that are opened by their names, one after the other (specs/Opened).
use Rattle.std.proofs.Common.{◌≡◌, ◌≢◌, ℕ, zero, suc, ◌+◌, ◌<◌, ◌≤◌, false, List, [], ◌∷◌, ◌++◌}
use Rattle.std.proofs.Common.{length, map, get_or, Option, Some, Result, Ok, Err, inl, inr, refl}
use Rattle.std.proofs.Common.{sym, ap, ◌∙◌, subst, arith}
use Rattle.std.specs.Prelude.{slice_get, option_map, is_ok, if◌then◌else◌}
use Rattle.std.specs.Result.{is_err}
use Rattle.std.proofs.lemmas.Bool.{cases_eq}
use Rattle.std.proofs.lemmas.List.{length-append, length-map}
use Rattle.std.proofs.lemmas.Option.{slice_get_within, slice_get-get_or, slice_get-map}
use Rattle.flutejoin.specs.declared.join.join_input.JoinInput.{JoinInput}
use Rattle.flutejoin.specs.declared.command_fault.CommandFault.{CommandFault}
use Rattle.flutejoin_commands.specs.Files.{Files}
use Rattle.flutejoin_commands.specs.Opened.{IsOpened, AreFirstOpened, IsNotOpened, FirstNotOpened}

some_is : {X : Type 0} (o : Option X) (x y : X) → o ≡ Some x → o ≡ Some y → x ≡ y
some_is o x y e h = cc

last_is : {X : Type 0} (xs : List X) (x y : X) → slice_get (xs ++ x ∷ []) (length xs) ≡ Some y
    → x ≡ y
last_is [] x y e = cc
last_is (z ∷ zs) x y e = last_is zs x y e

before_last : {X : Type 0} (xs : List X) (x y : X) (j : ℕ) → slice_get (xs ++ x ∷ []) j ≡ Some y
    → j ≢ length xs → slice_get xs j ≡ Some y
before_last [] x y j e n = let within = slice_get_within (x ∷ []) j y e in absurd
    (n (omega (arith, within)))
before_last (z ∷ zs) x y zero e n = e
before_last (z ∷ zs) x y (suc j) e n = before_last zs x y j e (λ same. n (omega (arith, same)))

-- the element at an index, seen through a map
pub here_is : {X : Type 0} (f : X → List ℕ) (paths : List X) (k : ℕ) (d : X) → k < length paths
    → slice_get (map f paths) k ≡ Some (f (get_or paths k d))
here_is f paths k d within = slice_get-map f paths k
    ∙ ap (option_map f) (slice_get-get_or paths k d within)

-- a push that was done
pub pushed : {X T E : Type 0} (r : Result T E) (new some other : List X) → is_err r ≡ false
    → new ≡ (if is_ok r then some else other) → new ≡ some
pushed (Ok t) new some other e h = h
pushed (Err f) new some other e h = absurd cc

module _ {R : Type 0} (files : Option Files) (unread : R → Option (List ℕ)) where
  -- none yet
  pub none_opened : (names : List (List ℕ)) → AreFirstOpened files unread 0 names []
  none_opened names = record {
    as_many = refl;
    few = omega arith;
    each = λ k name begun here is. let within = slice_get_within [] k begun is in absurd
        (omega (arith, within));
  }

  -- one more
  pub one_opened : {names : List (List ℕ)} {opened new : List (JoinInput R)}
      {k : ℕ} {name : List ℕ} (begun : JoinInput R)
      → AreFirstOpened files unread k names opened
      → slice_get names k ≡ Some name → IsOpened files unread name begun
      → new ≡ opened ++ begun ∷ [] → AreFirstOpened files unread (k + 1) names new
  one_opened {names = names} {opened = opened} {k = k} {name = name} begun h here is e = record {
    as_many = ap length e ∙ length-append opened (begun ∷ []) ∙ ap (λ n. n + 1) h.as_many;
    few = let within = slice_get_within names k name here in omega (arith, within);
    each = λ j n b at was.
        let there = sym (ap (λ l. slice_get l j) e) ∙ was in
        elim (cases_eq j k) [
          | inl same ↦
              let P : ℕ → Type 0 = λ i. slice_get (opened ++ begun ∷ []) i ≡ Some b in
              let Q : ℕ → Type 0 = λ i. slice_get names i ≡ Some n in
              subst (λ x. IsOpened files unread n x)
              (last_is opened begun b (subst P (same ∙ sym h.as_many) there))
              (subst (λ m. IsOpened files unread m begun)
              (some_is (slice_get names k) name n here (subst Q same at)) is)
          | inr differs ↦ h.each j n b at
              (before_last opened begun b j there (λ same. differs (same ∙ h.as_many)))
        ];
  }

  -- all of them
  pub all_opened : {X : Type 0} (f : X → List ℕ) (paths : List X) (opened : List (JoinInput R))
      (k : ℕ) → AreFirstOpened files unread k (map f paths) opened → length paths ≤ k
      → AreFirstOpened files unread (length (map f paths)) (map f paths) opened
  all_opened f paths opened k h past = let few = h.few in let same = length-map paths f in record {
    as_many = omega (arith, h.as_many, few, same, past);
    few = omega arith;
    each = h.each;
  }

  -- the next was not opened, of the same files
  pub next_not_opened : {files' : Option Files} {names : List (List ℕ)}
      {opened : List (JoinInput R)} {k : ℕ} {name : List ℕ} {fault : CommandFault}
      {old new : ℕ} → files' ≡ files → AreFirstOpened files unread k names opened
      → slice_get names k ≡ Some name
      → IsNotOpened files' unread (k + 1) name fault → new ≡ old + (k + 1)
      → FirstNotOpened files unread names old new fault
  next_not_opened {opened = opened} {k = k} {name = name} {fault = fault} same h here why
      asked = record {
        before = k;
        opened = opened;
        are_opened = h;
        name = name;
        here = here;
        why = subst (λ f. IsNotOpened f unread (k + 1) name fault) same why;
        asked = asked;
      }
