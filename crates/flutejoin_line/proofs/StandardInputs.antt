-- standard_once: standard input among the inputs that are left (specs/Inputs).
use Rattle.std.proofs.Common.{◌≡◌, ◌<◌, ◌+◌, ◌∙◌, ◌∷◌, ◌&&◌, ◌||◌, ℕ, Bool, true, false, List}
use Rattle.std.proofs.Common.{Bor, Option, Some, None, option_map, ◌++◌, drop, get_or, length, map, refl}
use Rattle.std.specs.List.{list_any}
use Rattle.std.proofs.lemmas.List.{at_drop_more}
use Rattle.flutejoin_line.specs.Inputs.{is_standard, is_standard_twice, word_if}

-- it is there twice, of these and of what was before them
abbrev pub is_again : Bool → List (Bor (List ℕ)) → Bool
is_again before left =
    let words = map (λ (w : Bor (List ℕ)). w.now) left in
    (before && list_any is_standard words) || is_standard_twice words

-- the list beside them is standard input
abbrev pub is_first : Option (Bor (List ℕ)) → Bool
is_first None = false
is_first (Some list) = is_standard list.now

-- that is, the list and the inputs
pub with_list : (list : Option (Bor (List ℕ))) (inputs : List (Bor (List ℕ)))
    → is_again (is_first list) inputs
    ≡ is_standard_twice (word_if (option_map (λ (w : Bor (List ℕ)). w.now) list)
    ++ map (λ (w : Bor (List ℕ)). w.now) inputs)
with_list None inputs = refl
with_list (Some list) inputs = refl

-- one input more
module _ (inputs : List (Bor (List ℕ))) (i : ℕ) (d : Bor (List ℕ))
    (within : i < length inputs) where
  abbrev word : List ℕ
  word = (get_or inputs i d).now

  next : (before : Bool) → is_again before (drop i inputs)
      ≡ is_again before (get_or inputs i d ∷ drop (i + 1) inputs)
  next before = at_drop_more (is_again before) inputs i d within

  pub other : (before : Bool) → is_standard word ≡ false
      → is_again before (drop i inputs) ≡ is_again before (drop (i + 1) inputs)
  other before is = next before ∙ rw is refl

  pub first : is_standard word ≡ true
      → is_again false (drop i inputs) ≡ is_again true (drop (i + 1) inputs)
  first is = next false ∙ rw is refl

  pub again : is_standard word ≡ true → is_again true (drop i inputs) ≡ true
  again is = next true ∙ rw is refl
