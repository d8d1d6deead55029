-- sessions: the sessions that several words name (specs/Options: HasSessions).
use Rattle.std.proofs.Common.{◌≡◌, ◌<◌, ◌^◌, ◌+◌, ℕ, Bool, false, List, [], ◌∷◌, ◌++◌, length}
use Rattle.std.proofs.Common.{take, map, get_or, Some, Bor, sym, ap₂, ◌∙◌}
use Rattle.std.specs.List.{list_all}
use Rattle.std.proofs.Math.Bool.{and-false}
use Rattle.std.proofs.lemmas.List.{map-append, take_more}
use Rattle.std.proofs.lemmas.List.Elements.{All-push}
use Rattle.std.proofs.lemmas.List.Folds.{list_all-map, list_all_at}
use Rattle.flutejoin_line.specs.Options.{AreNumbers, are_sessions, is_below, number_in}

abbrev pub text_of : Bor (List ℕ) → List ℕ
text_of text = text.now

more_numbers : (limit : ℕ) (texts : List (List ℕ)) (numbers : List ℕ) (text : List ℕ) (n : ℕ)
    → AreNumbers limit texts numbers → number_in text ≡ Some n → n < limit
    → AreNumbers limit (texts ++ text ∷ []) (numbers ++ n ∷ [])
more_numbers limit texts numbers text n are is low = (
  map-append number_in texts (text ∷ []) ∙ ap₂ (λ xs x. xs ++ x ∷ []) are.0 is
      ∙ sym (map-append Some numbers (n ∷ [])),
  All-push (λ n. n < limit) numbers n are.1 low,
)

-- one word more
pub next_number : {limit : ℕ} (texts : List (Bor (List ℕ))) (i : ℕ) (d : Bor (List ℕ))
    (old : List ℕ) {new : List ℕ} {n : ℕ} → i < length texts
    → AreNumbers limit (map text_of (take i texts)) old
    → (number_in (get_or texts i d).now ≡ Some n) × (n < limit) → new ≡ old ++ n ∷ []
    → AreNumbers limit (map text_of (take (i + 1) texts)) new
next_number {limit = limit} texts i d old {n = n} lt are is added =
    rw (take_more texts i d lt, map-append text_of (take i texts) (get_or texts i d ∷ []), added)
    (more_numbers limit (map text_of (take i texts)) old (get_or texts i d).now n are is.0 is.1)

-- a word that is no number
pub wrong_session : (texts : List (Bor (List ℕ))) (i : ℕ) (d : Bor (List ℕ)) → i < length texts
    → is_below (2 ^ 48) (number_in (get_or texts i d).now) ≡ false
    → are_sessions (map text_of texts) ≡ false
wrong_session texts i d lt is =
    let p : List ℕ → Bool = λ t. is_below (2 ^ 48) (number_in t) in
    let some : list_all p (map text_of texts) ≡ false = list_all-map p text_of texts
    ∙ list_all_at (λ t. p t.now) texts i d lt is in
    rw some (and-false _)
