-- Options of the command line, and their faults (specs/Options).
use Rattle.std.proofs.Common.{◌≡◌, ◌<◌, ◌+◌, ℕ, Bool, true, false, List, Option, Some}
use Rattle.std.proofs.Common.{Result, Ok, Err, Bor, length, drop, get_or, ap, ◌∙◌}
use Rattle.std.proofs.Common.{if◌then◌else◌, ◌∷◌, [], inl, refl, sym, true≢false}
use Rattle.std.proofs.lemmas.Bool.{lt-ltb}
use Rattle.std.proofs.lemmas.List.{at_drop_more}
use Rattle.std.specs.Prelude.{◌==◌, ⊤, IsErrAnd, MatchResult}
use Rattle.clap.specs.Walk.{Row}
use Rattle.flutejoin_line.specs.Options.{IsFormFault, IsNumber, all_form}
use Rattle.flutejoin_line.specs.Options.{first_unfit, form_of, has_number, is_below, times_of}
use Rattle.flutejoin_line.specs.LineFaults.{IsAllFault}
use Rattle.flutejoin.specs.declared.command_fault.CommandFault.{CommandFault}
use Rattle.flutejoin.specs.declared.command_fault.CommandFault.TheVariants.{BadOption}
use Rattle.flutejoin.specs.declared.command_fault.CommandFault.TheVariants.{MissingOption}

pub number_there : (option : List ℕ) (limit : ℕ) (rows : List Row) (n : ℕ)
    → IsNumber option limit rows n → has_number option limit rows ≡ true
number_there option limit rows n is = ap (is_below limit) is.0 ∙ lt-ltb n limit is.1

-- what `?` hands on
pub handed_on : {A : Type 0} (read : Result A CommandFault) (fault : CommandFault) (P : A
    → Type 0) (Q : CommandFault → Type 0) → IsErrAnd read (λ e. e ≡ fault) → Q fault
    → MatchResult read P Q
handed_on (Err e) fault P Q is told = rw is told
handed_on (Ok x) fault P Q is told = absurd is

-- none of the options is to be given
abbrev AreUnused : List (List ℕ × ℕ) → Type 0
AreUnused [] = ⊤
AreUnused (option ∷ options) = (option.1 ≡ 0) × AreUnused options

-- so the first that does not fit is given
unused : (options : List (List ℕ × ℕ)) (rows : List Row) {name : List ℕ}
    → AreUnused options → first_unfit options rows ≡ Some name
    → times_of name rows ≡ 0 → ⊥
unused [] rows zeros e none = absurd cc
unused (option ∷ options) rows {name = name} zeros e none =
    go (λ later. unused options rows zeros.1 later none) (times_of option.0 rows == option.1) refl e
  where
    go : (first_unfit options rows ≡ Some name → ⊥) → (b : Bool)
        → (times_of option.0 rows == option.1) ≡ b
        → (if b then first_unfit options rows else Some option.0) ≡ Some name → ⊥
    go none_later true is e = none_later e
    go none_later false is e =
        let same : option.0 ≡ name = cc in
        let zero : (times_of option.0 rows == option.1) ≡ true = rw (same, none, zeros.0) refl in
        absurd (true≢false (sym zero ∙ is))

pub not_for_all : (rows : List Row) (fault : CommandFault)
    → IsFormFault all_form (λ _. ⊥) rows fault → IsAllFault rows fault
not_for_all rows (BadOption name) h = inl h.0
not_for_all rows (MissingOption name) h = absurd (unused all_form rows (refl, (refl, tt)) h.0 h.1)
not_for_all rows _ h = absurd h.1

-- the options of a form from one on: that one is given as often as it is to be, or not
module _ (options : List (Bor (List ℕ) × ℕ)) (i : ℕ) (d : Bor (List ℕ) × ℕ)
    (rows : List Row) (within : i < length options) where
  abbrev name : List ℕ
  name = (get_or options i d).0.now

  abbrev as_often : Bool
  as_often = times_of name rows == (get_or options i d).1

  abbrev rest : Option (List ℕ)
  rest = first_unfit (form_of (drop (i + 1) options)) rows

  next : first_unfit (form_of (drop i options)) rows ≡ (if as_often then rest else Some name)
  next = at_drop_more (λ left. first_unfit (form_of left) rows) options i d within

  pub fits : (times_of (get_or options i d).0.now rows == (get_or options i d).1) ≡ true
      → first_unfit (form_of (drop i options)) rows
      ≡ first_unfit (form_of (drop (i + 1) options)) rows
  fits is = next ∙ ap (λ b. if b then rest else Some name) is

  pub unfit : (times_of (get_or options i d).0.now rows == (get_or options i d).1) ≡ false
      → first_unfit (form_of (drop i options)) rows ≡ Some (get_or options i d).0.now
  unfit is = next ∙ ap (λ b. if b then rest else Some name) is
