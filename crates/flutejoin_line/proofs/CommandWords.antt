-- Words of the command line, and what they are looked up as (specs/Options).
use Rattle.std.proofs.Common.{◌≡◌, ◌<◌, ◌≤◌, ◌^◌, ℕ, Bool, true, false, ◌&&◌, List, [], length, map}
use Rattle.std.proofs.Common.{Option, Some, None, option_map, unwrap_or, nat_lt, nat_le, Result, Ok}
use Rattle.std.proofs.Common.{Err, Bor, refl, sym, ap, ap₂, ◌∙◌, rules, true≢false}
use Rattle.std.proofs.Common.{◌≢◌, ◌∷◌, ◌++◌, get_or, inl, inr}
use Rattle.std.specs.Prelude.{Box}
use Rattle.std.specs.Box.{box_value}
use Rattle.std.specs.Char.{is_ascii_digit}
use Rattle.std.specs.List.{list_all}
use Rattle.std.specs.Result.{result_ok}
use Rattle.std.specs.Str.Parse.{ParsesUnsigned, digits_value}
use Rattle.std.proofs.lemmas.Bool.{cases_Bool, le-leb, lt-leb, lt-ltb, ltb-true}
use Rattle.std.proofs.lemmas.Bool.Decides.{Decides-eqb}
use Rattle.std.proofs.Math.Bool.{and-false}
use Rattle.std.proofs.lemmas.List.{length-map}
use Rattle.std.proofs.lemmas.Slice.Eq.{ends_is}
use Rattle.std.proofs.lemmas.Str.Parse.{IsNumeralModel, numerals_by_value, parse_plain}
use Rattle.clap.specs.Matches.{found_of, matched_of, raw_values}
use Rattle.clap.specs.Simple.{subcommand_rows}
use Rattle.clap.specs.Walk.{Row, Text, rows_of}
use Rattle.clap.specs.declared.parser.matches.ArgMatches.{ArgMatches}
use Rattle.clap.specs.declared.parser.matches.ArgMatches.TheViews.{out-SubCommand}
use Rattle.clap.specs.declared.parser.matches.SubCommand.{SubCommand}
use Rattle.clap.proofs.WalkLemmas.{raw_values-rows}
use Rattle.flutejoin_line.specs.Options.{found_rows, is_numeral, number_in, times_of, words}
use Rattle.flutejoin_line.specs.Sizes.{ends_in}

-- the value of `unwrap_or` for an option's word: the word, or the default if there is none
pub word_or : (found : Option (Bor (List ℕ))) (default : Bor (List ℕ)) →
    (unwrap_or found default).now ≡ unwrap_or (option_map (λ (w : Bor (List ℕ)). w.now) found)
    default.now
word_or (Some w) default = refl
word_or None default = refl

words_or : (found : Option (Bor (List (Bor (List ℕ))))) (default : Bor (List (Bor (List ℕ)))) → map
    (λ (w : Bor (List ℕ)). w.now) (unwrap_or found default).now ≡ unwrap_or
    (option_map (λ (ws : Bor (List (Bor (List ℕ)))). map (λ (w : Bor (List ℕ)). w.now) ws.now)
    found) (map (λ (w : Bor (List ℕ)). w.now) default.now)
words_or (Some w) default = refl
words_or None default = refl

pub words_read : (matches : ArgMatches) (id : List ℕ) (found : Option (Bor (List (Bor (List ℕ)))))
    (default read : Bor (List (Bor (List ℕ))))
    → option_map (λ (ws : Bor (List (Bor (List ℕ)))). map (λ (w : Bor (List ℕ)). w.now) ws.now)
    found ≡ option_map raw_values (matched_of (found_of matches) id)
    → read ≡ unwrap_or found default → map (λ (w : Bor (List ℕ)). w.now) default.now ≡ [] → map
    (λ (w : Bor (List ℕ)). w.now) read.now ≡ words id (found_rows matches)
words_read matches id found default read are is none =
    ap (λ (b : Bor (List (Bor (List ℕ)))). map (λ (w : Bor (List ℕ)). w.now) b.now) is
    ∙ words_or found default
    ∙ ap₂ (λ (o : Option (List (List ℕ))) (d : List (List ℕ)). unwrap_or o d)
    (are ∙ raw_values-rows (found_of matches) id) none

-- how many there are
pub times_read : (matches : ArgMatches) (id : List ℕ) (found : Option (Bor (List (Bor (List ℕ)))))
    (default read : Bor (List (Bor (List ℕ))))
    → option_map (λ (ws : Bor (List (Bor (List ℕ)))). map (λ (w : Bor (List ℕ)). w.now) ws.now)
    found ≡ option_map raw_values (matched_of (found_of matches) id)
    → read ≡ unwrap_or found default → map (λ (w : Bor (List ℕ)). w.now) default.now ≡ [] → length
    read.now ≡ times_of id (found_rows matches)
times_read matches id found default read are is none = sym
    (length-map read.now (λ (w : Bor (List ℕ)). w.now)) ∙ ap length
    (words_read matches id found default read are is none)

-- digits as `parse` reads them
own : IsNumeralModel (λ ds. list_all is_ascii_digit ds ≡ true) (digits_value 10)
own = numerals_by_value _ (search rules)

both : (a b : Bool) → (a && b) ≡ true → (a ≡ true) × (b ≡ true)
both true b e = (refl, e)
both false b e = absurd (true≢false (sym e))

-- a text that begins with no plus is read as its digits say
pub number_read : {E : Type 0} (text : List ℕ) (r : Result ℕ E) → ParsesUnsigned 128 10 text r →
    length text ≤ 39 → get_or text 0 0 ≢ 43 → result_ok r ≡ number_in text
unfolding number_in
number_read {E} text (Ok n) h short none =
    let read : ((list_all is_ascii_digit text ≡ true) × (0 < length text)
    × (digits_value 10 text < 2 ^ 128)) × (n ≡ digits_value 10 text)
    = parse_plain own {E = E} 128 text (Ok n) h none in
    rw (
      lt-ltb 0 (length text) read.0.1,
      le-leb (length text) 39 short,
      read.0.0,
      lt-ltb
          (digits_value 10 text) (2 ^ 128) read.0.2,
    ) (ap Some read.1)
number_read {E} text (Err e) h short none = go (is_numeral text && nat_lt (digits_value 10 text)
    (2 ^ 128)) refl
  where
    go : (b : Bool) → (is_numeral text && nat_lt (digits_value 10 text) (2 ^ 128)) ≡ b → None ≡
        number_in text
    go false is = rw is refl
    go true is =
        let outer = both _ _ is in
        let inner = both _ _ outer.0 in
        let digits = both _ _ inner.1 in
        absurd (parse_plain own {E = E} 128 text (Err e) h none
        (digits.1, ltb-true _ _ inner.0, ltb-true _ _ outer.1))

pub long_text : (text : List ℕ) → 39 < length text → is_numeral text ≡ false
long_text text long = rw (lt-leb (length text) 39 long) (and-false _)

not_digits : (text : List ℕ) → list_all is_ascii_digit text ≡ false
    → is_numeral text ≡ false
not_digits text is = rw (is, and-false (nat_le (length text) 39)) (and-false _)

pub begun_with_plus : (text : List ℕ) → get_or text 0 0 ≡ 43 → is_numeral text ≡ false
begun_with_plus [] is = refl
begun_with_plus (c ∷ cs) is =
    not_digits (c ∷ cs) (ap (λ x. is_ascii_digit x && list_all is_ascii_digit cs) is)

-- no other text is read
pub no_number : (text : List ℕ) → is_numeral text ≡ false → None ≡ number_in text
unfolding number_in
no_number text is = rw is refl

-- a text that does not end in a letter has not that suffix
pub not_ended : (letter : ℕ) (text : List ℕ)
    → ((front : List ℕ) → text ≢ front ++ (letter ∷ []))
    → ends_in (letter ∷ []) text ≡ false
not_ended letter text none = elim (cases_Bool (ends_in (letter ∷ []) text)) [
  | inl t ↦ absurd (none _ ((ends_is Decides-eqb text (letter ∷ []) _ refl).0 t))
  | inr f ↦ f
]

-- the command that was found, by its name and what was found for its arguments
pub command_found : {Z : Type 0} (found : Option (Box SubCommand Z)) (name : Text)
    (rows : List Row)
    → Some name ≡ option_map (λ b. (out-SubCommand (box_value b)).name.now) found
    → Some rows ≡ option_map (λ p. p.1) (subcommand_rows found)
    → Some (name, rows) ≡ subcommand_rows found
command_found None name rows n r = absurd cc
command_found (Some found) name rows n r =
    let e : name ≡ (out-SubCommand (box_value found)).name.now = cc in
    let f : rows ≡ rows_of (found_of (out-SubCommand (box_value found)).matches) = cc in
    λ i. Some (e i, f i)
