-- plain_object_text: the words of a status, and then of the conflicts that no gap has (specs/Styles).
use Rattle.std.proofs.Common.{◌≡◌, ◌++◌, ◌∙◌, ℕ, List, true, false, append_assoc, refl, rules}
use Rattle.std.specs.Prelude.{codes, decimal, nat_lt}
use Rattle.std.proofs.lemmas.List.{append_cancel_right}
use Rattle.flute_parts.specs.declared.key.Key.{Key}
use Rattle.flute_store.specs.declared.status.Status.{Status}
use Rattle.flutejoin.specs.Lines.{key_words, line, status_line, status_words, unplaced_line}
use Rattle.flutejoin.specs.Styles.{object_line_in}
use Rattle.flutejoin.specs.declared.lines.form.Form.TheVariants.{Plain}
use Rattle.flutejoin.proofs.gaps.held_lines.plain_object_text.Goals as goal

words_of : (text : List ℕ) (key : Key) (status : Status) → line text ≡ status_line key status
    → text ≡ key_words key ++ codes " " ++ status_words status
unfolding status_line
words_of text key status e =
    append_cancel_right text (key_words key ++ codes " " ++ status_words status) (codes "\n") e

unplaced_told : (text : List ℕ) (key : Key) (status : Status) (n : ℕ)
    → line text ≡ status_line key status
    → line ((text ++ codes " unplaced conflicting ") ++ decimal n) ≡ unplaced_line key status n
unfolding unplaced_line
unplaced_told text key status n e = rw (words_of _ _ _ e) (simp append_assoc refl)

told : (key : Key) (status : Status) (n : ℕ) → nat_lt 0 n ≡ true
    → unplaced_line key status n ≡ object_line_in Plain key status n
unfolding object_line_in
told key status n e = search rules

not_told : (key : Key) (status : Status) (n : ℕ) → nat_lt 0 n ≡ false
    → status_line key status ≡ object_line_in Plain key status n
unfolding object_line_in
not_told key status n e = search rules

pub returns-then-unplaced-gt0-clause-line : goal.returns-then-unplaced-gt0-clause-line
returns-then-unplaced-gt0-clause-line c =
    let key = c.args.key.now in
    let status = c.args.status in
    let n = c.args.unplaced in
    let some : nat_lt 0 n ≡ true = search rules in
    rw (c.push_number.ensures.text, c.push.ensures.text)
    (unplaced_told _ _ _ n c.status_text-text.ensures.line ∙ told _ _ n some)

pub returns-else-unplaced-gt0-clause-line : goal.returns-else-unplaced-gt0-clause-line
returns-else-unplaced-gt0-clause-line c = search (rules, not_told)
