use Rattle.std.proofs.Common.{arith, ap, refl, sym, ◌∙◌, lit<, true≢false}
use Rattle.std.proofs.lemmas.Bool.{le-ltb}
use Rattle.std.proofs.lemmas.Str.Pattern.{starts_char}
use Rattle.std.specs.Result.{result_ok}
use Rattle.flutejoin_line.specs.Options.{is_below}
use Rattle.flutejoin_line.proofs.CommandWords.{begun_with_plus, long_text, no_number, number_read}
use Rattle.flutejoin_line.proofs.numbers.decimal_below.Goals.{then-text-gt39-via-then-text-gt39}
use Rattle.flutejoin_line.proofs.numbers.decimal_below.Goals.{
  then-text-gt39-via-else-text-gt39+then-starts_with,
}
use Rattle.flutejoin_line.proofs.numbers.decimal_below.Goals.{
  in_default-via-in-Ok+else-number-limit,
}
use Rattle.flutejoin_line.proofs.numbers.decimal_below.Goals.{in_default-via-in_default}
use Rattle.flutejoin_line.proofs.numbers.decimal_below.Goals as goal

pub returns-then-text-gt39 : goal.returns-then-text-gt39
returns-then-text-gt39 c = (
  refl,
  ap (is_below c.args.limit) (sym (no_number c.args.text.now
      (elim c.then-text-gt39.branch [
        | then-text-gt39-via-then-text-gt39 w ↦ long_text c.args.text.now (omega arith)
        | then-text-gt39-via-else-text-gt39+then-starts_with w ↦
            begun_with_plus c.args.text.now
            ((starts_char 43 c.args.text.now w.starts_with.result w.starts_with.ensures.cases
            (lit< tt) (lit< tt)).0 w.if-starts_with.true)
      ]))),
)

pub returns-in-Ok : goal.returns-in-Ok
returns-in-Ok c =
    let plain = starts_char 43 c.args.text.now c.starts_with.result c.starts_with.ensures.cases
    (lit< tt) (lit< tt) in
    let read = number_read c.args.text.now c.parse.result c.parse.ensures.value.0 (omega arith)
    (λ begun. true≢false (sym (plain.1 begun) ∙ c.if-starts_with.false)) in
    (sym read ∙ ap result_ok c.in-Ok.is, c.if-number-limit.true)

pub returns-in_default : goal.returns-in_default
returns-in_default c =
    let plain = starts_char 43 c.args.text.now c.starts_with.result c.starts_with.ensures.cases
    (lit< tt) (lit< tt) in
    let read = number_read c.args.text.now c.parse.result c.parse.ensures.value.0 (omega arith)
    (λ begun. true≢false (sym (plain.1 begun) ∙ c.if-starts_with.false)) in (
      refl,
      rw (← read) (elim c.in_default.branch [
        | in_default-via-in-Ok+else-number-limit w ↦
            rw w.in-Ok.is (le-ltb w.in-Ok.number c.args.limit w.if-number-limit.false)
        | in_default-via-in_default w ↦ rw w.in_default.is refl
      ]),
    )
