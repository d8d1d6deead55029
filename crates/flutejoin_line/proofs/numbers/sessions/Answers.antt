use Rattle.std.proofs.Common.{arith, refl}
use Rattle.std.proofs.lemmas.Grind.{common_steps}
use Rattle.flutejoin_line.proofs.CommandWords.{words_read}
use Rattle.flutejoin_line.proofs.Options.{handed_on}
use Rattle.flutejoin_line.proofs.SessionLists.{next_number, wrong_session}
use Rattle.flutejoin_line.proofs.numbers.sessions.Goals as goal

pub returns-in_err-number : goal.returns-in_err-number
returns-in_err-number c =
    let are = words_read c.args.matches.now _ c.get_strs.result _ c.unwrap_or-texts.result
    c.get_strs.ensures c.unwrap_or-texts.ensures refl in
    handed_on c.from_residual.result c.in_err-number.field-0.0 _ _ c.from_residual.ensures.1 (
      c.in_err-number.ensures.0,
      rw (← are) (wrong_session c.unwrap_or-texts.result.now c.loop-text.text-index _
          (omega arith) c.in_err-number.ensures.1),
    )

pub returns-then-not-add : goal.returns-then-not-add
returns-then-not-add c =
    let are = words_read c.args.matches.now _ c.get_strs.result _ c.unwrap_or-texts.result
    c.get_strs.ensures c.unwrap_or-texts.ensures refl in
    (refl, rw (← are) (grind (arith, common_steps)))

pub loop-text-preserved : goal.loop-text-preserved
loop-text-preserved c =
    next_number c.unwrap_or-texts.result.now c.loop-text.text-index _ _ (omega arith)
    c.loop-text.invariant c.in_ok-number.ensures
    (grind (arith, c.add.ensures.added))

pub returns : goal.returns
returns c =
    let are = words_read c.args.matches.now _ c.get_strs.result _ c.unwrap_or-texts.result
    c.get_strs.ensures c.unwrap_or-texts.ensures refl in
    rw (← are) (grind (arith, common_steps))
