-- given: one option more.
use Rattle.std.proofs.Common.{arith, refl, ◌∙◌, Bor, List, [], ℕ}
use Rattle.std.proofs.lemmas.Grind.{common_steps}
use Rattle.flutejoin_line.specs.Options.{found_rows}
use Rattle.flutejoin_line.proofs.CommandWords.{times_read}
use Rattle.flutejoin_line.proofs.Options.{fits, unfit}
use Rattle.flutejoin_line.proofs.words.given.Goals as goal

-- what stands for an option past the last
abbrev none : Bor (List ℕ) × ℕ
none = (record { ref_ptr = (0, 0); now = [] }, 0)

pub loop-option-init : goal.loop-option-init
loop-option-init c = refl

-- an option that is not given as often as it is to be
pub returns-then-given-eq0 : goal.returns-then-given-eq0
returns-then-given-eq0 c =
    let rows = found_rows c.args.matches.now in
    let times = times_read c.args.matches.now _ c.get_strs.result _ c.unwrap_or-given.result
    c.get_strs.ensures c.unwrap_or-given.ensures refl in (
      c.loop-option.invariant
          ∙ unfit c.args.options.now c.loop-option.option-index none rows
          (omega (arith, c.loop-option-test.true)) (rw (← times) (grind (arith, common_steps))),
      rw (← times) (grind (arith, common_steps)),
    )

pub returns-then-given-times : goal.returns-then-given-times
returns-then-given-times c =
    let rows = found_rows c.args.matches.now in
    let times = times_read c.args.matches.now _ c.get_strs.result _ c.unwrap_or-given.result
    c.get_strs.ensures c.unwrap_or-given.ensures refl in (
      c.loop-option.invariant
          ∙ unfit c.args.options.now c.loop-option.option-index none rows
          (omega (arith, c.loop-option-test.true)) (rw (← times) (grind (arith, common_steps))),
      rw (← times) (grind (arith, common_steps)),
    )

pub loop-option-preserved : goal.loop-option-preserved
loop-option-preserved c =
    c.loop-option.invariant
    ∙ fits c.args.options.now c.loop-option.option-index none (found_rows c.args.matches.now)
    (omega (arith, c.loop-option-test.true))
    (rw (← times_read c.args.matches.now _ c.get_strs.result _ c.unwrap_or-given.result
    c.get_strs.ensures c.unwrap_or-given.ensures refl) (grind (arith, common_steps)))
