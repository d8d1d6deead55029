use Rattle.std.proofs.Common.{rules}
use Rattle.std.proofs.Common.{◌≡◌, ap, arith, refl}
use Rattle.std.specs.Prelude.{sum_by}
use Rattle.std.proofs.lemmas.List.{take_all}
use Rattle.std.proofs.lemmas.List.Sums.{sum_by_more}
use Rattle.flutejoin.specs.InputStreams.{passed_over}
use Rattle.flutejoin.specs.declared.join.join_input.JoinInput.{JoinInput}
use Rattle.flutejoin.specs.declared.join.join_input.JoinInput.TheVariants.{Journal, Datagrams, Unknown}
use Rattle.flutejoin.proofs.join.others_of.Goals as goal
use Rattle.flutejoin.proofs.join.others_of.Goals.{in-Journal, in_default}

-- what is no journal passes nothing over
none_passed : {R : Type 0} (input : JoinInput R) → ((journal : _) → input ≡ Journal journal → ⊥) →
    passed_over input ≡ 0
none_passed x0 x1 = search rules

pub loop-input-preserved : goal.loop-input-preserved
loop-input-preserved g c =
    let more = sum_by_more passed_over c.args.inputs.now c.loop-input.input-index
    c.input-item.result c.loop-input-test.true in
    let is = ap passed_over c.input-item.is in
    elim c.match-input.branch [
      | in-Journal w ↦ let here = ap passed_over w.in-Journal.is in omega (
        arith,
        more,
        is,
        here,
        c.loop-input.invariant,
        w.others-is,
        w.saturating_add-others.ensures,
      )
      | in_default w ↦ let none = none_passed c.input-item.result w.in_default.not-Journal in omega
          (arith, more, is, none, c.loop-input.invariant, w.others-is)
    ]

pub returns : goal.returns
returns g c =
    let all = ap (sum_by passed_over) (take_all c.loop-input.input-index c.args.inputs.now
    (omega (arith, c.loop-input-test.false))) in
    omega (arith, all, c.loop-input.invariant)
