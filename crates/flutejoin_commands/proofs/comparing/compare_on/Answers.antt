-- compare_on: what compare_from wrote and the report took, or why not.
use Rattle.std.proofs.Common.{◌≡◌, ◌⊎◌, List, ℕ, Option, Result, Err, IfErr, inl, inr, ap, sym, ◌∙◌}
use Rattle.std.proofs.Common.{subst}
use Rattle.std.specs.Io.KnownBytes.{Appends}
use Rattle.flute_parts.specs.Devices.{AppendsPart}
use Rattle.flute_streams.specs.declared.merge.sides.Row.{Row}
use Rattle.flutejoin.specs.Compare.{ComparesJournals}
use Rattle.flutejoin.specs.CompareLines.{are_same, compared, passes_check}
use Rattle.flutejoin.specs.declared.command_fault.CommandFault.{CommandFault}
use Rattle.flutejoin.specs.declared.command_fault.CommandFault.TheVariants.{CannotWrite}
use Rattle.flutejoin_commands.proofs.Checks.{of_any_fault}
use Rattle.flutejoin_commands.proofs.Comparisons.{and_so, checked, if_checked}
use Rattle.flutejoin_commands.proofs.comparing.compare_on.Goals as goal

pub returns-in_ok-hand_on-in-Ok-clause-compared : goal.returns-in_ok-hand_on-in-Ok-clause-compared
returns-in_ok-hand_on-in-Ok-clause-compared g c = λ e.
    let a = c.args in
    let style = a.style in
    let u = g.Q.Source.unread a.first.now.stream.source in
    let v = g.R.Source.unread a.second.now.stream.source in
    let old = g.P.Sink.written a.report.now in
    let new = g.P.Sink.written c.hand_on.new.report in
    let same = c.in-Ok.same in
    let all = subst (λ (x : Option (List ℕ)). ComparesJournals a.first.now.choice
    a.second.now.choice u v (λ rows. Appends old x (compared style rows) × (same ≡ are_same rows)))
    (sym c.hand_on.ensures.same) (c.in-Ok.ensures.printed e) in
    if_checked (λ p. ComparesJournals a.first.now.choice a.second.now.choice u v
    (λ rows. Appends old new (compared style rows) × (passes_check style rows ≡ p)))
    _ c.checked.result c.checked.ensures.passes (λ p is. checked style same p old new is all)

pub returns-in_err-hand_on-in-Ok-clause-part : goal.returns-in_err-hand_on-in-Ok-clause-part
returns-in_err-hand_on-in-Ok-clause-part g c = λ e.
    let a = c.args in
    let style = a.style in
    let u = g.Q.Source.unread a.first.now.stream.source in
    let v = g.R.Source.unread a.second.now.stream.source in
    let old = g.P.Sink.written a.report.now in
    let new = g.P.Sink.written c.hand_on.new.report in
    let same = c.in-Ok.same in
    let all = subst (λ (x : Option (List ℕ)). ComparesJournals a.first.now.choice
    a.second.now.choice u v (λ rows. Appends old x (compared style rows) × (same ≡ are_same rows)))
    (sym c.hand_on.ensures.same) (c.in-Ok.ensures.printed e) in
    let P : List Row → Type 0 =
    λ rows. Appends old new (compared style rows) × (same ≡ are_same rows) in
    let Q : List Row → Type 0 =
    λ rows. AppendsPart old new (compared style rows) ⊎ Appends old new (compared style rows) in
    of_any_fault (λ (fault : CommandFault). fault ≡ CannotWrite) c.from_residual.result
    (inr (and_so P Q (λ rows q. inr q.0) all))

pub returns-in-Err-clause-part : goal.returns-in-Err-clause-part
returns-in-Err-clause-part g c = λ e.
    let a = c.args in
    let style = a.style in
    let u = g.Q.Source.unread a.first.now.stream.source in
    let v = g.R.Source.unread a.second.now.stream.source in
    let old = g.P.Sink.written a.report.now in
    let new = g.P.Sink.written c.hand_on-in-Err.new.report in
    let same = c.hand_on-in-Err.ensures.same in
    let Part : Option (List ℕ) → Type 0 = λ x. ComparesJournals a.first.now.choice
    a.second.now.choice u v (λ rows. AppendsPart old x (compared style rows)) in
    let P : List Row → Type 0 = λ rows. AppendsPart old new (compared style rows) in
    let Q : List Row → Type 0 =
    λ rows. AppendsPart old new (compared style rows) ⊎ Appends old new (compared style rows) in
    let R : Result (Unit {0}) CommandFault → Type 0 = λ r. IfErr r (λ fault. fault ≡ CannotWrite
    → (new ≡ old) ⊎ ComparesJournals a.first.now.choice a.second.now.choice u v Q) in
    let why : R (Err c.in-Err.fault) = λ is. elim (c.in-Err.ensures.part e is) [
      | inl kept ↦ inl (same ∙ ap g.P.Sink.written kept)
      | inr part ↦ inr (and_so P Q (λ rows p. inl p) (subst Part (sym same) part))
    ] in
    subst R (sym c.hand_on-in-Err.ensures.first) why
