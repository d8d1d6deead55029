-- gaps_on: what gaps_from wrote and the report took, or why not.
use Rattle.std.proofs.Common.{◌≡◌, ◌⊎◌, List, ℕ, Option, Err, IfErr, inl, inr, ap, sym, ◌∙◌}
use Rattle.std.proofs.Common.{Result, subst}
use Rattle.std.specs.Io.KnownBytes.{Appends}
use Rattle.flute_parts.specs.Devices.{AppendsPart}
use Rattle.flutejoin.specs.Gaps.{ListsJournal}
use Rattle.flutejoin.specs.Styles.{are_whole, passes_check, printed}
use Rattle.flutejoin.specs.Told.{Told}
use Rattle.flutejoin.specs.declared.command_fault.CommandFault.{CommandFault}
use Rattle.flutejoin.specs.declared.command_fault.CommandFault.TheVariants.{CannotWrite}
use Rattle.flutejoin_commands.specs.Works.{most_of}
use Rattle.flutejoin_commands.proofs.Checks.{and_so, checked, if_checked, of_any_fault}
use Rattle.flutejoin_commands.proofs.printing.gaps_on.Goals as goal

pub returns-in_ok-hand_on-in-Ok-clause-listed : goal.returns-in_ok-hand_on-in-Ok-clause-listed
returns-in_ok-hand_on-in-Ok-clause-listed g c = λ e f.
    let style = c.args.listing.style in
    let input = g.R.Source.unread c.args.source.now in
    let old = g.P.Sink.written c.args.report.now in
    let new = g.P.Sink.written c.hand_on.new.report in
    let whole = c.in-Ok.all_whole in
    let picks = g.C.Picks.picks c.args.picks.now in
    let all = subst (λ (x : Option (List ℕ)). ListsJournal (most_of c.args.listing.limit)
    picks input
    (λ objects. Appends old x (printed style objects) × (whole ≡ are_whole style objects)))
    (sym c.hand_on.ensures.same) (c.in-Ok.ensures.printed e f) in
    if_checked (λ p. ListsJournal (most_of c.args.listing.limit)
    picks input
    (λ objects. Appends old new (printed style objects) × (passes_check style objects ≡ p)))
    _ c.checked.result c.checked.ensures.passes (λ p is. checked style whole p old new is all)

pub returns-in_err-hand_on-in-Ok-clause-part : goal.returns-in_err-hand_on-in-Ok-clause-part
returns-in_err-hand_on-in-Ok-clause-part g c = λ e f.
    let style = c.args.listing.style in
    let input = g.R.Source.unread c.args.source.now in
    let old = g.P.Sink.written c.args.report.now in
    let whole = c.in-Ok.all_whole in
    let picks = g.C.Picks.picks c.args.picks.now in
    let all = subst (λ (x : Option (List ℕ)). ListsJournal (most_of c.args.listing.limit)
    picks input
    (λ objects. Appends old x (printed style objects) × (whole ≡ are_whole style objects)))
    (sym c.hand_on.ensures.same) (c.in-Ok.ensures.printed e f) in
    let P : List Told → Type 0 = λ objects. Appends old (g.P.Sink.written c.hand_on.new.report)
    (printed style objects) in
    let Q : List Told → Type 0 = λ objects. P objects × (whole ≡ are_whole style objects) in
    of_any_fault (λ (fault : CommandFault). fault ≡ CannotWrite) c.from_residual.result
    (inr (inr (and_so Q P (λ objects q. q.0) all)))

pub returns-in-Err-clause-part : goal.returns-in-Err-clause-part
returns-in-Err-clause-part g c = λ e f.
    let style = c.args.listing.style in
    let picks = g.C.Picks.picks c.args.picks.now in
    let input = g.R.Source.unread c.args.source.now in
    let old = g.P.Sink.written c.args.report.now in
    let new = g.P.Sink.written c.hand_on-in-Err.new.report in
    let same = c.hand_on-in-Err.ensures.same in
    let Part : Option (List ℕ) → Type 0 = λ x. ListsJournal (most_of c.args.listing.limit) picks input
    (λ objects. AppendsPart old x (printed style objects)) in
    let All : Type 0 = ListsJournal (most_of c.args.listing.limit) picks input
    (λ objects. Appends old new (printed style objects)) in
    let Q : Result (Unit {0}) CommandFault → Type 0 = λ r. IfErr r (λ fault. fault ≡ CannotWrite
    → (new ≡ old) ⊎ (Part new ⊎ All)) in
    let why : Q (Err c.in-Err.fault) = λ is. elim (c.in-Err.ensures.part e f is) [
      | inl kept ↦ inl (same ∙ ap g.P.Sink.written kept)
      | inr part ↦ inr (inl (subst Part (sym same) part))
    ] in
    subst Q (sym c.hand_on-in-Err.ensures.first) why
