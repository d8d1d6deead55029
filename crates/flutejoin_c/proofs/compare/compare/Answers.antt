-- compare: all objects are compared.
use Rattle.std.proofs.Common.{◌≡◌, ℕ, List, Option, Some, IfOk, false, subst}
use Rattle.std.specs.Io.KnownBytes.{Appends}
use Rattle.flutejoin.specs.Compare.{ComparesJournals}
use Rattle.flutejoin.specs.CompareLines.{are_same, compared}
use Rattle.flutejoin.specs.declared.lines.compare_style.CompareStyle.{CompareStyle}
use Rattle.flutejoin_c.proofs.AllSelected.{compares_all}
use Rattle.flutejoin_c.proofs.compare.compare.Goals as goal

pub returns-clause-compared : goal.returns-clause-compared
returns-clause-compared c =
    let s = c.whole-input.result.choice in
    let t = c.whole-other.result.choice in
    let old : Option (List ℕ) = Some c.args.sink.now.bytes.items in
    let new : Option (List ℕ) = Some c.compare_from.new.sink.bytes.items in
    let style : CompareStyle = record { check = false; summary = false; form = c.args.form } in
    let r = c.compare_from.result in
    let P : Option (List ℕ) → Option (List ℕ) → Type 0 =
    λ u v. IfOk r (λ same. ComparesJournals s t u v
    (λ rows. Appends old new (compared style rows) × (same ≡ are_same rows))) in
    compares_all s t c.whole-input.ensures.all c.whole-other.ensures.all c.args.form
    c.args.first.now c.args.second.now old new r
    (subst (λ u. P u (Some c.args.second.now)) c.whole-input.ensures.bytes
    (subst (P (Some c.whole-input.result.stream.source.unread.now)) c.whole-other.ensures.bytes
    (c.compare_from.ensures.printed c.new-lines.ensures.bytes)))
