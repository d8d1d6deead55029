-- list_within: all objects are listed.
use Rattle.std.proofs.Common.{◌≡◌, ℕ, List, Option, Some, IfOk, subst}
use Rattle.std.specs.Io.KnownBytes.{Appends}
use Rattle.flute_streams.specs.Selections.{selects}
use Rattle.flutejoin.specs.Gaps.{ListsJournal}
use Rattle.flutejoin.specs.Limits.{at_most}
use Rattle.flutejoin.specs.Styles.{are_whole, printed}
use Rattle.flutejoin_c.specs.Lists.{Lists}
use Rattle.flutejoin_c.proofs.AllSelected.{lists_all}
use Rattle.flutejoin_c.proofs.gaps.list_within.Goals as goal

pub returns-clause-listed : goal.returns-clause-listed
returns-clause-listed g c =
    let most = at_most g.row.SESSIONS g.row.OBJECTS g.row.SYMBOLS in
    let journal = c.args.journal.now in
    let old : Option (List ℕ) = Some c.args.sink.now.bytes.items in
    let new : Option (List ℕ) = Some c.gaps_from.new.sink.bytes.items in
    let style = c.style_in.result in
    let r = c.gaps_from.result in
    let P : Option (List ℕ) → Type 0 = λ u. IfOk r
    (λ whole. ListsJournal most (selects c.all.result) u
    (λ objects. Appends old new (printed style objects) × (whole ≡ are_whole style objects))) in
    subst (λ s. IfOk r (λ _. Lists most s journal old new)) c.style_in.ensures
    (lists_all c.all.result c.all.ensures most style journal old new r
    (subst P c.new-source.ensures.bytes
    (c.gaps_from.ensures.printed c.new-lines.ensures.bytes c.new-gap_lines.ensures.bytes)))
