-- show: what was shown of a journal, and why it was not, stated of the names of it and of its list.
use Rattle.std.proofs.Common.{◌≡◌, ◌⊎◌, List, ℕ, Option, IfErr, inl, inr, refl, subst, sym}
use Rattle.std.specs.Prelude.{OnOk}
use Rattle.std.specs.BTreeSet.{BTreeSet}
use Rattle.flute_parts.specs.declared.key.Key.{Key}
use Rattle.flutejoin.specs.Show.{ShowsAll, ShowFails}
use Rattle.flutejoin.specs.declared.command_fault.CommandFault.{CommandFault}
use Rattle.flutejoin_commands.specs.Files.{IfFiles}
use Rattle.flutejoin_commands.specs.Lists.{IsUnread}
use Rattle.flutejoin_commands.specs.Printed.{chosen}
use Rattle.flutejoin_commands.specs.Prints.{FailsToFlush}
use Rattle.flutejoin_line.specs.CommandLine.{list_of}
use Rattle.flutejoin_commands.proofs.LeftFiles.{fails_after}
use Rattle.flutejoin_commands.proofs.ListedNames.{fails_with_list, printed_of, with_list}
use Rattle.flutejoin_commands.proofs.PrintedNames.{not_printed}
use Rattle.flutejoin_commands.proofs.prints.show.Goals as goal

pub returns-clause-shown : goal.returns-clause-shown
returns-clause-shown g c =
    let files = g.W.Inputs.files c.args.world.now in
    let name = c.args.inputs.journal.now in
    let style = c.args.style in
    let listed = c.in_ok-source.listed in
    let old = g.P.Sink.written c.args.output.now in
    let new = g.P.Sink.written c.hand_on.new.report in
    let u = g.W.Input.Source.unread c.in_ok-source.source in
    let shown = c.show_to-shown.result in
    let Shows : Option (BTreeSet Key) → Option (List ℕ) → Type 0 =
    λ l k. ShowsAll style (chosen c.args.selection.now l) k old new in
    with_list files (list_of c.args.inputs) listed c.in_ok-source.ensures.listed
    (λ l. IfFiles files (λ f. Shows l (f name))) c.hand_on.result
    (printed_of files name u c.in_ok-source.ensures.opened (Shows listed) shown c.hand_on.result
    (subst (λ w. OnOk shown (ShowsAll style (chosen c.args.selection.now listed) u old w))
    (sym c.hand_on.ensures.same) c.show_to-shown.ensures.printed)
    c.hand_on.ensures.first)

pub returns-clause-failed : goal.returns-clause-failed
returns-clause-failed g c =
    let files = g.W.Inputs.files c.args.world.now in
    let unread = g.W.Input.Source.unread in
    let name = c.args.inputs.journal.now in
    let listed = c.in_ok-source.listed in
    let style = c.args.style in
    let old = g.P.Sink.written c.args.output.now in
    let new = g.P.Sink.written c.hand_on.new.report in
    let u = unread c.in_ok-source.source in
    let left = unread c.show_to-shown.new.source in
    let shown = c.show_to-shown.result in
    let same = sym c.hand_on.ensures.same in
    let Fails : Option (BTreeSet Key) → Option (List ℕ) → Option (List ℕ) → CommandFault → Type 0 =
    λ s k l fault. ShowFails style (chosen c.args.selection.now s) k l old new fault
    ⊎ FailsToFlush (ShowsAll style (chosen c.args.selection.now s) k old new) fault in
    let picks = chosen c.args.selection.now listed in
    let Unread : CommandFault → Type 0 =
    λ fault. IsUnread files name (list_of c.args.inputs) fault × (new ≡ old) in
    fails_with_list files (list_of c.args.inputs) listed c.in_ok-source.ensures.listed Unread
    (λ s fault. IfFiles files (λ f. (l : Option (List ℕ)) × Fails s (f name) l fault))
    c.hand_on.result
    (not_printed files name u c.in_ok-source.ensures.opened (Fails listed) Unread left
    c.hand_on.result
    (fails_after {G = Fails listed u left} shown c.hand_on.result (λ all. inr (refl, all))
    (λ fault why. inl why)
    (subst (λ w. OnOk shown (ShowsAll style picks u old w)) same c.show_to-shown.ensures.printed)
    (subst (λ w. IfErr shown (ShowFails style picks u left old w)) same
    c.show_to-shown.ensures.failed)
    c.hand_on.ensures.first c.hand_on.ensures.after))
