-- extract_all: what was extracted, why there is no folder, and what its name led to meanwhile,
-- stated of the names of the journal, its list and the folder.
use Rattle.std.proofs.Common.{◌≡◌, ◌⊎◌, List, ℕ, Option, Result, IfErr, ap, subst, sym, ◌∙◌}
use Rattle.std.specs.Prelude.{OnOk}
use Rattle.std.specs.BTreeSet.{BTreeSet}
use Rattle.flute_output.specs.NewFolders.{Places}
use Rattle.flute_parts.specs.declared.key.Key.{Key}
use Rattle.flutejoin.specs.ExtractAll.{picks_fact}
use Rattle.flutejoin.specs.Selected.{picks_listed}
use Rattle.flutejoin.specs.declared.command_fault.CommandFault.{CommandFault}
use Rattle.flutejoin_commands.specs.Files.{IfFiles}
use Rattle.flutejoin_commands.specs.Folders.{FolderFails, LeavesFolder}
use Rattle.flutejoin_commands.specs.Lists.{IsUnread}
use Rattle.flutejoin_commands.specs.Works.{most_of}
use Rattle.flutejoin_commands.specs.Worlds.{IsNotMade}
use Rattle.flutejoin_line.specs.CommandLine.{list_of}
use Rattle.flutejoin_commands.proofs.FolderSteps.{keeps_closed, keeps_same}
use Rattle.flutejoin_commands.proofs.ListedNames.{fails_with_list, with_list}
use Rattle.flutejoin_commands.proofs.OfNames.{told_of}
use Rattle.flutejoin_commands.proofs.PrintedNames.{by_done, not_printed}
use Rattle.flutejoin_commands.proofs.prints.extract_all.Goals as goal

pub returns-clause-extracted : goal.returns-clause-extracted
returns-clause-extracted g c =
    let files = g.W.Inputs.files c.args.world.now in
    let name = c.args.inputs.journal.now in
    let folder = g.W.Inputs.folders c.args.world.now c.args.out.now in
    let listed = c.in_ok-source.listed in
    let after = g.W.Inputs.folders c.close_folder.new.self c.args.out.now in
    let old = g.P.Sink.written c.args.output.now in
    let new = g.P.Sink.written c.extract_all_into-done.new.report in
    let result = c.extract_all_into-done.result in
    let u = g.W.Input.Source.unread c.in_ok-source.source in
    let Leaves : Option (BTreeSet Key) → Option (List ℕ) → Option Places → Option Places → Type 0 =
    λ l k a b. LeavesFolder (most_of c.args.limit) k (picks_listed l (picks_fact c.args.picked))
    a b old new in
    let made = g.W.NewFolder.NewFolder.places c.in_ok-folder.folder in
    let put = g.W.NewFolder.NewFolder.places c.extract_all_into-done.new.folder in
    let is : made ≡ folder = c.in_ok-folder.ensures.named
    ∙ ap (λ f. f c.args.out.now) c.open_listed.ensures.same_folders in
    with_list files (list_of c.args.inputs) listed c.in_ok-source.ensures.listed
    (λ l. IfFiles files (λ f. Leaves l (f name) folder after)) result
    (by_done result (λ done. told_of files name u c.in_ok-source.ensures.opened
    (λ k. Leaves listed k folder after)
    (subst (λ b. Leaves listed u folder b) (sym c.close_folder.ensures.closed.here)
    (subst (λ a. Leaves listed u a put) is
    (subst (λ (r : Result (Unit {0}) CommandFault). OnOk r (Leaves listed u made put)) done
    c.extract_all_into-done.ensures.extracted)))))

pub returns-clause-failed : goal.returns-clause-failed
returns-clause-failed g c =
    let files = g.W.Inputs.files c.args.world.now in
    let name = c.args.inputs.journal.now in
    let folder = g.W.Inputs.folders c.args.world.now c.args.out.now in
    let after = g.W.Inputs.folders c.close_folder.new.self c.args.out.now in
    let unread = g.W.Input.Source.unread in
    let listed = c.in_ok-source.listed in
    let result = c.extract_all_into-done.result in
    let u = unread c.in_ok-source.source in
    let left = unread c.extract_all_into-done.new.source in
    let picks = picks_listed listed (picks_fact c.args.picked) in
    let made = g.W.NewFolder.NewFolder.places c.in_ok-folder.folder in
    let put = g.W.NewFolder.NewFolder.places c.extract_all_into-done.new.folder in
    let is : made ≡ folder = c.in_ok-folder.ensures.named
    ∙ ap (λ f. f c.args.out.now) c.open_listed.ensures.same_folders in
    let Fails : Option (BTreeSet Key) → Option (List ℕ) → Option (List ℕ) → CommandFault → Type 0 =
    λ s k l fault. FolderFails (most_of c.args.limit) k l
    (picks_listed s (picks_fact c.args.picked)) folder after fault in
    let Unread : CommandFault → Type 0 =
    λ fault. (IsUnread files name (list_of c.args.inputs) fault ⊎ IsNotMade fault)
    × (after ≡ folder) in
    fails_with_list files (list_of c.args.inputs) listed c.in_ok-source.ensures.listed Unread
    (λ s fault. IfFiles files (λ f. (l : Option (List ℕ)) × Fails s (f name) l fault)) result
    (not_printed files name u c.in_ok-source.ensures.opened (Fails listed) Unread left result
    (subst (λ b. IfErr result (FolderFails (most_of c.args.limit) u left picks folder b))
    (sym c.close_folder.ensures.closed.here)
    (subst (λ a. IfErr result (FolderFails (most_of c.args.limit) u left picks a put)) is
    c.extract_all_into-done.ensures.failed)))

pub returns-clause-any_moment : goal.returns-clause-any_moment
returns-clause-any_moment g c =
    keeps_closed c.args.out.now
    (c.new_folder.ensures.same_folders ∙ c.open_listed.ensures.same_folders)
    (c.in_ok-folder.ensures.named ∙ ap (λ f. f c.args.out.now) c.open_listed.ensures.same_folders)
    c.close_folder.ensures.closed c.extract_all_into-done.ensures.any_moment

pub returns-in_err-source-clause-any_moment : goal.returns-in_err-source-clause-any_moment
returns-in_err-source-clause-any_moment g c =
    keeps_same c.args.out.now c.open_listed.ensures.same_folders

pub returns-in_err-folder-clause-any_moment : goal.returns-in_err-folder-clause-any_moment
returns-in_err-folder-clause-any_moment g c =
    keeps_same c.args.out.now
    (c.new_folder.ensures.same_folders ∙ c.open_listed.ensures.same_folders)
