-- drop_file: the open file is removed, if there is one.
use Rattle.std.proofs.Common.{subst}
use Rattle.flute_output.specs.NewFolders.{Fills, LeadsTo}
use Rattle.flutejoin.proofs.extract_lemmas.FilesTold.{no_file, stays_called}
use Rattle.flutejoin.proofs.extract_lemmas.FolderSteps.{fills_leaves, leaves_stay}
use Rattle.flutejoin.proofs.walk_lemmas.Objects.{on_ok}
use Rattle.flutejoin.proofs.extract.object_files.drop_file.Goals as goal

pub returns-in-Some-clause-dropped : goal.returns-in-Some-clause-dropped
returns-in-Some-clause-dropped g c = λ files file p0 some filled.
    on_ok _ (fills_leaves _ _ p0 _ _ filled) c.leave.ensures.left

pub returns-in-Some-clause-stays : goal.returns-in-Some-clause-stays
returns-in-Some-clause-stays g c = stays_called _ leaves_stay _ _ _
    c.leave.ensures.left c.leave.ensures.refused

pub returns-in-None-clause-dropped : goal.returns-in-None-clause-dropped
returns-in-None-clause-dropped g c = λ files file p0 some filled.
    subst (λ x. LeadsTo (Fills files x) p0 (g.D.NewFolder.places
    c.args.folder.now)) (no_file _ c.in-None.is some) filled
