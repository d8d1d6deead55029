use Rattle.flute_output.proofs.Runs.{names_then, names_same}
use Rattle.flute_output.proofs.folder_beside.make_folder.Goals as goal

pub loop-left-preserved : goal.loop-left-preserved
loop-left-preserved g c t =
    names_then _ _ _ _ (c.loop-left.invariant t) (c.make_folder_once.ensures.any_moment t)

pub returns-in_default-clause-any_moment : goal.returns-in_default-clause-any_moment
returns-in_default-clause-any_moment g c t =
    names_then _ _ _ _ (c.loop-left.invariant t) (c.make_folder_once.ensures.any_moment t)

pub returns-in_default-2-clause-any_moment : goal.returns-in_default-2-clause-any_moment
returns-in_default-2-clause-any_moment g c t =
    names_then _ _ _ _ (c.loop-left.invariant t) (c.make_folder_once.ensures.any_moment t)
