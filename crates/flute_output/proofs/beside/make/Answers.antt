use Rattle.flute_output.proofs.Runs.{stays-then}
use Rattle.flute_output.proofs.beside.make.Goals as goal

pub loop-left-preserved : goal.loop-left-preserved
loop-left-preserved g c t = stays-then _ _ _ _ (c.loop-left.invariant t) (c.make_once.ensures.any_moment t)

pub returns-in_default-clause-any_moment : goal.returns-in_default-clause-any_moment
returns-in_default-clause-any_moment g c t =
    stays-then _ _ _ _ (c.loop-left.invariant t) (c.make_once.ensures.any_moment t)

pub returns-in_default-2-clause-any_moment : goal.returns-in_default-2-clause-any_moment
returns-in_default-2-clause-any_moment g c t =
    stays-then _ _ _ _ (c.loop-left.invariant t) (c.make_once.ensures.any_moment t)
