use Rattle.flute_output.proofs.Runs.{stays-then, stays-after, stays-failed, stays-does, only-creates}
use Rattle.flute_output.proofs.beside.make_once.Goals as goal

pub returns-in_err-file-clause-any_moment : goal.returns-in_err-file-clause-any_moment
returns-in_err-file-clause-any_moment g c t = stays-then _ _ _ _ (c.remove_leftover.ensures.any_moment t)
    (stays-failed _ _ _ (c.in_err-file.ensures.refused t))

pub returns-in-Ok-clause-any_moment : goal.returns-in-Ok-clause-any_moment
returns-in-Ok-clause-any_moment g c t = stays-then _ _ _ _ (c.remove_leftover.ensures.any_moment t)
    (stays-after _ _ _ _ (stays-does _ _ _ _ (c.in_ok-file.ensures.made t) (only-creates _ _ _ _))
    (c.finish_making.ensures.same t))

pub returns-in-Err-clause-any_moment : goal.returns-in-Err-clause-any_moment
returns-in-Err-clause-any_moment g c t = stays-then _ _ _ _ (c.remove_leftover.ensures.any_moment t)
    (stays-then _ _ _ _ (stays-after _ _ _ _ (stays-does _ _ _ _ (c.in_ok-file.ensures.made t) (only-creates _ _ _ _))
    (c.finish_making.ensures.same t))
    (c.remove.ensures.any_moment t))
