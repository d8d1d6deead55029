use Rattle.std.proofs.Common.{◌∙◌}
use Rattle.flute_output.proofs.Runs.{stays-same, stays-later, stays-unlink}
use Rattle.flute_output.proofs.beside.remove.Goals as goal

pub returns-in_err-lock : goal.returns-in_err-lock
returns-in_err-lock g c = record { any_moment = λ t. stays-same _ _ _ (c.lock.ensures.same t) }

pub returns-in_err-check_name : goal.returns-in_err-check_name
returns-in_err-check_name g c = record {
  any_moment = λ t. stays-same _ _ _ (c.check_name.ensures.same t ∙ c.lock.ensures.same t);
}

pub returns : goal.returns
returns g c = record {
  any_moment = λ t. stays-later _ _ _ _ (c.check_name.ensures.same t ∙ c.lock.ensures.same t)
      (stays-unlink _ _ _ _ (c.unlink.ensures.removed t) (c.unlink.ensures.refused t));
}
