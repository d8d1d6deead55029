use Rattle.std.proofs.Common.{◌∙◌}
use Rattle.flute_output.proofs.Runs.{stays-same, stays-later}
use Rattle.flute_output.proofs.beside.remove_leftover.Goals as goal

pub returns-in_err-found : goal.returns-in_err-found
returns-in_err-found g c = record { any_moment = λ t. stays-same _ _ _ (c.look.ensures.same t) }

pub returns-in_default : goal.returns-in_default
returns-in_default g c = record { any_moment = λ t. stays-same _ _ _ (c.look.ensures.same t) }

pub returns-then-not-found : goal.returns-then-not-found
returns-then-not-found g c = record { any_moment = λ t. stays-same _ _ _ (c.look.ensures.same t) }

pub returns-in_err-leftover : goal.returns-in_err-leftover
returns-in_err-leftover g c = record {
  any_moment = λ t. stays-same _ _ _ (c.open.ensures.same t ∙ c.look.ensures.same t);
}

pub returns : goal.returns
returns g c = record {
  any_moment = λ t. stays-later _ _ _ _ (c.open.ensures.same t ∙ c.look.ensures.same t)
      (c.remove.ensures.any_moment t);
}
