use Rattle.flute_output.proofs.Moments.{losses}
use Rattle.flute_output.proofs.laws.losses_are_of_moments.Goals as goal

pub returns : goal.returns
returns c = losses
