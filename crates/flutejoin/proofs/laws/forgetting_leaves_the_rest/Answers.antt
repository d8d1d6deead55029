use Rattle.flutejoin.proofs.Lefts.{forgotten_twice, none_forgotten}
use Rattle.flutejoin.proofs.laws.forgetting_leaves_the_rest.Goals as goal

pub returns : goal.returns
returns c = record { none = none_forgotten; twice = forgotten_twice }
