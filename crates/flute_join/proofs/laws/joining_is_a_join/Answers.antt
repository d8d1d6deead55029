use Rattle.flute_join.proofs.Below.{below_self, below_trans, below_antisymmetric, below_join}
use Rattle.flute_join.proofs.Below.{below_second, least, joined_again}
use Rattle.flute_join.proofs.laws.joining_is_a_join.Goals as goal
