use Rattle.flutejoin.proofs.Public.{Same-from_journals}
use Rattle.flutejoin_replicas.proofs.laws.equal_journals_mean_one_content.Goals as goal

pub returns : goal.returns
returns c = λ F G bs j k. Same-from_journals bs F G j k
