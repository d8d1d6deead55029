use Rattle.flute_store.proofs.Public.{gaps-same, object-same, Whole-same}
use Rattle.flutejoin.proofs.Public.{Journal-only}
use Rattle.flutejoin_replicas.proofs.Receptions.{Journal-of_same}
use Rattle.flutejoin_replicas.proofs.Given.{given_the_same}
use Rattle.flutejoin_replicas.proofs.laws.the_same_facts_make_the_same.Goals as goal

pub returns : goal.returns
returns c = record {
  same = given_the_same;
  journal = λ F G bs h j. Journal-of_same bs F G (given_the_same F G h) j;
  one_journal = λ F G bs cs h j k. Journal-only bs cs F G (given_the_same F G h) j k;
  whole = λ F G key info h w. Whole-same F G key info (given_the_same F G h) w;
  bytes = λ F G key info h. object-same F G key info (given_the_same F G h);
  gaps = λ F G key info h. gaps-same F G key info (given_the_same F G h);
}
