use Rattle.std.proofs.Common.{rules}
use Rattle.flute_store.proofs.Runs.{runs-are, runs-listed, runs-unique}
use Rattle.flute_store.proofs.WholeObjects.{gapless-whole, whole-gapless}
use Rattle.flute_store.proofs.laws.gaps_are_maximal_runs.Goals as goal

pub returns : goal.returns
returns c = record {
  wants = λ F key info. runs-listed _;
  runs = λ F key info. runs-are _;
  unique = search (rules, runs-unique);
  whole = λ F key info h. (whole-gapless F _ _, gapless-whole F _ _ h);
}
