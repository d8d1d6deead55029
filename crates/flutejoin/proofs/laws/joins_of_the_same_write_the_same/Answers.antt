use Rattle.flutejoin.proofs.join_lemmas.JoinTrees.{same_bytes, read_same, same_trees}
use Rattle.flutejoin.proofs.join_lemmas.Receptions.{Same-read_of_joined}
use Rattle.flutejoin.proofs.laws.joins_of_the_same_write_the_same.Goals as goal

pub returns : goal.returns
returns c = record {
  bytes = λ one two inputs others told further bs cs h k same j l.
      same_bytes c.bytes_are_a_file_or_stop.ensures.one_reading (record { tell = h; joined = j })
      (record { tell = k; joined = l }) same;
  read = λ choice inputs told bs held h j is.
      read_same c.bytes_are_a_file_or_stop.ensures.one_reading (record { tell = h; joined = j }) is;
  trees = λ one two inputs others bs cs h k same j l.
      same_trees c.bytes_are_a_file_or_stop.ensures.one_reading (record { made = h; joined = j })
      (record { made = k; joined = l }) same;
  facts = λ held joined others bs is journal same.
      Same-read_of_joined held joined others bs is journal same;
}
