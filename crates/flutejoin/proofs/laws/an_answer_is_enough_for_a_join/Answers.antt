use Rattle.flutejoin.proofs.fill_lemmas.Enough.{enough, joined_alike}
use Rattle.flutejoin.proofs.laws.an_answer_is_enough_for_a_join.Goals as goal

pub returns : goal.returns
returns c = record {
  facts = enough;
  enough = λ choice asking asker journal lines answer bs cs count others held s h rest j k.
      joined_alike c.bytes_are_a_file_or_stop.ensures.one_reading choice asking bs cs others held s h
      rest j k;
}
