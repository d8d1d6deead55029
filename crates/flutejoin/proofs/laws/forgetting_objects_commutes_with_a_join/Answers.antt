use Rattle.flutejoin.proofs.join_lemmas.ForgetJoins.{commutes}
use Rattle.flutejoin.proofs.laws.forgetting_objects_commutes_with_a_join.Goals as goal

pub returns : goal.returns
returns c = λ choice rest journals written bs cs ds counts of h j k l.
    commutes rest of c.bytes_are_a_file_or_stop.ensures.one_reading choice journals written h j k l
