-- a_join_without_objects_writes_what_is_left: by the facts that are not listed.
use Rattle.flutejoin.proofs.join_lemmas.WithoutJoins.{forgotten_after, forgotten_before}
use Rattle.flutejoin.proofs.join.without.a_join_without_objects_writes_what_is_left.Goals as goal

pub returns-clause-after : goal.returns-clause-after
returns-clause-after c = λ most sender scope keys s inputs bs cs ds counts e.
    forgotten_after most sender scope keys s e c.bytes_are_a_file_or_stop.ensures.one_reading

pub returns-clause-before : goal.returns-clause-before
returns-clause-before c = λ most sender scope keys s journals written bs cs e.
    forgotten_before most sender scope keys s e c.bytes_are_a_file_or_stop.ensures.one_reading
