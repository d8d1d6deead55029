-- a_comparison_tells_of_the_join: the laws (src/laws.rt), of counts and of lookups.
use Rattle.flute_streams.proofs.compare_lemmas.ComparedLaws.{adds_up, in_peace}
use Rattle.flute_streams.proofs.laws.a_comparison_tells_of_the_join.Goals as goal

pub returns-clause-counted : goal.returns-clause-counted
returns-clause-counted c = adds_up

pub returns-clause-peace : goal.returns-clause-peace
returns-clause-peace c facts others rows rises are none a = in_peace facts others rises rows are none a
