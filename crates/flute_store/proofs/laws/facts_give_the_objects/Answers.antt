use Rattle.std.proofs.Common.{rules}
use Rattle.flute_store.proofs.ObjectLength.{object-length}
use Rattle.flute_store.proofs.Sent.{datagrams_give_the_object}
use Rattle.flute_store.proofs.WholeObjects.{Whole-same, object-same, gaps-same}
use Rattle.flute_store.proofs.laws.facts_give_the_objects.Goals as goal

pub returns : goal.returns
returns c = search
    (rules, Whole-same, object-same, gaps-same, object-length, datagrams_give_the_object)
