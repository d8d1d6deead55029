use Rattle.std.proofs.Common.{rules}
use Rattle.flute_store.proofs.ToldObjects.{gives-gaps}
use Rattle.flute_store.proofs.store.Store.gaps.Goals as goal

pub returns-in-One : goal.returns-in-One
returns-in-One g c = gives-gaps _ (record {
  told = c.in-Some.ensures;
  info_is = c.in-One.is;
  held_is = c.iter.ensures.rest;
  gaps_are = c.new.ensures.gaps;
}) (search rules)
