use Rattle.std.proofs.Common.{rules}
use Rattle.flute_store.proofs.{StoreJoin.{ordered-store}, KeyLists.{keys_rise, keys_held}}
use Rattle.flute_store.proofs.HeldObjects.{have-objects}
use Rattle.flute_store.proofs.store.Store.objects.Goals as goal

pub new-objects-requires : goal.new-objects-requires
new-objects-requires g c =
    rw c.iter.ensures.rest (have-objects g.row.OBJECTS _ c.self.invariant.each)

pub returns-clause-rising : goal.returns-clause-rising
returns-clause-rising g c = rw (c.new-objects.ensures, c.iter.ensures.rest) (keys_rise
    c.self.inside.sessions (search (rules, ordered-store)))

pub returns-clause-held : goal.returns-clause-held
returns-clause-held g c = rw (c.new-objects.ensures, c.iter.ensures.rest, ← c.self.view_is)
    (keys_held g.row.SESSIONS _ _ c.self.invariant)
