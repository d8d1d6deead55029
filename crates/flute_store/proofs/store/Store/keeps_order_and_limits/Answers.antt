use Rattle.std.proofs.Common.{rules}
use Rattle.flute_store.proofs.{StoreJoin.{ordered-store}, Counting.{not_over}}
use Rattle.flute_store.proofs.Rises.{content-rises}
use Rattle.flute_store.proofs.store.Store.keeps_order_and_limits.Goals as goal

pub returns-clause-rising : goal.returns-clause-rising
returns-clause-rising g c = rw (← c.self.view_is) (content-rises c.self.inside.sessions
    (search (rules, ordered-store)))

pub returns-clause-within : goal.returns-clause-within
returns-clause-within g c = rw (← c.self.view_is)
    (not_over _ _ c.self.inside.sessions c.self.invariant)
