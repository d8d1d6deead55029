use Rattle.std.proofs.Common.{sym}
use Rattle.flute_store.proofs.Found.{unheard-session, found-object}
use Rattle.flute_store.proofs.store.Store.object.Goals as goal

pub returns-in_err-objects : goal.returns-in_err-objects
returns-in_err-objects g c = rw (← c.self.view_is, c.from_residual.ensures)
    (unheard-session c.self.invariant c.args.key.now (sym c.in_err-objects.ensures.value))

pub returns : goal.returns
returns g c = rw (← c.self.view_is) (found-object c.self.invariant c.args.key.now
    (sym c.in_ok-objects.ensures.value) c.get-2.result c.get-2.ensures.value)
