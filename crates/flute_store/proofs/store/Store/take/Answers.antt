-- Store::take: each clause for a datagram that is refused, or read as a packet.
use Rattle.std.proofs.Common.{Err, ap, refl}
use Rattle.flute_wire.proofs.Public.{facts-refused, facts-Spells, packet-iff}
use Rattle.flute_store.proofs.Counting.{not_over_more}
use Rattle.flute_store.proofs.Refused.{not_full}
use Rattle.flute_store.proofs.store.Store.take.Goals as goal

pub returns-in-Err-clause-full : goal.returns-in-Err-clause-full
returns-in-Err-clause-full g c =
    let none = facts-refused c.args.sender _ _ c.in-Err.ensures.refused.applies in
    rw (← c.self.view_is) (
      (λ e. cc),
      (λ over. absurd
          (not_over_more g.row.SESSIONS _ c.self.inside.sessions c.self.invariant _ none over)),
    )

pub returns-in-Err-clause-held : goal.returns-in-Err-clause-held
returns-in-Err-clause-held g c = λ p s h. let e = (c.in-Err.ensures.packet p).1 s in cc

pub returns-in-Ok-take_packet-clause-ok : goal.returns-in-Ok-take_packet-clause-ok
returns-in-Ok-take_packet-clause-ok g c = rw
    (facts-Spells c.args.sender _ _ c.in-Ok.ensures.spelled) c.in-Ok-take_packet.ensures.ok

pub returns-in-Ok-take_packet-clause-key : goal.returns-in-Ok-take_packet-clause-key
returns-in-Ok-take_packet-clause-key g c =
    let read = (packet-iff c.args.datagram.now c.in-Ok.packet).1 c.in-Ok.ensures.spelled in
    let key = c.in-Ok-take_packet.ensures.key in
    rw read cc

pub returns-in-Ok-take_packet-clause-number : goal.returns-in-Ok-take_packet-clause-number
returns-in-Ok-take_packet-clause-number g c = rw
    (facts-Spells c.args.sender _ _ c.in-Ok.ensures.spelled) c.in-Ok-take_packet.ensures.number

pub returns-in-Ok-take_packet-clause-full : goal.returns-in-Ok-take_packet-clause-full
returns-in-Ok-take_packet-clause-full g c = rw
    (facts-Spells c.args.sender c.args.datagram.now _ c.in-Ok.ensures.spelled)
    (not_full _ _ _ _ _ c.in-Ok-take_packet.ensures.full)

pub returns-in-Err-Full-clause-full : goal.returns-in-Err-Full-clause-full
returns-in-Err-Full-clause-full g c =
    let full = c.in-Err-Full.ensures.full.0 (ap Err c.in-Err-Full.field-0-is) in
    rw (facts-Spells c.args.sender c.args.datagram.now _ c.in-Ok.ensures.spelled)
    (λ e. full, λ over. refl)

pub returns-in-Err-Full-clause-held : goal.returns-in-Err-Full-clause-held
returns-in-Err-Full-clause-held g c = rw (facts-Spells c.args.sender _ _ c.in-Ok.ensures.spelled)
    (λ p s h. let e = c.in-Err-Full.ensures.held h in cc)

pub returns-in-Err-OutOfMemory-clause-full : goal.returns-in-Err-OutOfMemory-clause-full
returns-in-Err-OutOfMemory-clause-full g c = rw
    (facts-Spells c.args.sender _ _ c.in-Ok.ensures.spelled)
    (λ e. cc, λ over. let full = c.in-Err-OutOfMemory.ensures.full.1 over in cc)

pub returns-in-Err-OutOfMemory-clause-held : goal.returns-in-Err-OutOfMemory-clause-held
returns-in-Err-OutOfMemory-clause-held g c = rw
    (facts-Spells c.args.sender _ _ c.in-Ok.ensures.spelled)
    (λ p s h. let e = c.in-Err-OutOfMemory.ensures.held h in cc)
