-- Store::take_packet: each clause for a packet with facts, or without any.
use Rattle.std.proofs.Common.{ap, ◌∙◌}
use Rattle.flute_wire.specs.Facts.{facts_of}
use Rattle.flute_store.proofs.Common.{ok_is_not_err, update_facts}
use Rattle.flute_store.proofs.{Counting.{not_over_more}, Spelled.{spelled-size}}
use Rattle.flute_store.proofs.Refused.{not_full}
use Rattle.flute_store.proofs.store.Store.take_packet.Goals as goal

pub of_packet-requires : goal.of_packet-requires
of_packet-requires g c = spelled-size c.requires.read.0 _ c.requires.read.1

pub returns-in_default-clause-full : goal.returns-in_default-clause-full
returns-in_default-clause-full g c = rw (← c.self.view_is) (
  (λ e. absurd (ok_is_not_err _ _ e)),
  (λ
      over. absurd (not_over_more g.row.SESSIONS _ c.self.inside.sessions c.self.invariant
      (facts_of _ _) (c.in_default.ensures.nothing _) over)),
)

pub returns-in-Ok-clause-full : goal.returns-in-Ok-clause-full
returns-in-Ok-clause-full g c =
    let update = ap (λ key. update_facts key c.in-Some.update) c.key-key.ensures ∙
    c.in-Some.ensures.facts _ in rw (← update) (not_full _ _ _ _ _ c.in-Ok.ensures.full)

pub returns-in-Err-clause-full : goal.returns-in-Err-clause-full
returns-in-Err-clause-full g c =
    let update = ap (λ key. update_facts key c.in-Some.update) c.key-key.ensures
    ∙ c.in-Some.ensures.facts _ in
    let full = c.in-Err.ensures.full in
    rw (← update) ((λ e. full.0 cc), (λ over. let e = full.1 over in cc))
