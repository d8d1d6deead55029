-- Replica::take: what becomes of a datagram.
use Rattle.std.proofs.Common.{refl, inl, ap, ◌∙◌, Err}
use Rattle.flutejoin.proofs.Public.{is_refused-no, is_refused-yes, ok_is_packet, refused_same}
use Rattle.flutejoin_replicas.proofs.Taking.{full_is_packet, memory_is_packet, ok_within}
use Rattle.flutejoin_replicas.proofs.Taking.{refused_within, not_held}
use Rattle.flutejoin_replicas.proofs.replicas.Replica.take.Goals as goal

pub returns-in-Ok-clause-counted : goal.returns-in-Ok-clause-counted
returns-in-Ok-clause-counted g c =
    let d = c.args.datagram.now in
    rw (is_refused-no d (ok_is_packet d c.take.result c.in-Ok.field-0
    (record { some = c.one_reading.ensures.some d }) c.take.ensures.refused c.in-Ok.is)) refl

pub returns-in-Ok-clause-within : goal.returns-in-Ok-clause-within
returns-in-Ok-clause-within g c =
    ok_within c.args.sender c.args.self.now.store c.args.datagram.now c.in-Ok.is c.in-Ok.ensures.ok
    c.take.ensures.full

pub returns-in-Err-Datagram-clause-content : goal.returns-in-Err-Datagram-clause-content
returns-in-Err-Datagram-clause-content g c =
    let refuses =
    (c.take.ensures.refused c.in-Err-Datagram.field-0-0).0
    (c.in-Err-Datagram.is ∙ ap Err c.in-Err-Datagram.field-0-is) in
    refused_same c.args.sender c.args.self.now.store c.take.new.self c.args.datagram.now
    c.in-Err-Datagram.field-0-0 refuses.applies c.in-Err-Datagram.ensures.err

pub returns-in-Err-Datagram-clause-counted : goal.returns-in-Err-Datagram-clause-counted
returns-in-Err-Datagram-clause-counted g c =
    let d = c.args.datagram.now in
    let refuses =
    (c.take.ensures.refused c.in-Err-Datagram.field-0-0).0
    (c.in-Err-Datagram.is ∙ ap Err c.in-Err-Datagram.field-0-is) in
    rw (is_refused-yes d c.in-Err-Datagram.field-0-0
    (record { some = c.one_reading.ensures.some d }) refuses.applies) c.one_more-self.ensures

pub returns-in-Err-Datagram-clause-within : goal.returns-in-Err-Datagram-clause-within
returns-in-Err-Datagram-clause-within g c =
    let is = c.in-Err-Datagram.is ∙ ap Err c.in-Err-Datagram.field-0-is in
    let refuses = (c.take.ensures.refused c.in-Err-Datagram.field-0-0).0 is in
    refused_within c.args.sender _ refuses.applies c.in-Err-Datagram.ensures.err is
    c.take.ensures.full

pub returns-in-Err-Full-clause-sure : goal.returns-in-Err-Full-clause-sure
returns-in-Err-Full-clause-sure g c =
    let d = c.args.datagram.now in
    let is = c.in-Err-Full.is ∙ ap Err c.in-Err-Full.field-0-is in
    λ cells. absurd (not_held c.args.sender c.args.self.now.store d c.take.result _
    (full_is_packet d c.take.result (record {
      some =
          c.one_reading.ensures.some d;
    }) c.take.ensures.refused is) c.take.ensures.held is cells)

pub returns-in-Err-Full-clause-fault : goal.returns-in-Err-Full-clause-fault
returns-in-Err-Full-clause-fault g c =
    inl (refl, c.take.ensures.full.0 (c.in-Err-Full.is ∙ ap Err c.in-Err-Full.field-0-is))

pub returns-in-Err-OutOfMemory-clause-sure : goal.returns-in-Err-OutOfMemory-clause-sure
returns-in-Err-OutOfMemory-clause-sure g c =
    let d = c.args.datagram.now in
    let is = c.in-Err-OutOfMemory.is ∙ ap Err c.in-Err-OutOfMemory.field-0-is in
    λ cells. absurd (not_held c.args.sender c.args.self.now.store d c.take.result _
    (memory_is_packet d c.take.result (record {
      some =
          c.one_reading.ensures.some d;
    }) c.take.ensures.refused is) c.take.ensures.held is cells)
