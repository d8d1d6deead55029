-- Sending::next: the datagram of what was read.
use Rattle.std.proofs.Common.{◌≡◌, ◌∙◌, Some, length, min, ap, subst}
use Rattle.std.proofs.Common.{rules}
use Rattle.flute_wire.specs.Writing.{packet_at}
use Rattle.flutejoin.specs.Sending.{Makes, symbol_with}
use Rattle.flutejoin.proofs.carousel_lemmas.SentPackets.{taken, unless_read}
use Rattle.flutejoin.proofs.carousel.sending.Sending.next.Goals as goal

pub returns-clause-rest : goal.returns-clause-rest
returns-clause-rest g c = λ rest known whole. let i = c.args.self.now.info in
    let n : length c.read_all_of.new.bytes ≡ min c.args.self.now.left i.symbol_length = search rules
    in unless_read _ _ (taken _ _ _ known whole c.in_ok-read_all_of.ensures.read n).1

pub returns-clause-makes : goal.returns-clause-makes
returns-clause-makes g c = λ rest known whole. let i = c.args.self.now.info in
    let n : length c.read_all_of.new.bytes ≡ min c.args.self.now.left i.symbol_length = search rules
    in
    let bytes = (taken _ _
    _ known whole c.in_ok-read_all_of.ensures.read n).0 in subst (λ
    s. Makes (packet_at c.args.self.now.key (Some i) s)
    c.datagram_of.result) (c.symbol_at.ensures ∙ ap
    (λ p. symbol_with p c.args.place c.read_all_of.new.bytes) c.args.self.now.same ∙ ap
    (symbol_with i c.args.place) bytes) c.datagram_of.ensures.makes
