-- datagram_of: what was written has no fault.
use Rattle.flutejoin.proofs.carousel_lemmas.SentPackets.{no_fault}
use Rattle.flutejoin.proofs.carousel.sending.datagram_of.Goals as goal

pub returns-in-Ok-clause-makes : goal.returns-in-Ok-clause-makes
returns-in-Ok-clause-makes c =
    (c.in-Ok.ensures.written, no_fault _ _ _ c.in-Ok.is c.write.ensures.fault)
