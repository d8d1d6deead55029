-- send_symbols: the packets before the place were sent.
use Rattle.std.proofs.Common.{◌≡◌, ◌+◌, length}
use Rattle.flute_parts.specs.Devices.{times_failed}
use Rattle.flutejoin.specs.Sending.{ReadsOf, OfSize}
use Rattle.flutejoin.proofs.carousel_lemmas.SentSoFar.{SentSoFar}
use Rattle.flutejoin.proofs.carousel.sending.send_symbols.Given as goal

abbrev pub invariant-loop-place : goal.invariant-loop-place
invariant-loop-place g l = (l.sending.key ≡ l.fn.sending.key) × (l.sending.info ≡ l.fn.sending.info)
    × (length l.buffer ≡ l.fn.sending.info.symbol_length) × ReadsOf (g.R.Source.unread l.fn.source)
    (g.R.Source.unread l.source) l.fn.sending.left l.sending.left × OfSize
    (g.R.Source.unread l.fn.source) l.fn.sending.left (λ content. SentSoFar l.fn.sending.key
    l.fn.sending.info content l.place (g.R.Source.unread l.source) l.failed
    (g.W.Sink.written l.fn.sink) (g.W.Sink.written l.sink)) ×
    (g.W.Sink.failures l.sink ≡ g.W.Sink.failures l.fn.sink + times_failed l.failed) ×
    (g.R.Source.failures l.source ≡ g.R.Source.failures l.fn.source)
