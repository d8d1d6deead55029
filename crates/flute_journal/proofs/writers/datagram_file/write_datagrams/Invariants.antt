-- write_datagrams: the records before the place were written.
use Rattle.flute_journal.proofs.{Common.{◌≡◌, ◌-◌, length}, writers_lemmas.Sending.{Sent}}
use Rattle.flute_journal.proofs.writers.datagram_file.write_datagrams.Given as goal

abbrev pub invariant-loop-datagram : goal.invariant-loop-datagram
invariant-loop-datagram g l = Sent l.datagrams l.place (g.W.Sink.written l.fn.sink)
    (g.W.Sink.written l.sink) × (g.W.Sink.failures l.sink ≡ g.W.Sink.failures l.fn.sink)

abbrev pub decreases-loop-datagram : goal.decreases-loop-datagram
decreases-loop-datagram g l = length l.datagrams - l.place
