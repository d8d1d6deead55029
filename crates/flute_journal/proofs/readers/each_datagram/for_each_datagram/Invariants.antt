-- for_each_datagram: those that were taken are those that were read.
use Rattle.std.proofs.Common.{◌≡◌, ◌-◌, length}
use Rattle.flute_journal.specs.EachDatagram.{TakesFirst}
use Rattle.flute_journal.proofs.readers.each_datagram.for_each_datagram.Given as goal

abbrev pub invariant-loop-datagram : goal.invariant-loop-datagram
invariant-loop-datagram g l =
    (first : TakesFirst g.D.Datagrams.takes l.max_records (g.R.Source.unread l.fn.source)
    (g.R.Source.unread l.reader.source.now) l.reader.state l.fn.datagrams l.datagrams)
    × (l.count ≡ length first.datagrams) × (l.reader.max_records ≡ l.max_records)

abbrev pub decreases-loop-datagram : goal.decreases-loop-datagram
decreases-loop-datagram g l = l.max_records - l.count
