-- datagrams_of: the datagrams so far are those of the records that were read.
use Rattle.std.proofs.Common.{◌≡◌, ◌-◌, length}
use Rattle.flute_journal.specs.Framing.{Sofar}
use Rattle.flute_journal.specs.FileFraming.{file_framing}
use Rattle.flute_tests.proofs.journal.datagram_files.datagrams_of.Given as goal

abbrev pub invariant-loop-datagrams : goal.invariant-loop-datagrams
invariant-loop-datagrams g l =
    Sofar file_framing l.max_records (g.R.Source.unread l.fn.source)
    (g.R.Source.unread l.reader.source.now) l.reader.state l.datagrams.items
    × (l.reader.max_records ≡ l.max_records)

abbrev pub decreases-loop-datagrams : goal.decreases-loop-datagrams
decreases-loop-datagrams g l = l.max_records - length l.datagrams.items
