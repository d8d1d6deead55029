-- read_into: the entries so far passed.
use Rattle.std.proofs.Common.{◌≡◌, ◌+◌, ◌-◌}
use Rattle.flute_parts.specs.Devices.{times_failed}
use Rattle.flute_journal.specs.Framing.{count_at}
use Rattle.flute_journal.specs.JournalFraming.{journal_framing}
use Rattle.flute_streams.specs.JournalStreams.{unread_of}
use Rattle.flutejoin.specs.NextEntry.{holding}
use Rattle.flutejoin.specs.ObjectWriters.{WritesNothing}
use Rattle.flutejoin.specs.declared.limits.TheConstants.{MAX_ENTRIES}
use Rattle.flutejoin.proofs.extract_lemmas.Extracted.{Passing}
use Rattle.flutejoin.proofs.extract.read_into.Given as goal

abbrev pub invariant-loop-held : goal.invariant-loop-held
invariant-loop-held g l = record {
  passing : Passing (g.R.Source.unread l.fn.reader.source.now)
      (unread_of g.R.Source.unread g.R.Source.buffered (holding l.reader l.held)) l.reader.state
      l.tally l.writer (g.W.Sink.written l.fn.sink) (g.W.Sink.written l.sink);
  limit : l.reader.max_entries ≡ MAX_ENTRIES;
  source : l.reader.source.ghost_name ≡ l.fn.reader.source.ghost_name;
  key : l.writer.key ≡ l.fn.writer.key;
  reads : g.R.Source.failures l.reader.source.now ≡ g.R.Source.failures l.fn.reader.source.now;
  untouched : WritesNothing l.writer.found → l.sink ≡ l.fn.sink;
  writes : g.W.Sink.failures l.sink ≡ g.W.Sink.failures l.fn.sink + times_failed l.writer.failed;
}

abbrev pub decreases-loop-held : goal.decreases-loop-held
decreases-loop-held g l = MAX_ENTRIES - count_at journal_framing l.reader.state
