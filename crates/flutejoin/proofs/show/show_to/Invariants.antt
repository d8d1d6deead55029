-- show_to: the lines of the picked entries that were read were written.
use Rattle.std.proofs.Common.{◌≡◌, ◌-◌}
use Rattle.flute_journal.proofs.Public.{entries_at}
use Rattle.flute_streams.specs.JournalStreams.{unread_of}
use Rattle.flutejoin.specs.NextEntry.{holding}
use Rattle.flutejoin.specs.declared.limits.TheConstants.{MAX_ENTRIES}
use Rattle.flutejoin.proofs.Shown.{Shown}
use Rattle.flutejoin.proofs.show.show_to.Given as goal

abbrev pub invariant-loop-held : goal.invariant-loop-held
invariant-loop-held g l = record {
  shown : Shown l.style (g.P.Picks.picks l.picks) (g.R.Source.unread l.fn.source)
      (unread_of g.R.Source.unread g.R.Source.buffered (holding l.reader l.held)) l.reader.state
      (g.W.Sink.written l.initial.sink) (g.W.Sink.written l.sink) l.count;
  limit : l.reader.max_entries ≡ MAX_ENTRIES;
  source : l.reader.source.ghost_name ≡ l.initial.reader.source.ghost_name;
  reads : g.R.Source.failures l.reader.source.now ≡ g.R.Source.failures l.fn.source;
  writes : g.W.Sink.failures l.sink ≡ g.W.Sink.failures l.initial.sink;
}

abbrev pub decreases-loop-held : goal.decreases-loop-held
decreases-loop-held g l = MAX_ENTRIES - entries_at l.reader.state
