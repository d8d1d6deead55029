-- write_store: so far the header and the entries of the facts that are not left were written.
use Rattle.flute_journal.proofs.{Common.{◌≡◌, ◌+◌, times_failed}, writers_lemmas.Saving.{Saved}}
use Rattle.flute_journal.proofs.writers.journal_of_store.write_store.Given as goal

abbrev pub invariant-loop-fact : goal.invariant-loop-fact
invariant-loop-fact g l = record {
  saved : Saved l.fn.store l.fact-iterator l.writer.failed (g.W.Sink.written l.fn.sink)
      (g.W.Sink.written l.writer.sink.now) l.count;
  failures : g.W.Sink.failures l.writer.sink.now
      ≡ g.W.Sink.failures l.fn.sink + times_failed l.writer.failed;
  same_sink : l.writer.sink.ghost_name ≡ l.initial.writer.sink.ghost_name;
}
