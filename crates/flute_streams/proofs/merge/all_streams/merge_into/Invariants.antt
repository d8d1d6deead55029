-- merge_into: between two turns, the sink has not failed, or the merge is patient.
use Rattle.flute_streams.proofs.Common.{◌≡◌, ◌+◌, false, most_of, times_failed, IsCounted}
use Rattle.flute_streams.proofs.merge_lemmas.StreamStates.{State}
use Rattle.flute_streams.specs.Ranks.{IsLed}
use Rattle.flute_streams.proofs.merge.all_streams.merge_into.Given as goal

abbrev pub invariant-loop-lowest : goal.invariant-loop-lowest
invariant-loop-lowest g l = record {
  state : State g.G.Streams.behaviour l.writer.failed
      (IsCounted g.row.SESSIONS g.row.OBJECTS g.row.SYMBOLS l.tally l.within)
      (g.G.Streams.streams l.fn.streams) (g.G.Streams.streams l.streams)
      (g.W.Sink.written l.fn.writer.sink.now) (g.W.Sink.written l.writer.sink.now) l.entries;
  sink_failures : g.W.Sink.failures l.writer.sink.now
      ≡ g.W.Sink.failures l.fn.writer.sink.now + times_failed l.writer.failed;
  eager : l.fn.patient ≡ false → l.writer.failed ≡ false;
  same_sink : l.writer.sink.ghost_name ≡ l.fn.writer.sink.ghost_name;
  led : IsLed g.G.Streams.behaviour (g.G.Streams.streams l.streams) l.lead l.ranks;
  names : g.G.Streams.names l.streams ≡ g.G.Streams.names l.fn.streams;
}

abbrev pub decreases-loop-lowest : goal.decreases-loop-lowest
decreases-loop-lowest g l = most_of g.G.Streams.behaviour (g.G.Streams.streams l.streams)
