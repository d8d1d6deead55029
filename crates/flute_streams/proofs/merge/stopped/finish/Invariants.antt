-- finish: the stream was read on.
use Rattle.flute_streams.proofs.Common.{◌≡◌}
use Rattle.flute_streams.proofs.merge_lemmas.Finished.{ReadOn, most_at}
use Rattle.flute_streams.proofs.merge.stopped.finish.Given as goal

abbrev pub invariant-loop-alloc : goal.invariant-loop-alloc
invariant-loop-alloc g l = record {
  on : ReadOn g.G.Streams.behaviour l.fn.number (g.G.Streams.streams l.fn.streams)
      (g.G.Streams.streams l.streams);
  names : g.G.Streams.names l.streams ≡ g.G.Streams.names l.fn.streams;
}

abbrev pub decreases-loop-alloc : goal.decreases-loop-alloc
decreases-loop-alloc g l = most_at g.G.Streams.behaviour (g.G.Streams.streams l.streams) l.fn.number
