-- first_fault: those that were reached have ended.
use Rattle.flute_streams.proofs.Common.{◌≡◌, ◌≤◌}
use Rattle.flute_streams.proofs.merge_lemmas.Finished.{Reached}
use Rattle.flute_streams.proofs.merge.stopped.first_fault.Given as goal

abbrev pub invariant-loop-number : goal.invariant-loop-number
invariant-loop-number g l = record {
  reached : Reached g.G.Streams.behaviour l.fn.stopped.number l.number
      (g.G.Streams.streams l.fn.streams) (g.G.Streams.streams l.streams);
  within : l.number ≤ l.fn.stopped.number;
  names : g.G.Streams.names l.streams ≡ g.G.Streams.names l.fn.streams;
}
