-- write_gaps: the lines of the gaps before those that are left were written.
use Rattle.std.proofs.Common.{◌≡◌, length}
use Rattle.flutejoin.specs.Lines.{gap_line}
use Rattle.flutejoin_replicas.proofs.Listed.{Listed}
use Rattle.flutejoin_replicas.proofs.gaps.write_gaps.Given as goal

abbrev pub invariant-loop-gap : goal.invariant-loop-gap
invariant-loop-gap g l = record {
  listed : Listed gap_line l.initial.gaps.gaps l.gaps.gaps (g.W.Sink.written l.initial.sink)
      (g.W.Sink.written l.sink);
  failures : g.W.Sink.failures l.sink ≡ g.W.Sink.failures l.initial.sink;
}

abbrev pub decreases-loop-gap : goal.decreases-loop-gap
decreases-loop-gap g l = length l.gaps.gaps
