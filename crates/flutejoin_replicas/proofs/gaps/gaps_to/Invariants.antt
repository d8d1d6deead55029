-- gaps_to: the lines of the objects before those that are left were written.
use Rattle.std.proofs.Common.{◌≡◌, length}
use Rattle.flutejoin.specs.Objects.{object_lines}
use Rattle.flutejoin_replicas.proofs.Listed.{Listed}
use Rattle.flutejoin_replicas.proofs.gaps.gaps_to.Given as goal

abbrev pub invariant-loop-key : goal.invariant-loop-key
invariant-loop-key g l = record {
  listed : Listed (object_lines l.shelf) l.initial.keys l.keys (g.W.Sink.written l.initial.sink)
      (g.W.Sink.written l.sink);
  failures : g.W.Sink.failures l.sink ≡ g.W.Sink.failures l.initial.sink;
}

abbrev pub decreases-loop-key : goal.decreases-loop-key
decreases-loop-key g l = length l.keys
