-- run: the steps so far.
use Rattle.flutejoin_replicas.specs.Held.{capacity}
use Rattle.flutejoin_replicas.proofs.RunSteps.{RunSoFar}
use Rattle.flutejoin_replicas.proofs.runs.run.Given as goal

abbrev pub invariant-loop-k : goal.invariant-loop-k
invariant-loop-k g l =
    RunSoFar (capacity g.row.SESSIONS g.row.OBJECTS g.row.SYMBOLS) l.count l.steps l.k l.replicas
