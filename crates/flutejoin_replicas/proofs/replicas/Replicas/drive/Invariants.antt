-- Replicas::drive: the steps so far.
use Rattle.flutejoin_replicas.proofs.DriveSteps.{DriveSoFar}
use Rattle.flutejoin_replicas.proofs.replicas.Replicas.drive.Given as goal

abbrev pub invariant-loop-k : goal.invariant-loop-k
invariant-loop-k g l = DriveSoFar l.fn.self l.steps l.done l.k l.self
