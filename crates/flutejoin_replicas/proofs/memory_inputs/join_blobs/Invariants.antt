-- join_blobs: the inputs so far were opened.
use Rattle.std.proofs.Common.{Some}
use Rattle.flutejoin_replicas.proofs.MemoryFacts.{OpenedSoFar}
use Rattle.flutejoin_replicas.proofs.memory_inputs.join_blobs.Given as goal

abbrev pub invariant-loop-input : goal.invariant-loop-input
invariant-loop-input l = OpenedSoFar (λ s. Some s.unread.now) l.inputs l.opened.items l.input-index
