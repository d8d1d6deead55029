-- same_pieces: what is before the bytes that are left is the same.
use Rattle.flute_streams.proofs.Common.{length}
use Rattle.flute_streams.proofs.merge_lemmas.SameBytes.{SameFront}
use Rattle.flute_streams.proofs.merge.same_bytes.same_pieces.Given as goal

abbrev pub invariant-loop-left : goal.invariant-loop-left
invariant-loop-left l = SameFront l.fn.first l.fn.second l.left l.right

abbrev pub decreases-loop-left : goal.decreases-loop-left
decreases-loop-left l = length l.left
