-- same_piece: whether the bytes so far are the same.
use Rattle.std.proofs.Common.{◌≡◌, bytes_eq, take}
use Rattle.flute_streams.proofs.merge.same_bytes.same_piece.Given as goal

abbrev pub invariant-loop-index : goal.invariant-loop-index
invariant-loop-index g l = l.same ≡ bytes_eq (take l.index l.fn.first) (take l.index l.fn.second)
