use Rattle.std.proofs.Common.{rules}
use Rattle.flute_streams.proofs.merge_lemmas.SameBytes.{same-more}
use Rattle.flute_streams.proofs.merge.same_bytes.same_piece.Goals as goal

pub loop-index-preserved : goal.loop-index-preserved
loop-index-preserved g c = search (rules, same-more)
