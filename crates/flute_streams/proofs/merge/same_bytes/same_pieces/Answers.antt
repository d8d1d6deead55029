-- same_pieces: a piece and the rest of each decide, and at last a piece that holds all the rest.
use Rattle.std.proofs.Common.{rules}
use Rattle.flute_streams.proofs.Common.{arith, ap, sym, ◌∙◌, ◌&&◌, Bool, bytes_eq}
use Rattle.flute_streams.proofs.merge_lemmas.SameBytes.{same-last, same-left, same-on, same-split}
use Rattle.flute_streams.proofs.merge.same_bytes.same_pieces.Goals as goal

pub loop-left-init : goal.loop-left-init
loop-left-init = search rules

pub returns-then-not-same_piece : goal.returns-then-not-same_piece
returns-then-not-same_piece c =
    let rest = bytes_eq c.split_at.result.1.now c.split_at-in-loop-left.result.1.now in
    let split = same-split c.loop-left.left.now c.loop-left.right.now 512
    c.loop-left.invariant.as_many c.split_at.ensures.front c.split_at-in-loop-left.ensures.front
    c.split_at.ensures.back c.split_at-in-loop-left.ensures.back in ap (λ (b : Bool). b && rest)
    c.if-not-same_piece.ensures ∙ sym split ∙ sym (same-left c.loop-left.invariant)

pub loop-left-preserved : goal.loop-left-preserved
loop-left-preserved c = same-on c.loop-left.invariant 512 c.split_at.ensures.front
    c.split_at-in-loop-left.ensures.front c.split_at.ensures.back
    c.split_at-in-loop-left.ensures.back (sym c.if-not-same_piece.ensures)

pub returns-then-left-le-SHORT : goal.returns-then-left-le-SHORT
returns-then-left-le-SHORT c = c.same_piece-then-left-le-SHORT.ensures ∙ same-last
    c.loop-left.invariant 448 (omega (arith, c.requires.many))
    (omega (arith, c.if-left-le-SHORT.true))

pub returns-else-left-le-SHORT : goal.returns-else-left-le-SHORT
returns-else-left-le-SHORT c = c.same_piece-else-left-le-SHORT.ensures ∙ same-last
    c.loop-left.invariant 512 c.requires.many (omega (arith, c.loop-left-test.false))
