use Rattle.std.proofs.Common.{arith}
use Rattle.flutejoin.proofs.lines_lemmas.Encoded.{halved-all, halved-more}
use Rattle.flutejoin.proofs.lines.hex_digits.put_halves.Goals as goal

pub loop-i-preserved : goal.loop-i-preserved
loop-i-preserved c =
    halved-more c.args.bytes.now c.loop-i.room c.loop-i.i (omega arith)
    (omega (arith, c.requires, c.loop-i.auto.room)) c.loop-i.invariant

pub returns : goal.returns
returns c =
    halved-all c.args.bytes.now c.loop-i.room c.loop-i.i (omega arith)
    (omega (arith, c.requires, c.loop-i.auto.room)) c.loop-i.invariant
