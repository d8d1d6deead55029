-- has_left: a piece more was read.
use Rattle.std.proofs.Common.{◌-◌, take, arith, length-take-le}
use Rattle.flutejoin.specs.Sending.{ReadsOf}
use Rattle.flutejoin.proofs.carousel_lemmas.SentSoFar.{reads_on}
use Rattle.flutejoin.proofs.carousel.has_left.Goals as goal

pub loop-count-preserved : goal.loop-count-preserved
loop-count-preserved g c =
    let u = g.R.Source.unread c.args.source.now in
    let v = g.R.Source.unread c.loop-count.source in
    let w = g.R.Source.unread c.read.new.self in
    let left = c.loop-count.left in
    let piece : ReadsOf v w left (left - c.in-Ok.count) = record {
      bytes = take c.in-Ok.count c.read.new.buffer;
      read = c.in-Ok.ensures.bytes.0;
      counted = omega (
        arith,
        c.if-count-left.true,
        length-take-le c.in-Ok.count c.read.new.buffer
            c.in-Ok.ensures.bound,
      );
    } in (
      omega (arith, c.in-Ok.ensures.failures, c.loop-count.invariant.0),
      reads_on u v w _ _ _
          c.loop-count.invariant.1 piece,
    )
