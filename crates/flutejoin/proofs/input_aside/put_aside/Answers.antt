-- put_aside: an input is put into the sink as it is read.
use Rattle.std.proofs.Common.{◌++◌, take, arith, length-append, length-take-le}
use Rattle.std.proofs.KnownBytes.{Appends-trans, Consumes-trans}
use Rattle.flutejoin.proofs.input_aside.put_aside.Goals as goal

pub loop-count-preserved : goal.loop-count-preserved
loop-count-preserved g c =
    let so_far = c.loop-count.invariant.1 in
    let part = take c.in-Ok.count c.read.new.buffer in (
      omega (arith, c.if-count-size.false, c.loop-count.invariant.0),
      (
        so_far.0 ++ part,
        Consumes-trans _ _ _ so_far.0 part so_far.1 c.in-Ok.ensures.bytes.0,
        Appends-trans _ _ _
            so_far.0 part so_far.2 c.in-Ok-write_all.ensures.bytes,
        omega (
          arith,
          so_far.3,
          length-append
              so_far.0 part,
          length-take-le c.in-Ok.count c.read.new.buffer c.in-Ok.ensures.bound,
        ),
      ),
      omega
          (arith, c.loop-count.invariant.2, c.in-Ok-write_all.ensures.failures),
    )
