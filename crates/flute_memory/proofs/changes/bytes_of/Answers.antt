use Rattle.std.proofs.Common.{arith}
use Rattle.flute_memory.proofs.Logs.{bytes-later}
use Rattle.flute_memory.proofs.changes.bytes_of.Goals as goal

pub loop-count-preserved : goal.loop-count-preserved
loop-count-preserved c =
    let inv = c.loop-count.invariant in
    record {
      inside = omega (arith, c.loop-count-test.true);
      has = bytes-later c.args.changes.now c.loop-count.count c.index-changes-count.result c.args.file
          c.loop-count-test.true c.index-changes-count.is c.in_ok-add_bytes.ensures inv.has;
    }
