-- HeldScan::next_bytes: what holds in its loop.
use Rattle.std.proofs.Common.{◌-◌}
use Rattle.flute_store.proofs.Common.{bound, KeepsBytes}
use Rattle.flute_store.proofs.held_scan.HeldScan.next_bytes.Given as goal

abbrev pub invariant-loop-held : goal.invariant-loop-held
invariant-loop-held l = KeepsBytes l.initial.self l.self

abbrev pub decreases-loop-held : goal.decreases-loop-held
decreases-loop-held l = bound l.self - l.self.ticks
