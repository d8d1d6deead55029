-- HeldScan::next: what holds in its loop.
use Rattle.std.proofs.Common.{◌-◌}
use Rattle.flute_store.specs.HeldScan.{KeepsGaps, bound}
use Rattle.flute_store.proofs.held_scan.HeldScan.next.Given as goal

abbrev pub invariant-loop-gap : goal.invariant-loop-gap
invariant-loop-gap l = KeepsGaps l.initial.self l.self

abbrev pub decreases-loop-gap : goal.decreases-loop-gap
decreases-loop-gap l = bound l.self - l.self.ticks
