-- ObjectScan::next: what holds in its loop.
use Rattle.std.proofs.Common.{◌-◌, length}
use Rattle.flute_store.proofs.Common
use Common.{sizes, Scanned, CanFollow, CanCome, Scans, announced, BeginsBlocks}
use Rattle.flute_store.proofs.scan.ObjectScan.next.Given as goal

abbrev pub invariant-loop-turn : goal.invariant-loop-turn
invariant-loop-turn l = ((s : Scanned) → Scans l.initial.self s → CanFollow s l.fn.next → CanCome s
    l.fn.next → Scans l.self (announced s l.fn.next)) × BeginsBlocks l.initial.self l.self

abbrev pub decreases-loop-turn : goal.decreases-loop-turn
decreases-loop-turn l = length (sizes l.self.walk.partition) - l.self.walk.begun
