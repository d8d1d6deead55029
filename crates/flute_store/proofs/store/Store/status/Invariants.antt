-- Store::status: what holds in its loop.
use Rattle.std.proofs.Common.{length}
use Rattle.flute_store.proofs.{HowMany.{Counts}, Common.{flat_map, listed, AreRuns}}
use Rattle.flute_store.proofs.store.Store.status.Given as goal

abbrev pub invariant-loop-gap : goal.invariant-loop-gap
invariant-loop-gap g l = AreRuns l.gaps.gaps × Counts l.wanted (flat_map listed l.initial.gaps.gaps)
    (flat_map listed l.gaps.gaps)

abbrev pub decreases-loop-gap : goal.decreases-loop-gap
decreases-loop-gap g l = length l.gaps.gaps
