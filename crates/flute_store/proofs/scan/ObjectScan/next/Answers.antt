use Rattle.std.proofs.Common.{rules}
use Rattle.flute_store.proofs.ScanSteps.{part-of}
use Rattle.flute_store.proofs.scan.ObjectScan.next.Goals.{in-Some-default-Some}
use Rattle.flute_store.proofs.scan.ObjectScan.next.Goals.{in-Some-default-None}
use Rattle.flute_store.proofs.scan.ObjectScan.next.Goals.{in-None}
use Rattle.flute_store.proofs.scan.ObjectScan.next.Goals as goal

pub returns-in-Some-clause-part : goal.returns-in-Some-clause-part
returns-in-Some-clause-part c = λ s q. part-of _ s q

pub returns-in-Some-clause-blocks : goal.returns-in-Some-clause-blocks
returns-in-Some-clause-blocks = search rules

pub loop-turn-preserved : goal.loop-turn-preserved
loop-turn-preserved = search rules

pub loop-turn-smaller : goal.loop-turn-smaller
loop-turn-smaller = search rules
