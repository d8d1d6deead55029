use Rattle.std.proofs.Common.{ap, ◌∙◌}
use Rattle.flute_store.{specs.PartitionScan.{gaps_left}, proofs.ToldObjects.{start-left}}
use Rattle.flute_store.proofs.gaps.Gaps.new.Goals as goal

pub returns-clause-gaps : goal.returns-clause-gaps
returns-clause-gaps c = ap gaps_left c.new.ensures.start ∙ start-left _ _
