use Rattle.std.proofs.Common.{ap, ◌∙◌}
use Rattle.flute_store.{specs.PartitionScan.{at_start}, proofs.Turns.{start-held}}
use Rattle.flute_store.proofs.held_scan.HeldScan.new.Goals as goal

pub returns-clause-start : goal.returns-clause-start
returns-clause-start c = rw (c.new.ensures.start c.new-2.result, c.new-2.ensures)

pub returns-clause-walk : goal.returns-clause-walk
returns-clause-walk c = start-held c.args.info.now _ _
    (c.new.ensures.start _ ∙ ap (at_start _) c.new-2.ensures)
    c.new.ensures.place c.requires.ordered c.requires.known c.requires.few
