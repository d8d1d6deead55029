use Rattle.std.proofs.Common.{arith}
use Rattle.flute_store.proofs.HowMany.{adds-reason}
use Rattle.flute_store.proofs.status.Wanted.add.Goals as goal

pub returns-in-Missing : goal.returns-in-Missing
returns-in-Missing c = adds-reason c.args.gap _ _ _ c.in-Missing.is
    (omega (arith, c.from.ensures)) (omega arith) (omega arith)

pub returns-in-Conflicting : goal.returns-in-Conflicting
returns-in-Conflicting c = adds-reason c.args.gap _ _ _ c.in-Conflicting.is
    (omega arith) (omega (arith, c.from.ensures)) (omega arith)

pub returns-in-Misfit : goal.returns-in-Misfit
returns-in-Misfit c = adds-reason c.args.gap _ _ _ c.in-Misfit.is (omega arith)
    (omega arith) (omega (arith, c.from.ensures))
