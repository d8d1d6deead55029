use Rattle.std.proofs.Common.{Some, subst}
use Rattle.flute_store.{specs.HeldScan.{Turns}, proofs.Turns.{keeps-step}}
use Rattle.flute_store.proofs.held_scan.HeldScan.next.Goals as goal

pub loop-gap-preserved-in-Some-Fitting : goal.loop-gap-preserved-in-Some-Fitting
loop-gap-preserved-in-Some-Fitting c = keeps-step _ _ _ _ tt c.loop-gap.invariant (subst
    (λ t. Turns c.loop-gap.self (Some t) c.turn.new.self) c.in-Some-Fitting.field-0-is
    c.in-Some-Fitting.ensures)

pub loop-gap-preserved-in-Some-Wanted : goal.loop-gap-preserved-in-Some-Wanted
loop-gap-preserved-in-Some-Wanted c = keeps-step _ _ _ _ tt c.loop-gap.invariant (subst
    (λ t. Turns c.loop-gap.self (Some t) c.turn.new.self) c.in-Some-Wanted.field-0-is
    c.in-Some-Wanted.ensures)

pub loop-gap-preserved-in-Some-Passed : goal.loop-gap-preserved-in-Some-Passed
loop-gap-preserved-in-Some-Passed c = keeps-step _ _ _ _ tt c.loop-gap.invariant (subst
    (λ t. Turns c.loop-gap.self (Some t) c.turn.new.self) c.in-Some-Passed.field-0-is
    c.in-Some-Passed.ensures)
