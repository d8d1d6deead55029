-- HeldScan::next_bytes: its loop over turns, and what each turn gives.
use Rattle.std.proofs.Common.{Some, sym, ◌∙◌, subst}
use Rattle.flute_store.proofs.Common.{Turns}
use Rattle.flute_store.proofs.BytesSteps.{no-bytes, pass-keeps, begin-keeps, keeps-on, gives-first}
use Rattle.flute_store.proofs.held_scan.HeldScan.next_bytes.Goals as goal

pub returns-in-Some-Fitting : goal.returns-in-Some-Fitting
returns-in-Some-Fitting c =
    gives-first c.args.self.now c.loop-held.self c.turn.new.self c.value.result
    c.loop-held.invariant c.in-Some.ensures.1 (subst (λ t. Turns c.loop-held.self (Some t)
    c.turn.new.self) c.in-Some-Fitting.field-0-is c.in-Some-Fitting.ensures) c.value.ensures

pub loop-held-preserved-in-Some-Passed : goal.loop-held-preserved-in-Some-Passed
loop-held-preserved-in-Some-Passed c = keeps-on _ _ _ c.loop-held.invariant (pass-keeps _ _
    c.loop-held.invariant.walk c.loop-held.invariant.whole
    (rw (← c.in-Some-Passed.field-0-is) c.in-Some-Passed.ensures))

pub loop-held-preserved : goal.loop-held-preserved
loop-held-preserved c = keeps-on _ _ _ c.loop-held.invariant
    (begin-keeps _ _ c.loop-held.invariant.walk c.loop-held.invariant.whole c.in-None.ensures)

pub returns-in-Some-Gap : goal.returns-in-Some-Gap
returns-in-Some-Gap c = sym c.loop-held.invariant.bytes ∙ no-bytes _ _ _ c.loop-held.invariant.walk
    c.loop-held.invariant.whole (subst (λ t. Turns c.loop-held.self (Some t) c.turn.new.self)
    c.in-Some-Gap.field-0-is c.in-Some-Gap.ensures) tt

pub returns-in-Some-End : goal.returns-in-Some-End
returns-in-Some-End c = sym c.loop-held.invariant.bytes ∙ no-bytes _ _ _ c.loop-held.invariant.walk
    c.loop-held.invariant.whole (subst (λ t. Turns c.loop-held.self (Some t) c.turn.new.self)
    c.in-Some-End.field-0-is c.in-Some-End.ensures) tt
