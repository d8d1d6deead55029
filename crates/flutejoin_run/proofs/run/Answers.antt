-- run: what a line does, stated of its words.
use Rattle.std.proofs.Common.{Result, Ok, Err, OnOk}
use Rattle.flutejoin.specs.declared.command_fault.CommandFault.{CommandFault}
use Rattle.flutejoin_run.proofs.run.Goals as goal

-- what follows of a success
when_done : {P Q : Type 0} (r : Result (Unit {0}) CommandFault) → (P → Q) → OnOk r P → OnOk r Q
when_done (Ok u) f p = f p
when_done (Err e) f p = tt

pub returns-clause-done : goal.returns-clause-done
returns-clause-done g c =
    when_done c.run_line.result
    (λ done. (c.in_ok-line.line, c.in_ok-line.ensures.read, c.run_line.ensures.spared, done))
    c.run_line.ensures.done
