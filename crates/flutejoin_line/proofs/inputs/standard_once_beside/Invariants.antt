-- standard_once_beside: whether standard input is there again is a matter of the inputs that are
-- left.
use Rattle.std.proofs.Common.{◌≡◌, drop}
use Rattle.flutejoin_line.proofs.StandardInputs.{is_again, is_first}
use Rattle.flutejoin_line.proofs.inputs.standard_once_beside.Given as goal

abbrev pub invariant-loop-input : goal.invariant-loop-input
invariant-loop-input l =
    is_again (is_first l.fn.list) l.fn.inputs
    ≡ is_again l.is_there (drop l.input-index l.fn.inputs)
