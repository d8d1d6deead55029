-- given: those of the options so far are given as often as they are to be.
use Rattle.std.proofs.Common.{◌≡◌, drop}
use Rattle.flutejoin_line.specs.Options.{first_unfit, form_of, found_rows}
use Rattle.flutejoin_line.proofs.words.given.Given as goal

abbrev pub invariant-loop-option : goal.invariant-loop-option
invariant-loop-option l =
    first_unfit (form_of l.fn.options) (found_rows l.fn.matches)
    ≡ first_unfit (form_of (drop l.option-index l.fn.options)) (found_rows l.fn.matches)
