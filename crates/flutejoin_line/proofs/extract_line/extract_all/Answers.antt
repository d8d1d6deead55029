-- extract_all: an option that does not go with `--all` is given.
use Rattle.flutejoin_line.specs.Options.{found_rows}
use Rattle.flutejoin_line.proofs.Options.{handed_on, not_for_all}
use Rattle.flutejoin_line.proofs.extract_line.extract_all.Goals as goal

pub returns-in_err-given : goal.returns-in_err-given
returns-in_err-given c =
    handed_on c.from_residual.result c.in_err-given.field-0.0 _ _ c.from_residual.ensures.1
    (not_for_all (found_rows c.args.matches.now) c.in_err-given.field-0.0 c.in_err-given.ensures)
