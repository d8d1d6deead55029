use Rattle.std.proofs.Common.{refl}
use Rattle.flutejoin_line.proofs.CommandWords.{not_ended}
use Rattle.flutejoin_line.proofs.sizes.number_and_unit.Goals as goal

pub returns-clause-parts : goal.returns-clause-parts
unfolding lib.Utf8.encode
returns-clause-parts c =
    rw (
      not_ended 75 c.args.text.now c.in_default.ensures.cases,
      not_ended 77 c.args.text.now c.in_default-strip_suffix.ensures.cases,
      not_ended 71 c.args.text.now c.in_default-strip_suffix-2.ensures.cases,
    ) refl
