-- write_into: what failed once the file beside OUT was made.
use Rattle.flutejoin_commands.proofs.FolderSteps.{if_err}
use Rattle.flutejoin_commands.proofs.Since.{failed_before}
use Rattle.flutejoin_commands.proofs.output_command.write_into.Goals as goal

pub returns-in-Ok-clause-failed : goal.returns-in-Ok-clause-failed
returns-in-Ok-clause-failed g c =
    if_err c.write_created.result.0
    (λ fault h. failed_before c.in-Ok.ensures.made c.in-Ok.ensures.quiet h)
    c.write_created.ensures.failed
