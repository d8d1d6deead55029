use Rattle.std.proofs.Common.{rules}
use Rattle.flutejoin_line.proofs.fill_line.fill_command.Goals as goal

pub returns : goal.returns
returns c = c.command_with.ensures _ (rw c.in_ok-arguments.ensures.items (search rules))
