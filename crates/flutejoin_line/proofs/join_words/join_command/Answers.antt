use Rattle.std.proofs.Common.{rules}
use Rattle.flutejoin_line.specs.Parser.{IsArgument, input_list}
use Rattle.flutejoin_line.proofs.join_words.join_command.Goals as goal

pub returns : goal.returns
returns c =
    let inputs : IsArgument input_list c.num_args.result =
    search (rules, c.num_args.ensures, c.action.ensures, c.input.ensures) in
    c.command_with.ensures _ (rw c.in_ok-arguments.ensures.items (search (rules, inputs)))
