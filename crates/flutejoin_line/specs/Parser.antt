-- The arguments and commands of the command line's parser.
use Rattle.std.specs.Prelude.{◌≡◌, ◌∷◌, ◌++◌, [], List, Some, true, false, codes}
use Rattle.clap.specs.Lexer.{usize_max}
use Rattle.clap.specs.Simple.{App, Shape, new_rule, new_shape, shape_of}
use Rattle.clap.specs.Walk.{Rule, Text, rule_of}
use Rattle.clap.specs.declared.builder.action.ArgAction.TheVariants.{Set, Append, SetTrue}
use Rattle.clap.specs.declared.builder.arg.Arg.{Arg}
use Rattle.clap.specs.declared.builder.command.Command.{Command}
use Rattle.clap.specs.declared.builder.command.Command.TheViews.{out-Command}

-- ---- arguments

-- a word at its place
abbrev pub place : Text → Rule
place id = record (new_rule id) { action = Some Set; required = true }

-- an option with one value, by its name
abbrev pub option : Text → Rule
option name = record (new_rule name) { long = Some name; action = Some Set; value_names = 1 }

-- one that has to be given
abbrev pub needed : Rule → Rule
needed rule = record rule { required = true }

-- `-o`
abbrev pub out : Rule
out = record (place (codes "OUT")) { short = Some 111 }

-- `--force`, or `-f`
abbrev pub force_flag : Rule
force_flag = record (new_rule (codes "force")) {
  short = Some 102;
  long = Some (codes "force");
  action = Some SetTrue;
}

-- `--tsi`, as often as one likes
abbrev pub session_list : Rule
session_list = record (option (codes "tsi")) { action = Some Append }

-- a flag, by its name
abbrev pub long_flag : Text → Rule
long_flag name = record (new_rule name) { long = Some name; action = Some SetTrue }

-- `--any-size`
abbrev pub size_flag : Rule
size_flag = long_flag (codes "any-size")

-- words to the end, one or more
abbrev pub input_list : Rule
input_list = record (place (codes "INPUT")) {
  action = Some Append;
  range = Some (record { start_inclusive = 1; end_inclusive = usize_max });
}

-- what names an object
abbrev pub key_rules : List Rule
key_rules =
    needed (option (codes "tsi")) ∷ needed (option (codes "toi")) ∷ option (codes "fdt") ∷ []

-- what selects objects of a journal
abbrev pub object_rules : List Rule
object_rules =
    option (codes "source") ∷ session_list ∷ option (codes "toi") ∷ option (codes "fdt")
    ∷ []

-- what selects its entries
abbrev pub selection_rules : List Rule
selection_rules =
    long_flag (codes "conflicts")
    ∷ object_rules ++ option (codes "symbol") ∷ long_flag (codes "info") ∷ []

-- how it is cut
abbrev pub size_rules : List Rule
size_rules = needed (option (codes "symbol")) ∷ needed (option (codes "block")) ∷ []

-- the journal that is read
abbrev pub journal_rules : List Rule
journal_rules = place (codes "J") ∷ []

-- ---- commands

-- a command with these arguments
abbrev pub command_with : Text → List Rule → Shape
command_with name rules = record (new_shape name) { rules = rules }

-- the program's name, which has a version, and a longer one
abbrev pub with_versions : App
with_versions = record {
  top = record (new_shape (codes "flutejoin")) {
    has_version = true;
    has_long_version = true;
  };
  subs = [];
}

-- the program without them; its own name is none of its words
abbrev pub no_commands : App
no_commands = record {
  top = record with_versions.top {
    no_binary_name = true;
    arg_required_else_help = true;
    subcommand_required = true;
  };
  subs = [];
}

-- the argument is that one, and of its own command alone
pub record IsArgument (rule : Rule) (arg : Arg) : Type 0 where
  pub rule_is : rule_of arg ≡ rule
  pub is_local : arg.global ≡ false

-- the command is that one
pub record IsCommand (name : Text) (rules : List Rule) (command : Command) : Type 0 where
  pub shape_is : shape_of command ≡ command_with name rules
  pub is_local : (out-Command command).has_globals ≡ false
