-- Adding commands and arguments to the parser, and that its clauses hold of what was added.
use Rattle.std.proofs.Common.{◌≡◌, List, [], ◌∷◌, ◌++◌, true, ◌||◌, Result, Ok, Err}
use Rattle.std.proofs.Common.{inl, inr, refl, ap, ap₂, ◌∙◌}
use Rattle.std.proofs.lemmas.List.{append-nil, append_assoc}
use Rattle.std.specs.List.{AllZip}
use Rattle.clap.specs.Built.{AddsArg, AddsInTurn, AddsSubcommand}
use Rattle.clap.specs.Faults.{fault_of, is_simple_and_free}
use Rattle.clap.specs.Kinds.{FailsBy, IsAmong}
use Rattle.clap.specs.Simple.{App, HasMatchesOf, Shape, app_of, is_simple, subcommand_of}
use Rattle.clap.specs.Simple.{subcommand_rows_of, with_subcommand}
use Rattle.clap.specs.Values.{kind_of}
use Rattle.clap.specs.Walk.{Rule, Text}
use Rattle.clap.specs.declared.builder.arg.Arg.{Arg}
use Rattle.clap.specs.declared.builder.command.Command.{Command}
use Rattle.clap.specs.declared.error.Error.{Error}
use Rattle.clap.specs.declared.error.kind.ErrorKind.TheVariants as kind
use Rattle.clap.specs.declared.parser.matches.ArgMatches.{ArgMatches}
use Rattle.flutejoin_line.specs.Parser.{IsArgument, IsCommand, command_with}
use Rattle.flutejoin_line.specs.CommandLine.{command_in, program}
use Rattle.flutejoin_line.specs.CommandLine.{refusals_of}

-- one argument more
argument_added : {name : Text} {rules : List Rule} {rule : Rule} {old new : Command}
    {arg : Arg} → IsCommand name rules old → IsArgument rule arg → AddsArg old arg new → IsCommand
    name (rules ++ rule ∷ []) new
argument_added was is added = record {
  shape_is =
      ap (λ (a : App). a.top) (added.shape is.is_local)
      ∙ ap₂ (λ (s : Shape) (r : Rule). record s { rules = s.rules ++ r ∷ [] }) was.shape_is
      is.rule_is;
  is_local = added.globals ∙ ap₂ (λ x y. x || y) was.is_local is.is_local;
}

-- a command without an argument gets these
pub arguments_added : {name : Text} {rules : List Rule} {args items : List Arg}
    {old new : Command} → items ≡ args → AllZip IsArgument rules args → IsCommand name [] old
    → AddsInTurn AddsArg old items new → IsCommand name rules new
arguments_added {name = name} {rules = rules} {args = args} same are was added =
    go [] rules args was are (rw (← same) added)
  where
    go : (before rules : List Rule) (args : List Arg) {old new : Command}
        → IsCommand name before old → AllZip IsArgument rules args → AddsInTurn AddsArg old args new
        → IsCommand name (before ++ rules) new
    go before [] [] was are added = rw (append-nil before) (rw (← added) was)
    go before (r ∷ rs) (a ∷ rest) was are added =
        rw (← append_assoc before (r ∷ []) rs)
        (go (before ++ r ∷ []) rs rest (argument_added was are.0 added.1) are.1 added.2)
    go before [] (_ ∷ _) was are added = absurd are
    go before (_ ∷ _) [] was are added = absurd are

-- one command more
pub command_added : {name : Text} {rules : List Rule} {app : App} {old sub new : Command} → app_of
    old ≡ app → IsCommand name rules sub → AddsSubcommand old sub new → app_of new ≡
    with_subcommand app (command_with name rules)
command_added was is added = added.shape is.is_local ∙ ap₂ with_subcommand was is.shape_is

-- the parser's clauses are of such programs
is_simple_program : is_simple program ≡ true
unfolding program
is_simple_program = refl

is_free_program : is_simple_and_free program ≡ true
unfolding program
is_free_program = refl

-- what it finds
found : (app : App) (words : List Text) (m : ArgMatches) → app ≡ program → HasMatchesOf app words m
    → subcommand_rows_of m ≡ command_in words
unfolding command_in
found app words m is has = (has (ap is_simple is ∙ is_simple_program)).1 ∙ ap
    (λ a. subcommand_of a words) is

-- and refuses
refused : (app : App) (words : List Text) (read : Result ArgMatches Error) → app ≡ program →
    (is_simple_and_free app ≡ true → FailsBy (fault_of app words) read) → FailsBy
    (refusals_of words) read
unfolding refusals_of
refused app words read is has = rw (← is) (has (ap is_simple_and_free is ∙ is_free_program))

-- the words are taken
pub words_taken : (app : App) (words : List Text) (m : ArgMatches) → app ≡ program
    → HasMatchesOf app words m
    → (is_simple_and_free app ≡ true → FailsBy (fault_of app words) (Ok m))
    → (refusals_of words ≡ []) × (subcommand_rows_of m ≡ command_in words)
words_taken app words m is has kinds =
    (refused app words (Ok m) is kinds, found app words m is has)

-- they are refused, and not for want of memory
pub words_refused : (app : App) (words : List Text) (error : Error) → app ≡ program
    → (is_simple_and_free app ≡ true
    → FailsBy {T = ArgMatches} (fault_of app words) (Err error))
    → (kind_of error ≡ kind.OutOfMemory → ⊥) → IsAmong (kind_of error) (refusals_of words)
words_refused app words error is kinds other =
    elim (refused app words (Err error) is kinds) [
      | inl short ↦ absurd (other short)
      | inr among ↦ among
    ]
