use Rattle.std.proofs.Common.{◌∙◌, inl}
use Rattle.clap.specs.declared.parser.matches.ArgMatches.TheViews.{out-ArgMatches}
use Rattle.flutejoin_line.specs.Options.{found_rows}
use Rattle.flutejoin_line.proofs.CommandFound.{line_named, name_known, none_named}
use Rattle.flutejoin_line.proofs.CommandWords.{command_found}
use Rattle.flutejoin_line.proofs.Parsing.{words_refused, words_taken}
use Rattle.flutejoin_line.proofs.line.line_of.Goals as goal

pub returns-in_default : goal.returns-in_default
returns-in_default c = record {
  read = inl (words_refused _ _ c.in-Err.error c.in_ok-command.ensures
      c.in-Err.ensures.kinds (λ short. c.in_default.not-OutOfMemory (c.kind.ensures ∙ short)));
}

pub line_by_name-requires : goal.line_by_name-requires
line_by_name-requires c =
    let taken = words_taken _ _ c.in-Ok.matches c.in_ok-command.ensures
    c.in-Ok.ensures.matches c.in-Ok.ensures.kinds in
    name_known _ taken.0
    (command_found (out-ArgMatches c.in-Ok.matches).subcommand c.in-Some.name.now
    (found_rows c.in-Some.matches.now) c.in-Some.ensures.name c.in-Some.ensures.rows ∙ taken.1)

pub unreachable-requires : goal.unreachable-requires
unreachable-requires c =
    let taken = words_taken _ _ c.in-Ok.matches c.in_ok-command.ensures
    c.in-Ok.ensures.matches c.in-Ok.ensures.kinds in
    none_named _ _ taken.0 taken.1 c.in-None.ensures.rows

pub returns : goal.returns
returns c =
    let taken = words_taken _ _ c.in-Ok.matches c.in_ok-command.ensures
    c.in-Ok.ensures.matches c.in-Ok.ensures.kinds in
    record {
      read =
          line_named _ taken.0
          (command_found (out-ArgMatches c.in-Ok.matches).subcommand c.in-Some.name.now
          (found_rows c.in-Some.matches.now) c.in-Some.ensures.name c.in-Some.ensures.rows
          ∙ taken.1)
          c.line_by_name.result c.line_by_name.ensures;
    }
