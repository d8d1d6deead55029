-- command_with: a command gets the arguments that follow the rules.
use Rattle.std.proofs.Common.{◌∙◌, [], ap, refl}
use Rattle.clap.specs.Simple.{App, app_of_fields}
use Rattle.flutejoin_line.specs.Parser.{IsCommand}
use Rattle.flutejoin_line.proofs.Parsing.{arguments_added}
use Rattle.flutejoin_line.proofs.parser.command_with.Goals as goal

pub returns : goal.returns
returns c = λ rules are.
    let app = ap app_of_fields c.after_help.ensures ∙ ap app_of_fields c.about.ensures
    ∙ c.new.ensures.app in
    let begun : IsCommand c.args.name.now [] c.after_help.result = record {
      shape_is = ap (λ (a : App). a.top) app;
      is_local = ap (λ f. f.has_globals) c.after_help.ensures
          ∙ ap (λ f. f.has_globals) c.about.ensures ∙ c.new.ensures.local;
    } in
    arguments_added refl are begun c.in_ok-command.ensures
