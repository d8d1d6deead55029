-- command: each call sets what it names, and nothing else of the command, or adds a command.
use Rattle.std.proofs.Common.{◌≡◌, ◌∙◌, ap, true}
use Rattle.clap.specs.Simple.{Shape, app_of, app_of_fields, on_top}
use Rattle.flutejoin_line.specs.Parser.{no_commands}
use Rattle.flutejoin_line.specs.CommandLine.{program}
use Rattle.flutejoin_line.proofs.Parsing.{command_added}
use Rattle.flutejoin_line.proofs.parser.command.Goals as goal

pub returns : goal.returns
unfolding program
returns c =
    let versioned = ap app_of_fields c.version.ensures
    ∙ ap (on_top (λ (s : Shape). record s { has_version = true })) c.new.ensures.app in
    let explained = ap app_of_fields c.after_help.ensures ∙ ap app_of_fields c.about.ensures
    ∙ ap app_of_fields c.long_version.ensures
    ∙ ap (on_top (λ (s : Shape). record s { has_long_version = true })) versioned in
    let unnamed = ap app_of_fields c.no_binary_name.ensures
    ∙ ap (on_top (λ (s : Shape). record s { no_binary_name = true })) explained in
    let requiring = ap app_of_fields c.subcommand_required.ensures
    ∙ ap (on_top (λ (s : Shape). record s { subcommand_required = true }))
    (ap app_of_fields c.in_ok-bin_name.ensures.0 ∙ unnamed) in
    let without_commands : app_of c.arg_required_else_help.result ≡ no_commands =
    ap app_of_fields c.arg_required_else_help.ensures
    ∙ ap (on_top (λ (s : Shape). record s { arg_required_else_help = true })) requiring in
    let with_packet = command_added without_commands c.in_ok-packet_command.ensures
    c.in_ok-subcommand.ensures in
    let with_show = command_added with_packet c.in_ok-show_command.ensures
    c.in_ok-subcommand-2.ensures in
    let with_gaps = command_added with_show c.in_ok-gaps_command.ensures
    c.in_ok-subcommand-3.ensures in
    let with_compare = command_added with_gaps c.in_ok-compare_command.ensures
    c.in_ok-subcommand-4.ensures in
    let with_extract = command_added with_compare c.in_ok-extract_command.ensures
    c.in_ok-subcommand-5.ensures in
    let with_info = command_added with_extract c.in_ok-info_command.ensures
    c.in_ok-subcommand-6.ensures in
    let with_join = command_added with_info c.in_ok-join_command.ensures
    c.in_ok-subcommand-7.ensures in
    let with_merge = command_added with_join c.in_ok-merge_command.ensures
    c.in_ok-subcommand-8.ensures in
    let with_minus = command_added with_merge c.in_ok-minus_command.ensures
    c.in_ok-subcommand-9.ensures in
    let with_fill = command_added with_minus c.in_ok-fill_command.ensures
    c.in_ok-subcommand-10.ensures in
    let with_forget = command_added with_fill c.in_ok-forget_command.ensures
    c.in_ok-subcommand-11.ensures in
    command_added with_forget c.in_ok-carousel_command.ensures c.in_ok-command.ensures
