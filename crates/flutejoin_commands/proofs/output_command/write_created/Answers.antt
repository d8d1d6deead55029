-- write_created: what is known once it is finished.
use Rattle.std.proofs.Common.{rules, sym, ◌∙◌}
use Rattle.flutejoin_commands.proofs.Since.{WorkEnds, OutputEnds, either_since}
use Rattle.flutejoin_commands.proofs.Since.{not_on_disk}
use Rattle.flutejoin_commands.proofs.output_command.write_created.Goals as goal

pub returns-in-Ok-clause-any_moment : goal.returns-in-Ok-clause-any_moment
returns-in-Ok-clause-any_moment g c =
    either_since (g.F.Folder.entries c.args.output)
    (g.F.Folder.entries c.write-written.new.sink.output)
    (g.F.Folder.entries c.finish-done.result.1)
    (c.write-written.new.sink.named ∙ sym c.requires.named) c.finish-done.ensures.any_moment

pub returns-clause-any_moment : goal.returns-clause-any_moment
returns-clause-any_moment g c =
    either_since (g.F.Folder.entries c.args.output)
    (g.F.Folder.entries c.write-written.new.sink.output)
    (g.F.Folder.entries c.finish-done.result.1)
    (c.write-written.new.sink.named ∙ sym c.requires.named) c.finish-done.ensures.any_moment

pub returns-clause-failed : goal.returns-clause-failed
returns-clause-failed g c =
    let entries = g.F.Folder.entries in
    let failures = g.F.Folder.failures in
    let now = c.write-written.new.sink.output in
    let new = c.finish-done.result.1 in
    let work : WorkEnds (λ x. g.K.Work.writes c.args.work x.0) (entries c.args.output)
    (entries now) (failures c.args.output) (failures now) c.write-written.result = record {
      same = record {
        found = c.write-written.new.sink.found ∙ sym c.requires.found;
        named = c.write-written.new.sink.named ∙ sym c.requires.named;
      };
      quiet = c.write-written.ensures.quiet;
      written = c.write-written.ensures.written;
    } in
    let output : OutputEnds (entries now) (entries new) (failures now) (failures new)
    c.write-written.result c.finish-done.result.0 = record {
      fault = c.finish-done.ensures.fault;
      dropped = c.finish-done.ensures.dropped;
      any_moment = c.finish-done.ensures.any_moment;
      gone = c.finish-done.ensures.gone;
      cause = c.finish-done.ensures.cause;
    } in
    not_on_disk (λ x. x.0) c.write-written.result c.finish-done.result.0 work output (search rules)
