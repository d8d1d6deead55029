-- write_into: what was known when the output was made.
use Rattle.std.specs.Prelude.{option_map}
use Rattle.flute_output.specs.Entries.{found_in, named_in}
use Rattle.flutejoin_commands.proofs.output_command.write_into.Given as goal

abbrev pub ghosts-write_created : goal.ghosts-write_created
ghosts-write_created g a =
    record {
      found = option_map found_in (g.F.Folder.entries a.output);
      named =
          option_map named_in (g.F.Folder.entries a.output);
      failures = g.F.Folder.failures a.output;
    }
