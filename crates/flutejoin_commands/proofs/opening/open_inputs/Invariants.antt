-- open_inputs: the names so far were opened.
use Rattle.std.proofs.Common.{◌≡◌, ◌+◌, map}
use Rattle.flutejoin_commands.specs.Opened.{AreFirstOpened}
use Rattle.flutejoin_commands.proofs.opening.open_inputs.Given as goal

abbrev pub invariant-loop-k : goal.invariant-loop-k
invariant-loop-k g l = record {
  same_files : g.I.Inputs.files l.inputs ≡ g.I.Inputs.files l.fn.inputs;
  same_folders : g.I.Inputs.folders l.inputs ≡ g.I.Inputs.folders l.fn.inputs;
  same_closed : g.I.Inputs.closed l.inputs ≡ g.I.Inputs.closed l.fn.inputs;
  opened : AreFirstOpened (g.I.Inputs.files l.fn.inputs) g.I.Input.Source.unread l.k
      (map (λ path. path.now) l.fn.paths) l.opened.items;
  asked : g.I.Inputs.asked l.inputs ≡ g.I.Inputs.asked l.fn.inputs + l.k;
}
