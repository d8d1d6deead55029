use Rattle.std.proofs.Common.{◌≡◌, true}
use Rattle.flute_output.proofs.Runs.{NamesStay}
use Rattle.flute_output.proofs.folder_beside.make_folder.Given as goal

abbrev pub invariant-loop-left : goal.invariant-loop-left
invariant-loop-left g l = g.C.Calls.told ≡ true
    → NamesStay l.fn.beside (g.C.Calls.run l.fn.calls) (g.C.Calls.run l.calls)

abbrev pub decreases-loop-left : goal.decreases-loop-left
decreases-loop-left g l = l.left
