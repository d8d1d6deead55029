use Rattle.flute_output.proofs.Runs.{none_open}
use Rattle.flute_output.proofs.disk_folder.DiskFolder.new.Goals as goal

pub invariant_of-result : goal.invariant_of-result
invariant_of-result g c = record {
  parent = λ t. tt;
  apart = λ t. none_open _ _ _ c.in_ok-closed.ensures;
  taken = λ t. none_open _ _ _ c.in_ok-closed.ensures;
}
