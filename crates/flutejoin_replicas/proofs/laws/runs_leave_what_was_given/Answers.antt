use Rattle.flutejoin_replicas.proofs.Given.{run_leaves}
use Rattle.flutejoin_replicas.proofs.laws.runs_leave_what_was_given.Goals as goal

pub returns : goal.returns
returns c n m steps others origins further r q now then done done_too fits fits_too members =
    record {
      count = n;
      steps = steps;
      origins = origins;
      replica = r;
      left = run_leaves n steps origins r now done fits;
      other_count = m;
      other_steps = others;
      other_origins = further;
      other_replica = q;
      other_left = run_leaves m others further q then done_too fits_too;
      members = members;
    }
