use Rattle.flute_output.proofs.Runs.{kept-then}
use Rattle.flute_output.proofs.waiting_file.WaitingFile.end.Goals as goal

pub returns-clause-kept : goal.returns-clause-kept
returns-clause-kept g c t = kept-then _ _ _ _ _ _ c.pour.ensures.same_file
    (c.in_ok-pour.ensures.flushed t) (c.in_ok-settle.ensures.settled t)
