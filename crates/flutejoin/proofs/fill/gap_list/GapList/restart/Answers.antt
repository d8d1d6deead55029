use Rattle.flutejoin.proofs.fill_lemmas.ListSteps.{stands_new}
use Rattle.flutejoin.proofs.fill.gap_list.GapList.restart.Goals as goal

pub returns-clause-stands : goal.returns-clause-stands
returns-clause-stands g c = stands_new _ _ _
