use Rattle.std.proofs.Common.{rules}
use Rattle.std.proofs.Common.{subst}
use Rattle.flute_journal.specs.Kinds.{IsNeither}
use Rattle.flutejoin.proofs.join_lemmas.InputStreams.{unknown}
use Rattle.flutejoin.proofs.join.join_input.JoinInput.open.Goals as goal

pub returns-in-None-clause-input : goal.returns-in-None-clause-input
returns-in-None-clause-input g c = unknown g.R.Source.unread _ _ _ c.in_ok-source.ensures.begins
    (subst IsNeither c.first.ensures.bytes c.in-None.ensures)
