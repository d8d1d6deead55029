-- Chosen::advance: what was passed over since the call is not taken, and was counted.
use Rattle.flute_streams.proofs.Common.{◌≡◌}
use Rattle.flute_streams.proofs.streams_lemmas.ChosenFacts.{CountsPassed}
use Rattle.flute_streams.proofs.streams.chosen.ChosenStream.advance.Given as goal

abbrev pub invariant-loop-alloc : goal.invariant-loop-alloc
invariant-loop-alloc g l = (l.self.choice ≡ l.fn.self.choice) × CountsPassed g.C.Choice.takes
    l.fn.self.choice g.S.Stream.behaviour l.fn.self.stream l.self.stream l.fn.self.others
    l.self.others

abbrev pub decreases-loop-alloc : goal.decreases-loop-alloc
decreases-loop-alloc g l = g.S.Stream.behaviour.most l.self.stream
