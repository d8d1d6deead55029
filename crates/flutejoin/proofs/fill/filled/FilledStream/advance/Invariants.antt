-- Filled::advance: the facts and the lines went on since the call.
use Rattle.flutejoin.specs.FillStreams.{Walks, left_to_read}
use Rattle.flutejoin.proofs.fill.filled.FilledStream.advance.Given as goal

abbrev pub invariant-loop : goal.invariant-loop
invariant-loop g l =
    Walks g.S.Stream.behaviour g.R.Source.unread g.R.Source.failures l.fn.self l.self

abbrev pub decreases-loop : goal.decreases-loop
decreases-loop g l =
    left_to_read g.S.Stream.behaviour g.R.Source.unread g.R.Source.failures l.self
