-- Minus::advance: the streams went on since the call.
use Rattle.flute_streams.specs.MinusStreams.{Walks, left_to_read}
use Rattle.flute_streams.proofs.streams.minus.MinusStream.advance.Given as goal

abbrev pub invariant-loop : goal.invariant-loop
invariant-loop g l = Walks g.S.Stream.behaviour g.T.Stream.behaviour l.fn.self l.self

abbrev pub decreases-loop : goal.decreases-loop
decreases-loop g l = left_to_read g.S.Stream.behaviour g.T.Stream.behaviour l.self
