-- Chained::advance: stream 0 is advanced, or the other one with the number before.
use Rattle.std.proofs.Common.{rules}
use Rattle.flute_streams.proofs.streams_lemmas.Eithers.{first_advances}
use Rattle.flute_streams.proofs.streams_lemmas.Chaining.{far, other_advances}
use Rattle.flute_streams.proofs.streams.chained.ChainedStreams.advance.Goals as goal

pub advance-requires-else-number-eq0 : goal.advance-requires-else-number-eq0
advance-requires-else-number-eq0 g c = far g.A.Stream.behaviour g.G.Streams.behaviour
    c.args.self.now.first.now _ _ c.requires c.if-number-eq0.false

pub returns-then-number-eq0-clause-advances : goal.returns-then-number-eq0-clause-advances
returns-then-number-eq0-clause-advances g c = search (rules, first_advances)

pub returns-else-number-eq0-clause-advances : goal.returns-else-number-eq0-clause-advances
returns-else-number-eq0-clause-advances g c = search (rules, other_advances)
