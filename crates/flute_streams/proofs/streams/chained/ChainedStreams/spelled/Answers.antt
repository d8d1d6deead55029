use Rattle.flute_streams.proofs.streams_lemmas.Chaining.{far, other_is}
use Rattle.flute_streams.specs.Eithers.{spelled_either}
use Rattle.flute_streams.proofs.streams.chained.ChainedStreams.spelled.Goals as goal

pub spelled-requires-else-number-eq0 : goal.spelled-requires-else-number-eq0
spelled-requires-else-number-eq0 g c = far g.A.Stream.behaviour g.G.Streams.behaviour
    c.args.self.now.first.now _ _ c.requires c.if-number-eq0.false

pub returns-else-number-eq0 : goal.returns-else-number-eq0
returns-else-number-eq0 g c = other_is g.A.Stream.behaviour g.G.Streams.behaviour
    c.args.self.now.first.now (g.G.Streams.streams c.args.self.now.others) c.args.number c.requires
    c.if-number-eq0.false (spelled_either g.A.Stream.behaviour g.G.Streams.behaviour) _
    c.spelled-else-number-eq0.ensures
