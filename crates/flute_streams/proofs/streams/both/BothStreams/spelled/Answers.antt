use Rattle.flute_streams.proofs.Common.{arith}
use Rattle.flute_streams.proofs.streams_lemmas.Besides.{below_taken, first_is, second_below}
use Rattle.flute_streams.proofs.streams_lemmas.Besides.{second_is}
use Rattle.flute_streams.specs.Eithers.{spelled_either}
use Rattle.flute_streams.proofs.streams.both.BothStreams.spelled.Goals as goal

pub spelled-requires : goal.spelled-requires
spelled-requires g c = below_taken (g.G.Streams.streams c.args.self.now.first.now) c.args.number
    (omega (arith, c.if-number-firsts.true, c.first_count-firsts.ensures))

pub spelled-requires-else-number-firsts : goal.spelled-requires-else-number-firsts
spelled-requires-else-number-firsts g c =
    second_below g.G.Streams.behaviour g.H.Streams.behaviour
    (g.G.Streams.streams c.args.self.now.first.now) (g.H.Streams.streams c.args.self.now.second)
    c.args.number _ (omega (arith, c.if-number-firsts.false, c.first_count-firsts.ensures))
    c.requires

pub returns-then-number-firsts : goal.returns-then-number-firsts
returns-then-number-firsts g c =
    first_is g.G.Streams.behaviour g.H.Streams.behaviour
    (g.G.Streams.streams c.args.self.now.first.now) (g.H.Streams.streams c.args.self.now.second)
    c.args.number (omega (arith, c.if-number-firsts.true, c.first_count-firsts.ensures))
    (spelled_either g.G.Streams.behaviour g.H.Streams.behaviour) _ c.spelled.ensures

pub returns-else-number-firsts : goal.returns-else-number-firsts
returns-else-number-firsts g c =
    second_is g.G.Streams.behaviour g.H.Streams.behaviour
    (g.G.Streams.streams c.args.self.now.first.now) (g.H.Streams.streams c.args.self.now.second)
    c.args.number _ (omega (arith, c.if-number-firsts.false, c.first_count-firsts.ensures))
    c.requires (spelled_either g.G.Streams.behaviour g.H.Streams.behaviour) _ c.spelled-else-number-firsts.ensures
