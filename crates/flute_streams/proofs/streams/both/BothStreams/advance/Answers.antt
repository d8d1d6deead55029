-- Both::advance: a stream of the one list or of the other is advanced.
use Rattle.flute_streams.proofs.Common.{arith}
use Rattle.flute_streams.proofs.streams_lemmas.Besides.{below_taken, first_moves, second_below}
use Rattle.flute_streams.proofs.streams_lemmas.Besides.{second_moves}
use Rattle.flute_streams.proofs.streams.both.BothStreams.advance.Goals as goal

pub advance-requires : goal.advance-requires
advance-requires g c = below_taken (g.G.Streams.streams c.args.self.now.first.now) c.args.number
    (omega (arith, c.if-number-firsts.true, c.first_count-firsts.ensures))

pub advance-requires-else-number-firsts : goal.advance-requires-else-number-firsts
advance-requires-else-number-firsts g c =
    second_below g.G.Streams.behaviour g.H.Streams.behaviour
    (g.G.Streams.streams c.args.self.now.first.now) (g.H.Streams.streams c.args.self.now.second)
    c.args.number _ (omega (arith, c.if-number-firsts.false, c.first_count-firsts.ensures))
    c.requires

pub returns-then-number-firsts-clause-advances : goal.returns-then-number-firsts-clause-advances
returns-then-number-firsts-clause-advances g c =
    first_moves g.G.Streams.behaviour g.H.Streams.behaviour
    (g.G.Streams.streams c.args.self.now.first.now) (g.H.Streams.streams c.args.self.now.second)
    c.args.number (omega (arith, c.if-number-firsts.true, c.first_count-firsts.ensures))
    _ _ c.advance.ensures.advances

pub returns-else-number-firsts-clause-advances : goal.returns-else-number-firsts-clause-advances
returns-else-number-firsts-clause-advances g c =
    second_moves g.G.Streams.behaviour g.H.Streams.behaviour
    (g.G.Streams.streams c.args.self.now.first.now) (g.H.Streams.streams c.args.self.now.second)
    c.args.number _ (omega (arith, c.if-number-firsts.false, c.first_count-firsts.ensures))
    c.requires _ _ c.advance-else-number-firsts.ensures.advances
