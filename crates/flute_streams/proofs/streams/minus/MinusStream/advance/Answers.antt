use Rattle.flute_streams.proofs.streams_lemmas.MinusFacts.{settled}
use Rattle.flute_streams.proofs.streams.minus.MinusStream.advance.Goals as goal

pub returns-clause-goes_on : goal.returns-clause-goes_on
returns-clause-goes_on g c =
    let m = c.in_ok-step.ensures.moves in
    settled g.S.Stream.behaviour g.T.Stream.behaviour (m.walks c.args.self.now c.loop.invariant)
    (m.stays c.if-branch.false)
