use Rattle.flutejoin.proofs.fill_lemmas.FilledTurns.{settled}
use Rattle.flutejoin.proofs.fill.filled.FilledStream.advance.Goals as goal

pub returns-clause-goes_on : goal.returns-clause-goes_on
returns-clause-goes_on g c =
    let m = c.in_ok-step.ensures.moves in
    settled _ _ _ (m.walks c.args.self.now c.loop.invariant) (m.stays c.if-branch.false)
