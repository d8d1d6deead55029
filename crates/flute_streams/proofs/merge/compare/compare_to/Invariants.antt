-- compare_to: what was told since the call, and what is still counted on.
use Rattle.std.proofs.Common.{◌+◌, []}
use Rattle.flute_streams.specs.Compares.{Counts, Tells}
use Rattle.flute_streams.proofs.merge.compare.compare_to.Given as goal

abbrev pub invariant-loop-meeting : goal.invariant-loop-meeting
invariant-loop-meeting g l = Tells g.V.Rows.takes (λ rows. Counts g.S.Stream.behaviour
    g.T.Stream.behaviour l.fn.first l.fn.second l.first l.second [] rows l.row) l.fn.rows l.rows

abbrev pub decreases-loop-meeting : goal.decreases-loop-meeting
decreases-loop-meeting g l = g.S.Stream.behaviour.most l.first + g.T.Stream.behaviour.most l.second
