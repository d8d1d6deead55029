-- has_left: some bytes of a source were read, and it did not fail.
use Rattle.std.proofs.Common.{◌≡◌}
use Rattle.flutejoin.specs.Sending.{ReadsOf}
use Rattle.flutejoin.proofs.carousel.has_left.Given as goal

abbrev pub invariant-loop-count : goal.invariant-loop-count
invariant-loop-count g l = (g.R.Source.failures l.source ≡ g.R.Source.failures l.fn.source) ×
    ReadsOf (g.R.Source.unread l.fn.source) (g.R.Source.unread l.source) l.fn.left l.left

abbrev pub decreases-loop-count : goal.decreases-loop-count
decreases-loop-count g l = l.left
