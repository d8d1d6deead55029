-- fill_up_to: what was filled so far is what was read so far.
use Rattle.flute_journal.proofs.Common.{◌≡◌, ℕ, ◌-◌, ◌<◌, ◌≤◌, length, take, get_or, Consumes}
use Rattle.flute_journal.proofs.readers.input.fill_up_to.Given as goal

abbrev pub invariant-loop-filled : goal.invariant-loop-filled
invariant-loop-filled g l = (length l.buffer ≡ length l.initial.buffer) ×
    (l.filled ≤ length l.buffer) × Consumes (g.R.Source.unread l.initial.source)
    (g.R.Source.unread l.source) (take l.filled l.buffer) ×
    (g.R.Source.failures l.source ≡ g.R.Source.failures l.initial.source) ×
    ((i : ℕ) → get_or l.buffer i 0 < 256)

abbrev pub decreases-loop-filled : goal.decreases-loop-filled
decreases-loop-filled g l = length l.initial.buffer - l.filled
