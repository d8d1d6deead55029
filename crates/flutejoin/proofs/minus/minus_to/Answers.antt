use Rattle.std.proofs.Common.{ap, ◌∙◌}
use Rattle.flute_streams.specs.OwnedStreams.{left_in}
use Rattle.flutejoin.proofs.Subtracted.{part_of_minus}
use Rattle.flutejoin.proofs.minus.minus_to.Goals as goal

pub returns-after-input-clause-short : goal.returns-after-input-clause-short
returns-after-input-clause-short g c =
    let a = g.A.Source in
    let b = g.B.Source in
    let one = ap (left_in a.unread a.buffered) c.restart-3.ensures.first ∙ c.restart.ensures.left in
    let two = ap (left_in b.unread b.buffered) c.restart-3.ensures.second
    ∙ c.restart-2.ensures.left in
    part_of_minus a.unread a.buffered a.failures b.unread b.buffered b.failures
    one two c.in-Err-Input.ensures.short

pub returns-in-Err-Write-clause-short : goal.returns-in-Err-Write-clause-short
returns-in-Err-Write-clause-short g c =
    let a = g.A.Source in
    let b = g.B.Source in
    let one = ap (left_in a.unread a.buffered) c.restart-3.ensures.first ∙ c.restart.ensures.left in
    let two = ap (left_in b.unread b.buffered) c.restart-3.ensures.second
    ∙ c.restart-2.ensures.left in
    part_of_minus a.unread a.buffered a.failures b.unread b.buffered b.failures
    one two c.in-Err-Write.ensures.short
