-- inspect: a journal is read from its first byte, and its objects are those that are taken.
use Rattle.std.proofs.Common.{[], append-nil, refl, ◌∙◌}
use Rattle.flutejoin.proofs.join.inspecting.inspect.Goals as goal

pub returns-in-Ok-clause-inspected : goal.returns-in-Ok-clause-inspected
returns-in-Ok-clause-inspected g c = λ told bytes is.
    let input = rw c.in-Journal.is at is in (
      [],
      (refl, input.0, c.restart.ensures.left ∙ input.1, c.in-Ok.ensures),
      λ before h. rw (append-nil before) h,
    )
