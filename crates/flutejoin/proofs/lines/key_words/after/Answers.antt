use Rattle.std.proofs.Common.{◌∙◌, ap, sym, ◌++◌}
use Rattle.flutejoin.proofs.lines.key_words.after.Goals as goal

pub returns-clause-found : goal.returns-clause-found
returns-clause-found c = rw (← c.as_bytes.ensures.value) c.rest_after.ensures.found

pub returns-clause-finds : goal.returns-clause-finds
returns-clause-finds c = λ tail is. c.rest_after.ensures.finds tail
    (is ∙ ap (λ f. f ++ tail) (sym c.as_bytes.ensures.value))
