use Rattle.std.proofs.Common.{refl, subst, sym}
use Rattle.flutejoin_line.specs.Options.{IsSource}
use Rattle.flutejoin_line.proofs.numbers.source.Goals as goal

pub returns-in-None-clause-sender : goal.returns-in-None-clause-sender
returns-in-None-clause-sender c = (
  refl,
  λ sender is. c.in-None.ensures sender
      (subst (λ given. IsSource given sender) (sym c.in-Some.ensures) is),
)
