use Rattle.std.proofs.Common.{◌∙◌, sym, ap, subst, arith}
use Rattle.flutejoin.specs.FillLists.{MayCome}
use Rattle.flutejoin.specs.NextWords.{GivesWords}
use Rattle.flutejoin.specs.Lines.{line}
use Rattle.flutejoin.proofs.fill_lemmas.ListSteps.{none_next}
use Rattle.flutejoin.proofs.fill.gap_list.GapList.read_next.Goals as goal

pub returns-in-None-clause-none : goal.returns-in-None-clause-none
returns-in-None-clause-none g c =
    let gave = subst (GivesWords (g.R.Source.unread c.args.self.now.source)
    (g.R.Source.unread c.next_words.new.source)) c.in-Ok-Some.field-0-is c.in-Ok-Some.ensures.gives
    in (
      none_next _ _ _ _ _ gave.0 gave.1 (λ l listed may is. c.in-None.ensures.finds l listed
          (subst (λ b. MayCome b l) (sym c.line.ensures) may) (ap line c.as_slice.ensures ∙ is)),
      omega
          (arith, c.in-Ok-Some.ensures.failures),
    )
