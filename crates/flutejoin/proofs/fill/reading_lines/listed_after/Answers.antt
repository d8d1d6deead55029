-- listed_after: a line is that of a gap or that of an object.
use Rattle.std.proofs.Common.{◌≡◌, sym, ap, subst}
use Rattle.std.specs.Prelude.{option_copied}
use Rattle.flutejoin.specs.FillLists.{MayCome}
use Rattle.flutejoin.specs.declared.fill.listed_line.ListedLine.TheVariants.{Gap as GapLine}
use Rattle.flutejoin.proofs.fill_lemmas.ReadLines.{gap_after, gap_first}
use Rattle.flutejoin.proofs.fill.reading_lines.listed_after.Goals as goal

pub returns-in-Some-before-clause-finds : goal.returns-in-Some-before-clause-finds
returns-in-Some-before-clause-finds c = λ l listed may is. subst (λ k. GapLine k c.in-Some.gap ≡ l)
    (sym c.key.ensures) (gap_after _ _ c.in-Some-before.before.now c.in-Some.ensures.found
    c.in-Some.ensures.finds l listed
    (subst (λ b. MayCome b l) (ap option_copied c.in-Some-before.is) may) is)

pub returns-in-None-before-clause-finds : goal.returns-in-None-before-clause-finds
returns-in-None-before-clause-finds c = λ l listed may is. gap_first _ _ c.in-Some.ensures.found l
    (subst (λ b. MayCome b l) (ap option_copied c.in-None-before.is) may) is
