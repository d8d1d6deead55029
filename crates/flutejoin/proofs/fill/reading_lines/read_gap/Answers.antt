-- read_gap: the words are those that are printed for the gap.
use Rattle.std.proofs.Common.{rules}
use Rattle.std.proofs.Common.{◌≡◌, ◌∙◌, sym, ap}
use Rattle.std.proofs.lemmas.Bool.{true≢false}
use Rattle.std.proofs.lemmas.Bool.Decides.{Decides-eqb}
use Rattle.std.proofs.lemmas.Slice.Eq.{slice_eq-Decides}
use Rattle.flutejoin.specs.Lines.{gap_line, line}
use Rattle.flutejoin.proofs.fill_lemmas.ReadLines.{same_line}
use Rattle.flutejoin.proofs.fill.reading_lines.read_gap.Goals as goal

pub returns-else-eq-clause-finds : goal.returns-else-eq-clause-finds
returns-else-eq-clause-finds c = λ gap ids is.
    let same = c.in-Some.ensures.finds gap ids is in
    let whole = c.as_slice.ensures ∙ same_line _ _ (c.gap_text-text.ensures.line ∙ ap gap_line same ∙ sym is)
    in
    let yes = (slice_eq-Decides Decides-eqb _ _ _ c.eq.ensures).1 whole in
    true≢false (sym yes ∙ c.if-eq.false)
