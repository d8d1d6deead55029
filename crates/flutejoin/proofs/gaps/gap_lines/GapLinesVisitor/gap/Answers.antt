-- GapLines::gap: the line of a gap, or its range, if it is shown.
use Rattle.std.proofs.Common.{◌∙◌, refl, sym, subst}
use Rattle.flute_parts.specs.Devices.{Writes}
use Rattle.flutejoin.proofs.gaps_lemmas.GapsOpen.{gap_lined, gap_passed, gap_ranged}
use Rattle.flutejoin.proofs.gaps.gap_lines.GapLinesVisitor.gap.Goals as goal

pub returns-then-not-shows-clause-told : goal.returns-then-not-shows-clause-told
returns-then-not-shows-clause-told g c = λ known objects p h.
    gap_passed _ h (sym c.shows.ensures ∙ c.if-not-shows.true)

pub returns-then-self-clause-told : goal.returns-then-self-clause-told
returns-then-self-clause-told g c = λ known objects p h. let old = c.args.self.now in gap_ranged _ _
    _ h (record { style = refl; closed = refl; lines = refl })
    (sym c.shows.ensures ∙ c.if-not-shows.false) c.if-self.true c.add.ensures.info
    c.add.ensures.last c.add.ensures.line

pub returns-else-self-clause-told : goal.returns-else-self-clause-told
returns-else-self-clause-told g c = λ known objects p h. let old = c.args.self.now in
    let written = g.A.Sink.written in
    gap_lined _ _ _ h (record { style = refl; closed = refl; lines = refl }) refl
    (sym c.shows.ensures ∙ c.if-not-shows.false) c.if-self.false (subst (λ l. Writes
    (written old.gap_lines.now) (written c.write_words.new.sink) l c.write_words.result)
    c.gap_text_in.ensures.line c.write_words.ensures.line)
