-- CompareLines::row: the line of one row more, or with a summary its session's sums.
use Rattle.std.proofs.Common.{◌&&◌, Some, ap, not, refl, subst, arith}
use Rattle.flute_parts.specs.Devices.{Writes}
use Rattle.flutejoin.proofs.compare_lemmas.RowsPut.{lined, summed}
use Rattle.flutejoin.proofs.compare.compare_lines.CompareLinesRows.row.Goals as goal

pub returns-then-not-self-clause-taken : goal.returns-then-not-self-clause-taken
returns-then-not-self-clause-taken g c =
    let old = c.args.self.now in
    let r = c.write_words.result in
    let s = g.A.Sink.written old.lines.now in
    let s' = g.A.Sink.written c.write_words.new.sink in
    lined _ _ _ _ _ refl refl (ap (λ b. old.same && not b) c.differs.ensures) r c.if-not-self.true
    (subst (λ l. Writes s s' l r) c.row_text.ensures.line c.write_words.ensures.line)
    c.write_words.ensures.failures refl

pub returns-clause-taken : goal.returns-clause-taken
returns-clause-taken g c =
    let old = c.args.self.now in
    summed _ _ _ _ _ refl refl (ap (λ b. old.same && not b) c.differs.ensures) c.if-not-self.false
    c.in_ok-add_row.ensures.line (omega (arith, c.in_ok-add_row.ensures.failures))
    (ap Some c.in_ok-add_row.ensures.sums)
