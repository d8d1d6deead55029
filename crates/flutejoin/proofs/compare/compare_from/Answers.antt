-- compare_from: the lines that were put aside are written.
use Rattle.std.proofs.Common.{◌≡◌, ◌∙◌, ◌⊎◌, ◌≤◌, Err, List, length, true, ap, refl, subst}
use Rattle.std.proofs.lemmas.Result.{err_from_is_err_and}
use Rattle.std.specs.Io.KnownBytes.{Appends}
use Rattle.flute_parts.specs.Devices.{AppendsPart}
use Rattle.flute_streams.specs.declared.merge.sides.Row.{Row}
use Rattle.flutejoin.specs.CompareLines.{compared}
use Rattle.flutejoin.specs.declared.lines.compare_style.CompareStyle.{CompareStyle}
use Rattle.flutejoin.proofs.compare_lemmas.RowsOfJournals.{Facts, all_put_aside, compares}
use Rattle.flutejoin.proofs.compare_lemmas.RowsOfJournals.{of_source, unless}
use Rattle.flutejoin.proofs.compare_lemmas.RowsPut.{none_put}
use Rattle.flutejoin.proofs.compare.compare_from.Goals as goal

pub returns-in_ok-finish-in-Ok-clause-printed : goal.returns-in_ok-finish-in-Ok-clause-printed
returns-in_ok-finish-in-Ok-clause-printed g c = λ none.
    let written = g.A.Sink.written in
    let W = g.W.Sink.written in
    let a = c.args in
    let t = c.in-Ok.ensures.compared in
    let so = t.so in
    let facts : Facts a.first.now.choice a.second.now.choice
    (g.Q.Source.unread a.first.now.stream.source) (g.R.Source.unread a.second.now.stream.source)
    so.rows = record {
      facts = so.facts;
      others = so.others;
      first_are = of_source a.first.now.choice _ c.restart.ensures.left
          c.restart.ensures.limit so.first_tells;
      second_are = of_source a.second.now.choice _ c.restart-2.ensures.left
          c.restart-2.ensures.limit so.second_tells;
      are = so.are;
      first_few = subst (λ n. length so.facts ≤ n) c.restart.ensures.most so.first_few;
      second_few = subst (λ n. length so.others ≤ n) c.restart-2.ensures.most so.second_few;
    } in
    let h = all_put_aside _ _ facts so.told t.taken
    (none_put _ _ _ refl refl (λ is. none)) in
    let p = c.in_ok-finish-in-Ok.ensures.printed so.rows h in
    compares _ facts (
      subst (λ s. Appends (W a.sink.now) (W c.finish.new.sink)
          (compared s so.rows)) t.taken.style p.0,
      p.1,
    )

pub returns-in_err-finish-in-Ok-clause-part : goal.returns-in_err-finish-in-Ok-clause-part
returns-in_err-finish-in-Ok-clause-part g c = λ none. let written = g.A.Sink.written in
    let W = g.W.Sink.written in
    let a = c.args in
    let t = c.in-Ok.ensures.compared in
    let so = t.so in
    let facts : Facts a.first.now.choice a.second.now.choice
    (g.Q.Source.unread a.first.now.stream.source) (g.R.Source.unread a.second.now.stream.source)
    so.rows = record {
      facts = so.facts;
      others = so.others;
      first_are = of_source a.first.now.choice so.facts c.restart.ensures.left
          c.restart.ensures.limit so.first_tells;
      second_are = of_source a.second.now.choice so.others c.restart-2.ensures.left
          c.restart-2.ensures.limit so.second_tells;
      are = so.are;
      first_few = subst (λ n. length so.facts ≤ n) c.restart.ensures.most so.first_few;
      second_few = subst (λ n. length so.others ≤ n) c.restart-2.ensures.most so.second_few;
    } in
    let h = all_put_aside written g.A.Sink.failures facts so.told t.taken
    (none_put written true _ refl refl (λ is. none)) in
    let e = err_from_is_err_and c.from_residual.result c.from_residual.ensures.1 in
    let part : List Row → Type 0 = λ rows. AppendsPart (W a.sink.now) (W c.finish.new.sink)
    (compared a.style rows) in
    let p = c.in_err-finish-in-Ok.ensures.part so.rows h in
    rw (e.1 ∙ ap Err e.2) (λ is. unless part facts (subst (λ (s : CompareStyle). c.finish.new.sink ≡
    a.sink.now ⊎ AppendsPart (W a.sink.now) (W c.finish.new.sink) (compared s so.rows))
    t.taken.style p))
