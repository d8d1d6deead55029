-- GapList::advance: one line more was read, or why not.
use Rattle.std.proofs.Common.{◌∙◌, refl, ap}
use Rattle.std.proofs.lemmas.Result.{err_from_is_err_and}
use Rattle.flutejoin.specs.FillStreams.{after_last}
use Rattle.flutejoin.proofs.fill_lemmas.ListSteps.{less_lines, stands_more, stops_after, told}
use Rattle.flutejoin.proofs.fill.gap_list.GapList.advance.Goals as goal

pub returns-in_err-next-clause-stops : goal.returns-in_err-next-clause-stops
returns-in_err-next-clause-stops g c =
    told _ c.from_residual.result
    (err_from_is_err_and c.from_residual.result c.from_residual.ensures.1)
    (λ start passed s. stops_after g.R.Source.unread g.R.Source.failures start c.args.self.now
    c.read_next.new.self passed c.requires s c.read_next.new.self c.in_err-next.field-0.0
    c.in_err-next.ensures.none refl)

pub returns-clause-reads : goal.returns-clause-reads
returns-clause-reads g c = λ start passed s.
    stands_more _ _ _ _ c.read_next.new.self
    _ c.requires s _ _ c.in_ok-next.ensures.reads c.in_ok-next.ensures.failures
    refl refl refl
    (c.object_after-self.ensures
    ∙ ap (λ o. after_last o c.read_next.new.self.last) c.in_ok-next.ensures.same.0
    ∙ ap (after_last c.args.self.now.object) c.in_ok-next.ensures.same.1)

pub returns-clause-less : goal.returns-clause-less
returns-clause-less g c = less_lines g.R.Source.unread g.R.Source.failures c.args.self.now
    c.read_next.new.self _ c.requires c.in_ok-next.ensures.few c.in_ok-next.ensures.reads
