-- compare_to: one address more is counted, until both streams end.
use Rattle.std.proofs.Common.{◌++◌, ◌∷◌, [], refl, sym, ap, ◌∙◌, append-nil}
use Rattle.flute_streams.specs.Counting.{option_row, to_tell}
use Rattle.flute_streams.proofs.compare_lemmas.Comparing.{counts_end, counts_first, counts_more}
use Rattle.flute_streams.proofs.compare_lemmas.Comparing.{told_before}
use Rattle.flute_streams.proofs.streams_lemmas.MinusFacts.{told}
use Rattle.std.proofs.lemmas.Result.{err_from_is_err_and}
use Rattle.flute_streams.proofs.merge.compare.compare_to.Goals as goal

pub loop-meeting-init : goal.loop-meeting-init
loop-meeting-init g c = record {
  rows = [];
  taken = g.met.V.Rows.none c.args.rows.now;
  so = counts_first g.S.Stream.behaviour g.T.Stream.behaviour []
      c.requires.first c.requires.second c.in_ok-go_on.ensures.goes_on;
}

pub loop-meeting-preserved : goal.loop-meeting-preserved
loop-meeting-preserved g c =
    let i = c.loop-meeting.invariant in
    let told = to_tell c.loop-meeting.row c.in-Some.meeting.at.key in
    record {
      rows = i.rows ++ told;
      taken = g.met.V.Rows.more c.args.rows.now c.loop-meeting.rows c.count.new.rows i.rows told
          i.taken c.in-Ok.ensures.told;
      so = counts_more g.S.Stream.behaviour g.T.Stream.behaviour i.so
          (sym c.meet.ensures ∙ c.in-Some.is) _ _ c.in_ok-go_on-2.ensures.goes_on refl
          c.in-Ok.ensures.row;
    }

pub returns-in-Ok-row-clause-compared : goal.returns-in-Ok-row-clause-compared
returns-in-Ok-row-clause-compared g c =
    let i = c.loop-meeting.invariant in
    let last = c.in-Some-row.row ∷ [] in
    record {
      rows = i.rows ++ last;
      taken = g.met.V.Rows.more c.args.rows.now c.loop-meeting.rows c.row.new.self i.rows last
          i.taken c.in-Ok-row.ensures.taken;
      so = counts_end g.S.Stream.behaviour g.T.Stream.behaviour c.requires.first_few
          c.requires.second_few i.so (sym c.meet.ensures ∙ c.in_default.is)
          (ap (λ r. i.rows ++ option_row r) (sym c.in-Some-row.is));
    }

pub returns-in-None-clause-compared : goal.returns-in-None-clause-compared
returns-in-None-clause-compared g c =
    let i = c.loop-meeting.invariant in
    record {
      rows = i.rows;
      taken = i.taken;
      so = counts_end g.S.Stream.behaviour g.T.Stream.behaviour c.requires.first_few
          c.requires.second_few i.so (sym c.meet.ensures ∙ c.in_default.is)
          (sym (append-nil i.rows) ∙ ap (λ r. i.rows ++ option_row r) (sym c.in-None.is));
    }

pub returns-in_err-go_on-2-clause-rows : goal.returns-in_err-go_on-2-clause-rows
returns-in_err-go_on-2-clause-rows g c =
    let i = c.loop-meeting.invariant in
    let more = to_tell c.loop-meeting.row c.in-Some.meeting.at.key in
    let result = c.from_residual-in_err-go_on-2.result in
    told _ result (err_from_is_err_and result c.from_residual-in_err-go_on-2.ensures.1) (told_before
    g.S.Stream.behaviour g.T.Stream.behaviour c.in-Some.meeting.side _ _ _ _ g.V.Rows.takes
    g.V.Rows.fails c.args.rows.now c.count.new.rows (i.rows ++ more) _
    c.in_err-go_on-2.ensures.stops (g.met.V.Rows.more c.args.rows.now c.loop-meeting.rows
    c.count.new.rows i.rows more i.taken c.in-Ok.ensures.told))
