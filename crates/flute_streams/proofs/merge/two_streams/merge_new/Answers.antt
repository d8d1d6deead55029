-- merge_new: what the merge of the two streams gives, once what they hold was let go of.
use Rattle.flute_streams.proofs.Common.{Err, FirstFails, SecondFails, subst, sym}
use Rattle.flute_streams.proofs.merge_lemmas.LetGo.{lets_go, nothing_held}
use Rattle.flute_streams.proofs.merge_lemmas.Twos.{merged_two, stopped_two, fail_two}
use Rattle.flute_streams.proofs.merge.two_streams.merge_new.Goals as goal

pub returns-in-Err-clause-gives : goal.returns-in-Err-clause-gives
returns-in-Err-clause-gives g c =
    let first = nothing_held _ _ (g.A.Source.unread c.args.first.now.reader.now.source.now)
    c.requires.first_new.held in
    let second = nothing_held _ _ (g.B.Source.unread c.args.second.now.reader.now.source.now)
    c.requires.second_new.held in rw (← first, ← second) (lets_go (record {
      first_held = _;
      second_held = _;
      first = c.let_go.ensures.takes;
      second = c.let_go-2.ensures.takes;
    }) (stopped_two g.A.Source.unread g.A.Source.buffered g.A.Source.failures g.B.Source.unread
    g.B.Source.buffered g.B.Source.failures c.args.first.now c.merge_two-result.new.first
    c.args.second.now c.merge_two-result.new.second c.fault_of_two.ensures c.requires.same_bound
    c.in-Err.ensures.short c.in-Err.ensures.reads_ahead c.in-Err.ensures.fault))

pub returns-in-Err-clause-first_failures : goal.returns-in-Err-clause-first_failures
returns-in-Err-clause-first_failures g c = subst (λ n. FirstFails
    (g.A.Source.failures c.args.first.now.reader.now.source.now) n (Err c.fault_of_two.result))
    (sym c.let_go.ensures.failures) (fail_two g.A.Source.unread g.A.Source.buffered
    g.A.Source.failures g.B.Source.unread g.B.Source.buffered g.B.Source.failures c.args.first.now
    c.merge_two-result.new.first c.args.second.now c.merge_two-result.new.second c.in-Err.fault
    c.fault_of_two.result c.fault_of_two.ensures c.in-Err.ensures.failures).first

pub returns-in-Err-clause-second_failures : goal.returns-in-Err-clause-second_failures
returns-in-Err-clause-second_failures g c = subst (λ n. SecondFails
    (g.B.Source.failures c.args.second.now.reader.now.source.now) n (Err c.fault_of_two.result))
    (sym c.let_go-2.ensures.failures) (fail_two g.A.Source.unread g.A.Source.buffered
    g.A.Source.failures g.B.Source.unread g.B.Source.buffered g.B.Source.failures c.args.first.now
    c.merge_two-result.new.first c.args.second.now c.merge_two-result.new.second c.in-Err.fault
    c.fault_of_two.result c.fault_of_two.ensures c.in-Err.ensures.failures).second

pub returns-in-Ok-clause-gives : goal.returns-in-Ok-clause-gives
returns-in-Ok-clause-gives g c =
    let first = nothing_held _ _ (g.A.Source.unread c.args.first.now.reader.now.source.now)
    c.requires.first_new.held in
    let second = nothing_held _ _ (g.B.Source.unread c.args.second.now.reader.now.source.now)
    c.requires.second_new.held in rw (← first, ← second) (merged_two g.A.Source.unread
    g.A.Source.buffered g.A.Source.failures g.B.Source.unread g.B.Source.buffered
    g.B.Source.failures c.args.first.now c.merge_two-result.new.first c.args.second.now
    c.merge_two-result.new.second c.requires.same_bound c.in-Ok.ensures.done c.in-Ok.ensures.merged)
