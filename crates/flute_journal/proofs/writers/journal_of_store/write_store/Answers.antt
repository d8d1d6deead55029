-- write_store: its loop over the store's facts, a failed write, and the whole journal.
use Rattle.flute_journal.proofs.Common.{rules, subst, AppendsPart, Same-itself, spelling, Written}
use Rattle.flute_journal.proofs.writers_lemmas.Saving.{saved-next, saved-cut, saved-all}
use Rattle.flute_journal.proofs.writers_lemmas.Saving.{only-spelling}
use Rattle.flute_journal.proofs.writers.journal_of_store.write_store.Goals as goal

pub loop-fact-preserved : goal.loop-fact-preserved
loop-fact-preserved g c = record {
  saved = saved-next _ _ c.loop-fact.invariant.saved c.in-Some.ensures.steps.0
      c.entry.ensures.valid c.entry.ensures.puts.puts;
  failures = search rules;
  same_sink = search rules;
}

pub returns-then-writer-clause-bytes : goal.returns-then-writer-clause-bytes
returns-then-writer-clause-bytes g c =
    let next = saved-next _ _ c.loop-fact.invariant.saved c.in-Some.ensures.steps.0
    c.entry.ensures.valid c.entry.ensures.puts.puts in
    let part : AppendsPart (g.W.Sink.written c.args.sink.now)
    (g.W.Sink.written c.entry.new.self.sink.now) (spelling c.args.store.now) = saved-cut _ _ _ _ _ _
    next c.if-writer.true in search (rules, part)

pub returns-then-writer-clause-only : goal.returns-then-writer-clause-only
returns-then-writer-clause-only g c = search (rules, only-spelling)

pub returns-then-writer-2-clause-bytes : goal.returns-then-writer-2-clause-bytes
returns-then-writer-2-clause-bytes g c =
    let all = saved-all _ _ c.loop-fact.invariant.saved c.in-None.ensures.steps.0.0
    c.end.ensures.puts in
    let part : AppendsPart (g.W.Sink.written c.args.sink.now)
    (g.W.Sink.written c.end.new.self.sink.now) (spelling c.args.store.now) = search rules in search
    (rules, part)

pub returns-then-writer-2-clause-only : goal.returns-then-writer-2-clause-only
returns-then-writer-2-clause-only g c = search (rules, only-spelling)

pub returns-clause-bytes : goal.returns-clause-bytes
returns-clause-bytes g c =
    let all = saved-all _ _ c.loop-fact.invariant.saved c.in-None.ensures.steps.0.0
    c.end.ensures.puts in
    let whole = subst (λ b. Written b (g.W.Sink.written c.args.sink.now)
    (g.W.Sink.written c.end.new.self.sink.now) (spelling c.args.store.now)) c.if-writer-2.false
    all.0 in search (rules, whole)

pub returns-clause-journal : goal.returns-clause-journal
returns-clause-journal g c = search (rules, saved-all, Same-itself)

pub returns-clause-only : goal.returns-clause-only
returns-clause-only g c = search (rules, only-spelling)
