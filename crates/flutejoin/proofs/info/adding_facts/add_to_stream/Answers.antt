-- add_to_stream: it is the journal that stops, if a stream does.
use Rattle.std.proofs.Common.{rules}
use Rattle.std.proofs.Common.{◌≡◌, Bool, true, false, not}
use Rattle.flute_streams.proofs.Public.{nothing_held}
use Rattle.flutejoin.specs.Limits.{at_most}
use Rattle.flutejoin.proofs.info_lemmas.AddedFacts.{adds_facts, over_with, within_with, first_fails}
use Rattle.flutejoin.proofs.info_lemmas.AddedFacts.{failed_as}
use Rattle.flutejoin.proofs.info_lemmas.AddedFacts.{load_failures}
use Rattle.flutejoin.proofs.info.adding_facts.add_to_stream.Goals as goal

not_true : (b : Bool) → not b ≡ true → b ≡ false
not_true = search rules

not_false : (b : Bool) → not b ≡ false → b ≡ true
not_false = search rules

pub returns-in-Err-clause-failed : goal.returns-in-Err-clause-failed
returns-in-Err-clause-failed g c = λ told same. let left = nothing_held _ _
    (g.R.Source.unread c.args.journal.now.reader.now.source.now) c.requires.journal_new.held in rw
    (c.load_fault.ensures, ← left) (first_fails g.R.Source.unread g.R.Source.buffered
    g.R.Source.failures g.S.Stream.behaviour c.args.journal.now c.args.facts.now
    c.requires.in_memory.goes_on (at_most g.row.SESSIONS g.row.OBJECTS g.row.SYMBOLS) told
    c.requires.limit c.in-Err.ensures.first)

pub returns-in-Err-clause-loans : goal.returns-in-Err-clause-loans
returns-in-Err-clause-loans g c =
    (failed_as _ _ _ _ _ _ c.requires.in_memory.goes_on _ _ c.in-Err.ensures.first).1

pub returns-in-Err-clause-same_source : goal.returns-in-Err-clause-same_source
returns-in-Err-clause-same_source g c =
    (failed_as _ _ _ _ _ _ c.requires.in_memory.goes_on _ _ c.in-Err.ensures.first).0.same_source

pub returns-in-Err-clause-failures : goal.returns-in-Err-clause-failures
returns-in-Err-clause-failures g c = rw c.load_fault.ensures (load_failures _ _ _ _
    (failed_as _ _ _ _ _ _ c.requires.in_memory.goes_on _ _ c.in-Err.ensures.first).0.failed_as)

pub returns-in-Ok-clause-failed : goal.returns-in-Ok-clause-failed
returns-in-Ok-clause-failed g c = λ told same. let left = nothing_held _ _
    (g.R.Source.unread c.args.journal.now.reader.now.source.now) c.requires.journal_new.held in rw
    (← left) (over_with g.R.Source.unread g.R.Source.buffered g.R.Source.failures
    g.S.Stream.behaviour c.args.journal.now c.args.facts.now told same c.requires.limit
    c.in-Ok.ensures.merged (not_true c.in-Ok.joined.within c.if-not-joined.true))

pub returns-in-Ok-3-clause-added : goal.returns-in-Ok-3-clause-added
returns-in-Ok-3-clause-added g c = λ told same. let left = nothing_held _ _
    (g.R.Source.unread c.args.journal.now.reader.now.source.now) c.requires.journal_new.held in rw
    (← left) (adds_facts g.R.Source.unread g.R.Source.buffered g.R.Source.failures
    g.S.Stream.behaviour c.args.journal.now c.args.facts.now told same c.requires.limit
    c.in-Ok.ensures.merged c.if-joined.false)

pub returns-in-Ok-2-clause-failed : goal.returns-in-Ok-2-clause-failed
returns-in-Ok-2-clause-failed g c = λ told same. let left = nothing_held _ _
    (g.R.Source.unread c.args.journal.now.reader.now.source.now) c.requires.journal_new.held in rw
    (← left) (within_with g.R.Source.unread g.R.Source.buffered g.R.Source.failures
    g.S.Stream.behaviour c.args.journal.now c.args.facts.now told same c.requires.limit
    c.in-Ok.ensures.merged (not_false c.in-Ok.joined.within c.if-not-joined.false))
