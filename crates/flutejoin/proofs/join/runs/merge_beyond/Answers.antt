-- merge_beyond: runs are merged as streams.
use Rattle.std.proofs.Common.{rules}
use Rattle.std.proofs.Common.{◌≡◌, ◌<◌, ◌^◌, [], Some, refl, subst, sym, arith}
use Rattle.std.specs.Io.KnownBytes.{Appends}
use Rattle.flute_streams.specs.Advances.{AreNew}
use Rattle.flute_journal.specs.JournalWriters.{PutsJournal}
use Rattle.flute_streams.specs.OwnedStreams.{owned_behaviour}
use Rattle.flute_streams.specs.StreamMerges.{all_of, Each}
use Rattle.flute_streams.specs.Streams.{most_of}
use Rattle.flutejoin.specs.Asides.{AreRunsOf}
use Rattle.flutejoin.proofs.join_lemmas.Runs.{all_written, runs_few, runs_new, told_runs}
use Rattle.flutejoin.proofs.join_lemmas.Runs.{together_on}
use Rattle.flutejoin.proofs.join.runs.merge_beyond.Goals as goal

pub merge_all-requires-clause-new : goal.merge_all-requires-clause-new
merge_all-requires-clause-new g c = subst
    (AreNew (owned_behaviour g.R.Source.unread g.R.Source.buffered g.R.Source.failures))
    (sym c.deref_mut.ensures.value) (runs_new g.R.Source.unread g.R.Source.buffered
    g.R.Source.failures c.args.runs.now.items c.requires.new)

pub merge_all-requires-clause-few : goal.merge_all-requires-clause-few
merge_all-requires-clause-few g c =
    let few = runs_few g.R.Source.unread g.R.Source.buffered g.R.Source.failures
    c.args.runs.now.items c.requires.new in subst (λ l. most_of
    (owned_behaviour g.R.Source.unread g.R.Source.buffered g.R.Source.failures) l < 2 ^ 64)
    (sym c.deref_mut.ensures.value) (omega (arith, few, c.requires.few))

pub returns-in-Ok-merge_all-clause-held : goal.returns-in-Ok-merge_all-clause-held
returns-in-Ok-merge_all-clause-held g c = λ told facts holds. let unread = g.R.Source.unread in
    let buffered = g.R.Source.buffered in
    let b = owned_behaviour unread buffered g.R.Source.failures in
    let written = g.A.Aside.Sink.written in
    let merged = c.in-Ok-merge_all.ensures.merged in
    let puts = subst (λ cut. PutsJournal cut (written c.in-Ok.aside) (written c.merge_all.new.sink)
    (all_of merged.told) c.in-Ok-merge_all.merged.entries) c.in-Ok-merge_all.ensures.done
    merged.puts in
    let bytes : written c.merge_all.new.sink ≡ Some puts.bytes = all_written puts.bytes
    (written c.merge_all.new.sink) (subst (λ o. Appends o (written c.merge_all.new.sink) puts.bytes)
    (c.in-Ok.ensures.empty told) puts.appended) in
    let tells = subst (λ l. Each b.tells l merged.told) c.deref_mut.ensures.value merged.tell in
    let same = told_runs unread buffered g.R.Source.failures c.args.runs.now.items merged.told facts
    c.requires.new tells holds in together_on unread buffered c.add_run.new.runs.items
    c.add_run.result same (c.add_run.ensures.held puts.bytes (all_of merged.told) [] bytes
    puts.journal puts.entries
    (subst (λ l. AreRunsOf unread buffered l []) (sym c.clear.ensures.items) refl))
