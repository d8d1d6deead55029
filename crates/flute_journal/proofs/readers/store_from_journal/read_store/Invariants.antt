-- read_store: the store holds the facts of the entries so far, within its limits.
use Rattle.flute_journal.proofs.{Common.{◌≡◌, ◌-◌}, readers_lemmas.Loading.{Loaded, entries_at}}
use Rattle.flute_journal.proofs.readers.store_from_journal.read_store.Given as goal

abbrev pub invariant-loop-store : goal.invariant-loop-store
invariant-loop-store g l = Loaded g.row.SESSIONS g.row.OBJECTS g.row.SYMBOLS l.max_entries
    (g.R.Source.unread l.fn.source) (g.R.Source.unread l.reader.source.now) l.reader.state l.store ×
    (l.reader.max_entries ≡ l.max_entries) ×
    (l.reader.source.ghost_name ≡ l.initial.reader.source.ghost_name) ×
    (g.R.Source.failures l.reader.source.now ≡ g.R.Source.failures l.fn.source)

abbrev pub decreases-loop-store : goal.decreases-loop-store
decreases-loop-store g l = l.max_entries - entries_at l.reader.state
