-- read_store: its loop, its faults of the journal and of the store, and the store at the end.
use Rattle.flute_journal.proofs.Common.{ℕ, List, Option, rules, ap, ◌∙◌, Err}
use Rattle.flute_parts.proofs.Public.{of_equal}
use Rattle.flute_journal.proofs.Common.{err_from_is_err_and, is_open, IsLoadFault, Read}
use Rattle.flute_journal.proofs.Common.{ReadsNoMore, refused}
use Rattle.flute_journal.proofs.readers_lemmas.Loading.{loaded_all, loaded-given, loaded-fits}
use Rattle.flute_journal.proofs.readers_lemmas.Loading.{loaded-full, loaded-stops, loaded-read}
use Rattle.flute_journal.proofs.readers_lemmas.Loading.{fault-part, given-entry, refused-part}
use Rattle.flute_journal.proofs.readers.store_from_journal.read_store.Goals as goal

pub returns-in_err-fact-clause-fault : goal.returns-in_err-fact-clause-fault
returns-in_err-fact-clause-fault g c =
    let e = err_from_is_err_and c.from_residual.result c.from_residual.ensures.1 in
    let f = c.in_err-fact.field-0.0 in
    let stops = loaded-stops c.loop-store.invariant.0 c.loop-store.invariant.1
    c.in_err-fact.ensures.gives in
    let P : Option (List ℕ) → Type 0 = λ left. IsLoadFault g.row.SESSIONS g.row.OBJECTS
    g.row.SYMBOLS c.args.max_entries (g.R.Source.unread c.args.source.now) left (Read f) in rw
    (e.1 ∙ ap Err e.2) (of_equal g.R.Source.unread P stops _ (search rules))

pub returns-in_err-fact-clause-reads : goal.returns-in_err-fact-clause-reads
returns-in_err-fact-clause-reads g c =
    let e = err_from_is_err_and c.from_residual.result c.from_residual.ensures.1 in
    let f = c.in_err-fact.field-0.0 in
    let read = fault-part c.loop-store.invariant.0 c.loop-store.invariant.1
    c.in_err-fact.ensures.gives in
    let P : Option (List ℕ) → Type 0 = λ left. ReadsNoMore g.row.SESSIONS g.row.OBJECTS
    g.row.SYMBOLS c.args.max_entries (g.R.Source.unread c.args.source.now) left (Read f) in rw
    (e.1 ∙ ap Err e.2) (of_equal g.R.Source.unread P read _ (search rules))

pub returns-in_err-add-clause-reads : goal.returns-in_err-add-clause-reads
returns-in_err-add-clause-reads g c =
    let e = err_from_is_err_and c.from_residual-in_err-add.result
    c.from_residual-in_err-add.ensures.1 in
    let why = c.in_err-add.field-0.0 in
    let given = given-entry _ _ _ _ c.loop-store.invariant.1 c.in-Some.is c.in_ok-fact.ensures.gives
    in
    let read = refused-part c.loop-store.invariant.0 given why
    (λ full. c.in_err-add.ensures.full.0 (ap Err full)) in
    let P : Option (List ℕ) → Type 0 = λ left. ReadsNoMore g.row.SESSIONS g.row.OBJECTS
    g.row.SYMBOLS c.args.max_entries (g.R.Source.unread c.args.source.now) left (refused why) in rw
    (e.1 ∙ ap Err e.2) (of_equal g.R.Source.unread P read _ (search rules))

pub returns-in_err-add-clause-fault : goal.returns-in_err-add-clause-fault
returns-in_err-add-clause-fault g c =
    let e = err_from_is_err_and c.from_residual-in_err-add.result
    c.from_residual-in_err-add.ensures.1 in
    rw (e.1 ∙ ap Err e.2) (loaded-full _ _ c.loop-store.invariant.0
    (given-entry _ _ _ _ c.loop-store.invariant.1 c.in-Some.is c.in_ok-fact.ensures.gives)
    (λ full. c.in_err-add.ensures.full.0 (ap Err full)))

pub loop-store-preserved : goal.loop-store-preserved
loop-store-preserved g c = (
  loaded-given _ c.loop-store.invariant.0
      (given-entry _ _ _ _ c.loop-store.invariant.1 c.in-Some.is c.in_ok-fact.ensures.gives)
      c.in_ok-add.ensures.ok
      c.in_ok-add.ensures.full.1,
  c.next_with.ensures.limit ∙ c.loop-store.invariant.1,
  c.next_with.ensures.source ∙ c.loop-store.invariant.2,
  loaded-read (is_open c.loop-store.reader.state) _ _ _ c.loop-store.invariant.3
      c.in_ok-fact.ensures.failures,
)

pub returns-clause-within : goal.returns-clause-within
returns-clause-within g c = loaded-fits c.loop-store.invariant.0

pub returns-clause-journal : goal.returns-clause-journal
returns-clause-journal g c = (loaded_all _ _ _ c.loop-store.invariant.0 c.loop-store.invariant.1
    c.in_default.is c.in_ok-fact.ensures.gives).journal
