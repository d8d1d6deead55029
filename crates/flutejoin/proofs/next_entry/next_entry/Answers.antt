-- next_entry: what a call gave after the entries so far (specs/NextEntry).
use Rattle.std.proofs.Common.{◌∙◌, Err, ap, sym, subst}
use Rattle.std.proofs.lemmas.Result.{err_from_is_err_and}
use Rattle.flute_journal.specs.HeldEntries.{fact_of_held}
use Rattle.flute_streams.specs.JournalStreams.{reading_of}
use Rattle.flutejoin.specs.NextEntry.{HoldsOn, holding}
use Rattle.flutejoin.proofs.HeldEntries.{address_held, none_addressed}
use Rattle.flutejoin.proofs.walk_lemmas.Entries.{end_read, entry_beyond, entry_read, fails_now}
use Rattle.flutejoin.proofs.walk_lemmas.Entries.{fault_read}
use Rattle.flutejoin.proofs.Mapped.{read_done, read_failed}
use Rattle.flutejoin.proofs.next_entry.next_entry.Goals as goal
use Rattle.flutejoin.proofs.next_entry.next_entry.Goals.{in-Some+else-not-count, in_default}

pub returns-in_err-at_input-clause-next : goal.returns-in_err-at_input-clause-next
returns-in_err-at_input-clause-next g c = λ u F h. let r = read_failed c.next_into.result
    c.at_input.result 1 c.in_err-at_input.field-0.0 c.at_input.ensures c.in_err-at_input.was in
    let e = err_from_is_err_and c.from_residual.result c.from_residual.ensures.1 in
    let holds = rw r.1 at c.next_into.ensures.holds in
    let to = holding c.next_into.new.self c.next_into.new.held in
    rw (e.1 ∙ ap Err (e.2 ∙ r.2)) (fault_read h to c.args.tally.now r.0 holds.none holds.gives)

pub returns-in_err-at_input-clause-failures : goal.returns-in_err-at_input-clause-failures
returns-in_err-at_input-clause-failures g c = λ u F h. let r = read_failed c.next_into.result
    c.at_input.result 1 c.in_err-at_input.field-0.0 c.at_input.ensures c.in_err-at_input.was in
    let e = err_from_is_err_and c.from_residual.result c.from_residual.ensures.1 in
    let holds = rw r.1 at c.next_into.ensures.holds in
    rw (e.1 ∙ ap Err (e.2 ∙ r.2)) (fails_now h r.0 _ _ holds.failed)

pub returns-then-not-count-clause-next : goal.returns-then-not-count-clause-next
returns-then-not-count-clause-next g c = λ u F h. let done = read_done _ _ 1 _ c.at_input.ensures
    c.in_ok-at_input.was in
    let holds = rw done at c.next_into.ensures.holds in
    let to = holding c.next_into.new.self c.next_into.new.held in
    let a = address_held (fact_of_held g.R.Source.buffered (reading_of to)) (c.address.ensures _)
    c.in-Some.is in
    let gives = rw a.1 at holds.gives in
    entry_beyond h to c.count.new.self a.0 gives
    (λ G r k. c.count.ensures.over G a.0 a.2 r k c.if-not-count.true)

pub returns-clause-next : goal.returns-clause-next
returns-clause-next g c = λ u F h. let done = read_done _ _ 1 _ c.at_input.ensures
    c.in_ok-at_input.was in
    let holds = rw done at c.next_into.ensures.holds in
    let to = holding c.next_into.new.self c.next_into.new.held in
    let fact = fact_of_held g.R.Source.buffered (reading_of to) in
    let lent = c.address.ensures (g.R.Source.buffered c.next_into.new.self.source.now) in
    elim c.match-address.branch [
      | in-Some+else-not-count w ↦ let a = address_held _ lent w.in-Some.is in
          let read = entry_read h _ _ _ (rw a.1 at holds.gives) c.next_into.ensures.limit
          (λ G r k. w.count.ensures.within G a.0 a.2 r k w.if-not-count.false) in subst
          (λ j. HoldsOn g.R.Source.unread g.R.Source.buffered u F to j fact) (sym w.tally-is)
          (rw a.1 read)
      | in_default w ↦ let none = none_addressed _ lent w.in_default.is in subst
          (λ j. HoldsOn g.R.Source.unread g.R.Source.buffered u F to j fact) (sym w.tally-is)
          (rw none (end_read h to c.args.tally.now none (rw none at holds.gives)))
    ]
