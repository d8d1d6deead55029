-- The next entry is held, or the reader has a fault.
use Rattle.flute_streams.proofs.Common.{Err, Read, ap, refl, ◌∙◌, err_from_is_err_and}
use Rattle.flute_streams.proofs.streams_lemmas.JournalReads.{stream_goes_on, stream_stops, loans}
use Rattle.flute_streams.proofs.streams_lemmas.Loans.{lent_goes_on, lent_stops}
use Rattle.flute_streams.specs.JournalStreams.{SameLoans, journal_behaviour, lent}
use Rattle.flute_streams.proofs.streams.lent_stream.LentStreamStream.advance.Goals as goal

pub returns-in_err-next_into-clause-stops : goal.returns-in_err-next_into-clause-stops
returns-in_err-next_into-clause-stops g c =
    let unread = g.R.Source.unread in
    let buffered = g.R.Source.buffered in
    let failures = g.R.Source.failures in
    let fault = c.in_err-next_into.field-0.0 in
    let e = err_from_is_err_and c.from_residual.result c.from_residual.ensures.1 in
    rw (e.1 ∙ ap Err e.2)
    (lent_stops lent SameLoans (journal_behaviour unread buffered failures) c.args.self.now _
    (loans _ _ (record { same_reader = refl; same_held = refl })) (Read fault)
    (stream_stops unread buffered failures fault (record {
      same_source = c.next_into.ensures.source;
      same_limit = c.next_into.ensures.limit;
      holds = c.in_err-next_into.ensures.holds;
    })))

pub returns-clause-goes_on : goal.returns-clause-goes_on
returns-clause-goes_on g c =
    let unread = g.R.Source.unread in
    let buffered = g.R.Source.buffered in
    let failures = g.R.Source.failures in
    lent_goes_on lent SameLoans (journal_behaviour unread buffered failures) c.args.self.now _
    (loans _ _ (record { same_reader = refl; same_held = refl }))
    (stream_goes_on unread buffered failures (record {
      same_source = c.next_into.ensures.source;
      same_limit = c.next_into.ensures.limit;
      holds = c.in_ok-next_into.ensures.holds;
    }))
