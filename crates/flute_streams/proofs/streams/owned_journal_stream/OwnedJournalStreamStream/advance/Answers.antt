-- The next entry is held, or the reader has a fault.
use Rattle.flute_streams.proofs.Common.{Err, ap, refl, ◌∙◌, err_from_is_err_and}
use Rattle.flute_streams.proofs.streams_lemmas.OwnedReads.{owned_goes_on, owned_stops}
use Rattle.flute_streams.proofs.streams.owned_journal_stream.OwnedJournalStreamStream.advance.Goals as goal

pub returns-in_err-read_into-clause-stops : goal.returns-in_err-read_into-clause-stops
returns-in_err-read_into-clause-stops g c =
    let e = err_from_is_err_and c.from_residual.result c.from_residual.ensures.1 in
    rw (e.1 ∙ ap Err e.2) (owned_stops g.R.Source.unread g.R.Source.buffered g.R.Source.failures
    c.args.self.now _ c.in_err-read_into.field-0.0 c.in_err-read_into.ensures)

pub returns-clause-goes_on : goal.returns-clause-goes_on
returns-clause-goes_on g c = owned_goes_on g.R.Source.unread g.R.Source.buffered g.R.Source.failures
    c.args.self.now _ refl c.in_ok-read_into.ensures
