-- take_entry: there was no memory for an entry that lies whole in the buffer.
use Rattle.flute_journal.proofs.Common.{ap, ◌∙◌, Err, err_from_is_err_and, refl}
use Rattle.flute_journal.proofs.readers_lemmas.Seen.{has_entry}
use Rattle.flute_journal.proofs.readers.lent.take_entry.Goals as goal

pub returns-in_err-copied_into-clause-takes : goal.returns-in_err-copied_into-clause-takes
returns-in_err-copied_into-clause-takes g c =
    let e = err_from_is_err_and c.from_residual.result c.from_residual.ensures.1 in
    rw (e.1 ∙ ap Err e.2) (
      c.in_err-copied_into.ensures.only,
      refl,
      has_entry c.args.version
          c.args.last.now (g.R.Source.unread c.args.source.now) c.buffer.result.now _ _
          c.buffer.ensures.front c.in-Some.ensures,
    )
