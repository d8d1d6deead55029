-- write_stream: all that is written of it is a part of its journal.
use Rattle.flute_streams.proofs.Common.{[], ◌∷◌, append-nil}
use Rattle.flute_streams.proofs.merge.one_stream.write_stream.Goals as goal

pub returns-in-Err-clause-short : goal.returns-in-Err-clause-short
returns-in-Err-clause-short g c =
    let part = c.in-Err.ensures.short in
    record {
      bytes = part.bytes;
      appended = part.appended;
      no_journal = part.no_journal;
      prefix = λ known is whole journal. part.prefix (known ∷ []) (is, tt) whole
          (rw (append-nil known) journal);
    }
