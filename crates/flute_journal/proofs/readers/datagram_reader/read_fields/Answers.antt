-- read_fields: what was read at the end of the file, over the bound, and after a fault.
use Rattle.flute_journal.proofs.Common.{◌≡◌, length, rules, Err, sym, ap, ◌∙◌, subst}
use Rattle.flute_journal.proofs.Common.{err_from_is_err_and, ReadsNext, StaysWithin, file_framing}
use Rattle.flute_journal.proofs.Common.{record_of, IsDatagram}
use Rattle.flute_journal.proofs.framing_lemmas.ReadsUpTo.{fault_here}
use Rattle.flute_journal.proofs.framing_lemmas.Records.{LengthRead, too_many_records}
use Rattle.flute_journal.proofs.framing_lemmas.Records.{record_stops, record_ends, no_record}
use Rattle.flute_journal.proofs.readers.datagram_reader.read_fields.Goals as goal

pub returns-then-is_empty-clause-reads : goal.returns-then-is_empty-clause-reads
returns-then-is_empty-clause-reads g c =
    let front = c.read_up_to-read.result in
    rw c.or_failed.ensures (no_record c.args.max_records c.args.count front.failed _ _
    front.bytes.now c.read_up_to-read.ensures.filled (search rules))

pub returns-then-count-max_records-clause-reads : goal.returns-then-count-max_records-clause-reads
returns-then-count-max_records-clause-reads g c = search (rules, fault_here, too_many_records)

pub returns-in_err-read_exact-clause-within : goal.returns-in_err-read_exact-clause-within
returns-in_err-read_exact-clause-within g c =
    let e = err_from_is_err_and c.from_residual.result c.from_residual.ensures.1 in
    subst (StaysWithin record_of IsDatagram (g.R.Source.unread c.args.source.now)
    (g.R.Source.unread c.read_exact.new.source)) (sym e.1) (record_ends c.length_in-length.result
    (g.R.Source.unread c.args.source.now) (g.R.Source.unread c.read_up_to-read.new.source)
    (g.R.Source.unread c.read_exact.new.source) c.length_in-length.ensures.spelled (search rules)
    c.read_up_to-read.ensures.filled.read c.in_err-read_exact.ensures.advances)

pub returns-in_err-read_exact-clause-reads : goal.returns-in_err-read_exact-clause-reads
returns-in_err-read_exact-clause-reads g c =
    let front = c.read_up_to-read.result.bytes.now in
    let two : length front ≡ 2 = search rules in
    let read : LengthRead c.args.max_records c.args.count c.length_in-length.result
    (g.R.Source.unread c.args.source.now) (g.R.Source.unread c.read_up_to-read.new.source) = search
    rules in
    let e = err_from_is_err_and c.from_residual.result c.from_residual.ensures.1 in
    subst (ReadsNext file_framing c.args.max_records c.args.count
    (g.R.Source.unread c.args.source.now) (g.R.Source.unread c.read_exact.new.source))
    (sym (e.1 ∙ ap Err e.2)) (record_stops (g.R.Source.unread c.read_exact.new.source)
    c.in_err-read_exact.field-0.0 read c.in_err-read_exact.ensures.reads)
