use Rattle.flute_journal.proofs.Common.{◌≡◌, ◌∙◌, Some, ap, refl, slice_get, sym, flat_map}
use Rattle.std.proofs.lemmas.Option.{slice_get_read, slice_get_past}
use Rattle.flute_journal.proofs.Common.{err_from_is_err_and, AppendsPart-first, file_header}
use Rattle.flute_journal.proofs.Common.{record_of}
use Rattle.flute_journal.proofs.writers_lemmas.Sending.{sent-part, sent-all, sent-file}
use Rattle.flute_journal.proofs.writers.datagram_file.write_datagrams.Goals as goal

pub returns-in_err-write_all-clause-bytes : goal.returns-in_err-write_all-clause-bytes
returns-in_err-write_all-clause-bytes g c =
    let e = err_from_is_err_and c.from_residual.result c.from_residual.ensures.1 in
    rw e.1 (AppendsPart-first (g.W.Sink.written c.args.sink.now)
    (g.W.Sink.written c.write_all.new.self) file_header
    (flat_map record_of c.args.datagrams.now) c.in_err-write_all.ensures.bytes)

pub returns-in_err-write_record-clause-bytes : goal.returns-in_err-write_record-clause-bytes
returns-in_err-write_record-clause-bytes g c =
    let e = err_from_is_err_and c.from_residual-in_err-write_record.result
    c.from_residual-in_err-write_record.ensures.1 in
    let here : slice_get c.args.datagrams.now c.loop-datagram.place ≡ Some c.as_slice.result.now =
    slice_get_read c.args.datagrams.now _ c.loop-datagram.place c.in-Some.datagram.now refl
    c.in-Some.ensures.lookup.3.0 c.in-Some.ensures.lookup.1 ∙ ap Some (sym c.as_slice.ensures.bytes)
    in rw e.1 (sent-part (g.W.Sink.written c.write_record.new.sink) c.loop-datagram.invariant.0 here
    c.in_err-write_record.ensures.bytes)

pub returns-clause-bytes : goal.returns-clause-bytes
returns-clause-bytes g c =
    sent-all c.args.datagrams.now c.loop-datagram.place (g.W.Sink.written c.args.sink.now)
    (g.W.Sink.written c.loop-datagram.sink) c.loop-datagram.invariant.0
    (slice_get_past c.args.datagrams.now c.loop-datagram.place c.in_default.ensures.lookup.3)

pub returns-clause-file : goal.returns-clause-file
returns-clause-file g c =
    sent-file c.args.datagrams.now c.loop-datagram.place (g.W.Sink.written c.args.sink.now)
    (g.W.Sink.written c.loop-datagram.sink) c.loop-datagram.invariant.0
    (slice_get_past c.args.datagrams.now c.loop-datagram.place c.in_default.ensures.lookup.3)
