-- write_at: the header, and then the record.
use Rattle.std.proofs.Common.{◌≡◌, arith, rules}
use Rattle.std.proofs.lemmas.Result.{err_from_is_err_and}
use Rattle.flute_journal.specs.Records.{file_header, record_of}
use Rattle.flute_parts.proofs.Public.{AppendsPart-first, Writes-behind}
use Rattle.flutejoin.proofs.carousel.sending.write_at.Goals as goal

pub returns-in_err-write_all-clause-bytes : goal.returns-in_err-write_all-clause-bytes
returns-in_err-write_all-clause-bytes g c =
    let u = g.W.Sink.written c.args.sink.now in
    let v = g.W.Sink.written c.write_all.new.self in
    let e = err_from_is_err_and c.from_residual.result c.from_residual.ensures.1 in
    let first : c.args.place ≡ 0 = omega (arith, c.if-place-gt0.false) in
    rw (e.1, first) (AppendsPart-first u v file_header (record_of c.args.bytes.now) (search rules))

pub returns-clause-bytes : goal.returns-clause-bytes
returns-clause-bytes g c =
    let first : c.args.place ≡ 0 = omega (arith, c.if-place-gt0.false) in
    rw first (Writes-behind _ _ _ file_header (record_of c.args.bytes.now) c.write_record-2.result
    (search rules) c.write_record-2.ensures.bytes)
