use Rattle.flute_journal.proofs.Common.{length, rules, err_from_is_err_and, AppendsPart-first}
use Rattle.flute_journal.proofs.Common.{Writes-behind, in_bytes}
use Rattle.flute_journal.proofs.writers.datagram_file.write_record.Goals as goal

pub returns-in_err-write_all-clause-bytes : goal.returns-in_err-write_all-clause-bytes
returns-in_err-write_all-clause-bytes g c =
    let bytes = c.args.bytes.now in
    let u = g.W.Sink.written c.args.sink.now in
    let v = g.W.Sink.written c.write_all.new.self in
    let e = err_from_is_err_and c.from_residual.result c.from_residual.ensures.1 in
    rw e.1 (AppendsPart-first u v (in_bytes 2 (length bytes)) bytes (search rules))

pub returns-clause-bytes : goal.returns-clause-bytes
returns-clause-bytes g c = Writes-behind (g.W.Sink.written c.args.sink.now)
    (g.W.Sink.written c.write_all.new.self) (g.W.Sink.written c.write_all-2.new.self)
    (in_bytes 2 (length c.args.bytes.now)) c.args.bytes.now c.write_all-2.result (search rules)
    (search rules)
