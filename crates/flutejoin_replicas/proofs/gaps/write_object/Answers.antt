-- write_object: the lines of an object, or the part of them after a failed write.
use Rattle.std.proofs.Common.{Option, subst}
use Rattle.std.specs.Prelude.{MatchOption}
use Rattle.std.proofs.lemmas.Result.{err_from_is_err_and}
use Rattle.flute_store.specs.declared.status.Status.{Status}
use Rattle.flute_store.specs.Found.{IsUnheard}
use Rattle.flute_store.specs.Status.{TellsStatus}
use Rattle.flutejoin_replicas.proofs.ObjectLines.{object_part, object_written}
use Rattle.flutejoin_replicas.proofs.ObjectLines.{object_alone, status_written}
use Rattle.flutejoin_replicas.proofs.gaps.write_object.Goals as goal

pub returns-in_err-write_status-clause-lines : goal.returns-in_err-write_status-clause-lines
returns-in_err-write_status-clause-lines g c =
    let F = c.args.shelf.now in
    let key = c.args.key.now in
    let e = err_from_is_err_and c.from_residual.result c.from_residual.ensures.1 in
    let told =
    subst (λ (o : Option Status). MatchOption o (IsUnheard F key)
    (λ x. TellsStatus F key x)) c.unwrap-status.ensures c.status.ensures in
    rw e.1 (object_part F key c.unwrap-status.result (g.W.Sink.written c.args.sink.now)
    (g.W.Sink.written c.write_status.new.sink) told c.in_err-write_status.ensures.line)

pub returns-in-Ok-clause-lines : goal.returns-in-Ok-clause-lines
returns-in-Ok-clause-lines g c =
    let line = status_written c.args.shelf.now c.args.key.now c.unwrap-status.ensures
    c.status.ensures c.in_ok-write_status.ensures.line in
    object_written (g.W.Sink.written c.write_gaps.new.sink) c.write_gaps.result line
    c.in-Ok.ensures c.write_gaps.ensures.lines

pub returns-in-Err-clause-lines : goal.returns-in-Err-clause-lines
returns-in-Err-clause-lines g c =
    let line = status_written c.args.shelf.now c.args.key.now c.unwrap-status.ensures
    c.status.ensures c.in_ok-write_status.ensures.line in
    object_alone c.in-Err.field-0 line c.in-Err.ensures
