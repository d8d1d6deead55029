use Rattle.flute_journal.proofs.Common.{Err, IsBody, StaysWithin, ap, body, err_from_is_err_and}
use Rattle.flute_journal.proofs.Common.{subst, sym, ◌∙◌}
use Rattle.flute_journal.proofs.format_lemmas.Parts.{body_within-short}
use Rattle.flute_journal.proofs.readers_lemmas.Bodies.{symbol_ends}
use Rattle.flute_journal.proofs.readers.entry_fields.read_body.Goals as goal

pub returns-in_err-fact-clause-within : goal.returns-in_err-fact-clause-within
returns-in_err-fact-clause-within g c =
    let k = c.args.kind in
    let e = err_from_is_err_and c.from_residual.result c.from_residual.ensures.1 in
    let a = c.in_err-fact.ensures.advances in
    subst (StaysWithin (body c.args.version) (IsBody c.args.version k) _ _) (sym e.1)
    (a.0, a.1, body_within-short c.args.version k a.0 a.2)

pub returns-in_err-read_exact-in-Symbol-clause-within :
    goal.returns-in_err-read_exact-in-Symbol-clause-within
returns-in_err-read_exact-in-Symbol-clause-within g c =
    let e = err_from_is_err_and c.from_residual-in_err-read_exact-in-Symbol.result
    c.from_residual-in_err-read_exact-in-Symbol.ensures.1 in
    let r = c.in_ok-fact.ensures.reads in
    let fixed = rw c.in-Symbol.is at r.0 in
    symbol_ends c.args.version (g.R.Source.unread c.args.source.now)
    (g.R.Source.unread c.read_head.new.source) (g.R.Source.unread c.read_exact.new.source)
    (e.1 ∙ ap Err e.2) fixed (rw c.in-Symbol.is at r.1)
    c.in_err-read_exact-in-Symbol.ensures.advances
