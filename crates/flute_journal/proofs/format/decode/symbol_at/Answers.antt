use Rattle.flute_journal.specs.declared.format.EntryHead.TheVariants.{Symbol}
use Rattle.flute_journal.specs.declared.format.Kind.TheVariants as kinds
use Rattle.flute_journal.proofs.Common.{Err, Parses, RestIs, ap, err_from_is_err_and, rest_fault}
use Rattle.flute_journal.proofs.Common.{subst, sym, ◌∙◌}
use Rattle.flute_journal.proofs.format_lemmas.Decoded.{id_wrong}
use Rattle.flute_journal.proofs.format.decode.symbol_at.Goals as goal

pub returns-in_err-in_order : goal.returns-in_err-in_order
returns-in_err-in_order c =
    let last = c.args.last.now in
    let key = c.args.key.now in
    let bs = c.args.bytes.now in
    let id = c.in_ok-id in
    let e = err_from_is_err_and c.from_residual-in_err-in_order.result
    c.from_residual-in_err-in_order.ensures.1 in
    let why = c.in_err-in_order.ensures in
    subst (Parses 6 (λ s. RestIs last kinds.Symbol key bs (Symbol key s.0 s.1))
    (rest_fault last kinds.Symbol key) bs) (sym (e.1 ∙ ap Err (e.2 ∙ why.0)))
    (id_wrong last key id.id bs id.rest.now id.ensures.0 id.ensures.1 why.1)
