use Rattle.std.proofs.Common.{rules, Some}
use Rattle.std.proofs.lemmas.Grind.{common_steps}
use Rattle.flute_journal.specs.declared.format.EntryHead.TheVariants.{Symbol}
use Rattle.flute_journal.specs.declared.format.Kind.TheVariants as kinds
use Rattle.flute_journal.proofs.Common.{arith, RestIs}
use Rattle.flute_journal.proofs.format_lemmas.{Decoded.{joined}, SameFile.{next_read, part_after}}
use Rattle.flute_journal.proofs.format.decode.next_symbol_in.Goals as goal

pub returns-in-Ok-length_at : goal.returns-in-Ok-length_at
returns-in-Ok-length_at c =
    let last = c.args.last.now in
    let length = c.in-Ok-length_at.length in
    let rest : RestIs (Some last) kinds.Symbol last.key c.in_ok-field.rest.now
    (Symbol last.key c.in-Ok.id length) = grind (arith, common_steps, part_after) in
    next_read last c.in_ok-field.rest.now (Some (c.in-Ok.id, length)) (search rules) (search rules)
    (joined c.args.bytes.now c.in_ok-field.field.now c.in_ok-field.rest.now _
    c.in_ok-field.ensures.cases) rest
