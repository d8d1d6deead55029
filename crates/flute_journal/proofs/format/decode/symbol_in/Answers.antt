use Rattle.std.proofs.Common.{Ok}
use Rattle.flute_journal.specs.declared.format.EntryHead.TheVariants.{Symbol}
use Rattle.flute_journal.proofs.Common.{refl}
use Rattle.flute_journal.proofs.format_lemmas.Decoded.{parsed_at, split_behind_key}
use Rattle.flute_journal.proofs.format.decode.symbol_in.Goals as goal

pub returns-in-Ok : goal.returns-in-Ok
returns-in-Ok c = parsed_at c.args.last.now (Ok (Symbol c.in_ok-key.key c.in-Ok.id c.in-Ok.length))
    refl (split_behind_key c.args.bytes.now (λ i. (c.type_inv.bytes i).fits)
    c.sender_size.ensures.size c.in_ok-field.ensures.cases c.in_ok-key.ensures) c.in-Ok.ensures
