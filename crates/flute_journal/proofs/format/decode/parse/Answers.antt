-- parse: what follows the kind of an entry, and its first fault.
use Rattle.std.proofs.Common.{arith, refl}
use Rattle.flute_journal.proofs.format_lemmas.Decoded.{key_wrong, parsed_at, split_behind_key}
use Rattle.flute_journal.proofs.format.decode.parse.Goals as goal

pub returns-in_default-key_in : goal.returns-in_default-key_in
returns-in_default-key_in c = key_wrong c.args.version c.args.kind c.args.last.now c.args.bytes.now
    (omega (arith, c.sender_size.ensures.size)) c.in-Some.ensures.cases c.in_default-key_in.ensures

pub returns : goal.returns
returns c = parsed_at c.args.last.now c.rest_at.result refl (split_behind_key c.args.bytes.now
    (λ i. (c.type_inv.bytes i).fits) c.sender_size.ensures.size c.in-Some.ensures.cases
    c.in-Some-key_in.ensures) c.rest_at.ensures
