use Rattle.flute_journal.proofs.Common.{ap, sym, ◌∙◌, big_from-whole, in_bytes}
use Rattle.flute_journal.proofs.Numbers.{octets, spelled}
use Rattle.flute_journal.proofs.format.number.length_in.Goals as goal

pub returns-clause-value : goal.returns-clause-value
returns-clause-value c = c.read_u16.ensures ∙ big_from-whole 2 c.args.field.now (sym c.requires)

pub returns-clause-spelled : goal.returns-clause-spelled
returns-clause-spelled c = ap (in_bytes 2)
    (c.read_u16.ensures ∙ big_from-whole 2 c.args.field.now (sym c.requires)) ∙ spelled 2
    c.args.field.now c.requires (octets c.args.field.now (λ i. (c.type_inv.field i).fits))
