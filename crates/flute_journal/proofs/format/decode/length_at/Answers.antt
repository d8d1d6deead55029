use Rattle.flute_journal.proofs.Common.{◌≡◌, length, arith, ◌∙◌, big_from-whole}
use Rattle.flute_journal.proofs.Numbers.{octets}
use Rattle.flute_journal.proofs.format_lemmas.Decoded.{length_empty, length_read}
use Rattle.flute_journal.proofs.format.decode.length_at.Goals as goal

pub returns-then-length-eq0 : goal.returns-then-length-eq0
returns-then-length-eq0 c =
    let two : 2 ≡ length c.args.bytes.now = omega (arith, c.requires, c.if-bytes-lt2.false) in
    length_empty c.args.bytes.now c.read_u16-length.result (omega (arith, two))
    (c.read_u16-length.ensures ∙ big_from-whole 2 c.args.bytes.now two) c.if-length-eq0.true

pub returns : goal.returns
returns c =
    let two : 2 ≡ length c.args.bytes.now = omega (arith, c.requires, c.if-bytes-lt2.false) in (
      omega (arith, c.if-length-eq0.false),
      length_read c.args.bytes.now c.read_u16-length.result
          (omega (arith, two)) (octets c.args.bytes.now (λ i. (c.type_inv.bytes i).fits))
          (c.read_u16-length.ensures ∙ big_from-whole 2 c.args.bytes.now two),
    )
