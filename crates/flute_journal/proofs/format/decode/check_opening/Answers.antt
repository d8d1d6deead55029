use Rattle.std.proofs.Common.{rules, take, drop, bytes_eq}
use Rattle.flute_journal.proofs.format_lemmas.Parts.{not_true, not_false}
use Rattle.flute_journal.proofs.format_lemmas.Decoded.{opening_version, opening_read}
use Rattle.flute_journal.proofs.format.decode.check_opening.Goals as goal

pub returns-then-ne-2 : goal.returns-then-ne-2
returns-then-ne-2 c =
    let o = c.args.opening.now in
    opening_version (take 4 o) (λ version. bytes_eq version (take 2 (drop 4 o))) c.args.bytes.now
    c.requires c.in-Some.ensures.cases
    (not_false _ c.if-ne.ensures) c.if-rest-lt2.false (not_true _ c.if-ne-2.ensures)

pub returns : goal.returns
returns c = search (rules, opening_read, not_false)
