use Rattle.std.proofs.Common.{None, refl, false, ◌≡◌}
use Rattle.std.proofs.lemmas.Grind.{common_steps}
use Rattle.flute_journal.proofs.Common.{arith, is_version}
use Rattle.flute_journal.proofs.format_lemmas.Parts.{not_false}
use Rattle.flute_journal.proofs.format_lemmas.Decoded.{header_parsed}
use Rattle.flute_journal.proofs.format.decode.check_header.Goals as goal

pub returns-else-eq-2 : goal.returns-else-eq-2
returns-else-eq-2 c =
    let other : is_version c.in-Some.rest.now ≡ false = grind (arith, common_steps) in
    header_parsed c.args.bytes.now None refl c.requires c.in-Some.ensures.cases
    (not_false _ c.if-ne.ensures) c.if-rest-lt2.false other
