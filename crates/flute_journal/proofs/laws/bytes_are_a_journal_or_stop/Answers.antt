use Rattle.std.proofs.Common.{rules}
use Rattle.flute_journal.proofs.Common.{arith}
use Rattle.flute_journal.proofs.format_lemmas.Prefixes.{journal_parts}
use Rattle.flute_journal.proofs.framing_lemmas.Decisions.{decided}
use Rattle.flute_journal.proofs.framing_lemmas.Framings.{journal_sound}
use Rattle.flute_journal.proofs.framing_lemmas.Existence.{next_found}
use Rattle.flute_journal.proofs.framing_lemmas.Passes.{beyond, stops_one}
use Rattle.flute_journal.proofs.laws.bytes_are_a_journal_or_stop.Goals as goal

pub returns-clause-either : goal.returns-clause-either
returns-clause-either c = decided journal_sound next_found

pub returns-clause-never_both : goal.returns-clause-never_both
returns-clause-never_both c bs limit es fs f small j s =
    let a = j.are_items in
    let b = beyond a.told es a.valid a.in_order (omega (arith, small, a.few)) j.bytes_are s in
    omega (arith, b.1, a.few)

pub returns-clause-once : goal.returns-clause-once
returns-clause-once c = stops_one

pub returns-clause-bound : goal.returns-clause-bound
returns-clause-bound c bs F es limit f (v, journal) s =
    let j = journal_parts v bs F journal in
    let all = j.entries in
    let b = beyond v all j.valid j.collects.rising j.small j.bytes_are s in
    (b.0, (all, record { are_items = search rules; bytes_are = j.bytes_are }, b.1))
