use Rattle.std.proofs.Common.{rules}
use Rattle.flute_journal.proofs.Common.{◌++◌}
use Rattle.flute_journal.proofs.Common.{fact_key, rising_unique}
use Rattle.flute_journal.proofs.format_lemmas.Entries.{entry_injective, fact_two, facts_of}
use Rattle.flute_journal.proofs.format_lemmas.Entries.{one_room, room_one}
use Rattle.flute_journal.proofs.format_lemmas.Prefixes.{BeginsWithJournal, begins_with_journal}
use Rattle.flute_journal.proofs.format_lemmas.Prefixes.{journal_parts, parts_journal, same_journal}
use Rattle.flute_journal.proofs.format_lemmas.Prefixes.{spelling-injective}
use Rattle.flute_journal.proofs.framing_lemmas.Passes.{without_end-below}
use Rattle.flute_journal.proofs.laws.a_journal_is_its_content.Goals as goal

pub returns-clause-one_reading : goal.returns-clause-one_reading
returns-clause-one_reading c = entry_injective

pub returns-clause-written : goal.returns-clause-written
returns-clause-written c = fact_two

pub returns-clause-old : goal.returns-clause-old
returns-clause-old c f valid =
    (λ p. room_one (fact_key f) p.1, λ e. (valid, one_room (fact_key f) e))

pub returns-clause-equal : goal.returns-clause-equal
returns-clause-equal c v bs cs F G first second = search (
  rules,
  same_journal,
  journal_parts,
  rising_unique,
)

pub returns-clause-content : goal.returns-clause-content
returns-clause-content c bs F G (v, j) (w, k) = (same_journal v w bs F G j k).1

pub returns-clause-version : goal.returns-clause-version
returns-clause-version c v w bs F G j k = search rules

pub returns-clause-prefix : goal.returns-clause-prefix
returns-clause-prefix c bs more F G (v, first) (w, second) =
    let j = journal_parts v bs F first in
    let k = journal_parts w (bs ++ more) G second in
    let begun : BeginsWithJournal v j.entries more (bs ++ more) = search rules in
    (spelling-injective begun (begins_with_journal k)).2

pub returns-clause-bounded : goal.returns-clause-bounded
returns-clause-bounded c bs limit F small h = search (rules, parts_journal, facts_of)

pub returns-clause-begun : goal.returns-clause-begun
returns-clause-begun x0 x1 x2 x3 x4 x5 x6 = search (rules, without_end-below)

pub returns-clause-spelling : goal.returns-clause-spelling
returns-clause-spelling c v es fs r s same = search (rules, rising_unique)
