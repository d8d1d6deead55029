-- Journals of lists of facts that are the same.
use Rattle.flute_streams.proofs.Common.{List, ℕ, Fact, Version, JournalIn, Same, Same-trans}
use Rattle.flute_journal.proofs.Public.{journal_parts, parts_journal}

-- facts with the same value at each address have the same journal
pub of_others : (v : Version) (bytes : List ℕ) (F G : List Fact) → Same G F → JournalIn v bytes F
    → JournalIn v bytes G
of_others v bytes F G same journal =
    let j = journal_parts v _ F journal in
    parts_journal v _ G (record {
      entries = j.entries;
      collects = record {
        valid = j.collects.valid;
        rising = j.collects.rising;
        same = Same-trans G F _ same j.collects.same;
      };
      small = j.small;
      bytes_are = j.bytes_are;
      valid = j.valid;
    })
