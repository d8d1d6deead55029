-- Lists of facts, facts above them, and their journals.
use Rattle.std.proofs.Common.{rules}
use Rattle.std.proofs.Common.{◌≡◌, ℕ, ◌<◌, ◌^◌, List, ◌++◌}
use Rattle.std.proofs.Common.{append_assoc, arith}
use Rattle.flute_parts.specs.declared.fact.Fact.{Fact}
use Rattle.flute_parts.specs.Facts.{Same, Below}
use Rattle.flute_parts.proofs.Public.{rising_unique, Same-append, Same-itself, Same-sym}
use Rattle.flute_parts.proofs.Public.{Same-trans, Same-twice}
use Rattle.flute_journal.specs.Journal.{Journal, IsJournal, IsJournalWithin}
use Rattle.flute_journal.specs.Stores.{IsJournalOf}
use Rattle.flute_journal.proofs.Public.{facts_of, parts_journal, same_journal}
use Rattle.flutejoin.specs.declared.limits.TheConstants.{MAX_ENTRIES}

pub Below-left : (F G : List Fact) → Below F (F ++ G)
Below-left F G =
    let P : List Fact → Type 0 = λ H. Same H (F ++ G) in
    rw (← append_assoc F F G) (Same-append _ F G G (Same-twice F) (Same-itself G))

pub Same-from_journals : (bs : List ℕ) (F G : List Fact) → IsJournal bs F → IsJournal bs G
    → Same F G
Same-from_journals bs F G (v, j) (w, k) = (same_journal v w _ F G j k).1

pub Journal-only : (bs cs : List ℕ) (F G : List Fact) → Same F G → Journal bs F → Journal cs G
    → bs ≡ cs
Journal-only bs cs F G same j k = search (rules, rising_unique, Same-trans, Same-sym)

pub IsJournal-from_bound : (limit : ℕ) → limit < 2 ^ 64 → (bs : List ℕ) (entries : List Fact) →
    IsJournalWithin limit bs entries → IsJournal bs entries
IsJournal-from_bound limit small bs entries j = search (rules, parts_journal, facts_of, Same-itself)

pub IsJournal-from_within : (bs : List ℕ) (entries : List Fact)
    → IsJournalWithin MAX_ENTRIES bs entries → IsJournal bs entries
IsJournal-from_within = IsJournal-from_bound _ (omega arith)

-- facts read of a journal have the values of any facts with that journal
pub Same-read_of_joined : (held joined others : List Fact) (bs : List ℕ) → IsJournalOf MAX_ENTRIES
    bs held → IsJournal bs joined → Same joined others → Same held others
Same-read_of_joined held joined others bs is journal same = Same-trans _ _ _ is.2
    (Same-trans _ _ _ (Same-from_journals _ _ _ (IsJournal-from_within _ _ is.1) journal) same)
