-- What the command `minus` writes.
use Rattle.std.specs.Prelude.{◌≡◌, ℕ, List, Option, Some, IfSome}
use Rattle.std.specs.Io.KnownBytes.{Appends}
use Rattle.flute_parts.specs.declared.fact.Fact.{Fact}
use Rattle.flute_journal.specs.Journal.{IsJournal, IsJournalWithin, Journal}
use Rattle.flute_journal.specs.JournalWriters.{WritesJournal}
use Rattle.flute_journal.specs.Prefixes.{IsProperPrefix}
use Rattle.flute_streams.specs.Minus.{minus}
use Rattle.flutejoin.specs.declared.limits.TheConstants.{MAX_ENTRIES}

-- the inputs are journals, and the journal of what of the first a join would change the second by
-- was written, which has so many entries
pub record WritesMinus (first second : Option (List ℕ)) (count : ℕ) (old new : Option (List ℕ))
    : Type 0 where
  pub facts : List Fact
  pub held : List Fact
  pub first_is : IfSome first (λ bytes. IsJournalWithin MAX_ENTRIES bytes facts)
  pub second_is : IfSome second (λ bytes. IsJournalWithin MAX_ENTRIES bytes held)
  pub writes : WritesJournal old new (minus facts held) count

-- What was appended is no journal of any version. If the inputs are journals, it is a proper prefix
-- of the journal of what of the first a join would change the second by.
pub record WritesMinusPart (first second old new : Option (List ℕ)) : Type 0 where
  pub bytes : List ℕ
  pub appended : Appends old new bytes
  pub no_journal : (facts : List Fact) → IsJournal bytes facts → ⊥
  pub prefix : (xs ys whole : List ℕ) (F G : List Fact) → first ≡ Some xs → second ≡ Some ys
      → IsJournalWithin MAX_ENTRIES xs F → IsJournalWithin MAX_ENTRIES ys G
      → Journal whole (minus F G) → IsProperPrefix bytes whole
