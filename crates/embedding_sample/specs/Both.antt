-- The journal of what two receptions contain.
use Rattle.std.specs.Prelude.{◌≡◌, ℕ, ◌++◌, List, Option, Some}
use Rattle.flute_parts.specs.declared.fact.Fact.{Fact}
use Rattle.flute_journal.specs.Journal.{IsJournalWithin, Journal}

-- the first two are journals of at most so many entries, and the third, if contracts see it, is the
-- journal of all that they contain
pub record IsOfBoth (limit : ℕ) (first second : List ℕ)
    (joined : Option (List ℕ)) : Type 0 where
  pub facts : List Fact
  pub others : List Fact
  pub first_is : IsJournalWithin limit first facts
  pub second_is : IsJournalWithin limit second others
  pub bytes : List ℕ
  pub journal : Journal bytes (facts ++ others)
  pub joined_is : joined ≡ Some bytes
