-- What the command `compare` returns and writes, given two journals.
use Rattle.std.specs.Prelude.{ℕ, List, Option, IfSome}
use Rattle.flute_parts.specs.declared.fact.Fact.{Fact}
use Rattle.flute_journal.specs.Journal.{IsJournalWithin}
use Rattle.flute_streams.specs.Compared.{AreRows}
use Rattle.flute_streams.specs.declared.choice.selection.Selection.{Selection}
use Rattle.flute_streams.specs.declared.merge.sides.Row.{Row}
use Rattle.flutejoin.specs.Selected.{selected}
use Rattle.flutejoin.specs.declared.limits.TheConstants.{MAX_ENTRIES}

-- the inputs are journals, and P holds of the rows of all objects of what is selected of them
pub record ComparesJournals (choice other : Selection) (first second : Option (List ℕ))
    (P : List Row → Type 0) : Type 0 where
  pub facts : List Fact
  pub others : List Fact
  pub first_is : IfSome first (λ bytes. IsJournalWithin MAX_ENTRIES bytes facts)
  pub second_is : IfSome second (λ bytes. IsJournalWithin MAX_ENTRIES bytes others)
  pub rows : List Row
  pub are : AreRows (selected choice facts) (selected other others) rows
  pub so : P rows
