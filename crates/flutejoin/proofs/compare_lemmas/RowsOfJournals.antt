-- compare: what was told of two streams, stated of the journals that they read (specs/Compare).
use Rattle.std.proofs.Common.{◌≡◌, ℕ, ◌≤◌, ◌⊎◌, true, List, [], ◌++◌, length, Option}
use Rattle.std.proofs.Common.{inl, inr, sym, subst}
use Rattle.std.specs.Prelude.{IfSome}
use Rattle.flute_parts.specs.declared.fact.Fact.{Fact}
use Rattle.flute_journal.specs.Journal.{IsJournalWithin}
use Rattle.flute_streams.specs.ChosenStreams.{OfAll}
use Rattle.flute_streams.specs.Compared.{AreRows}
use Rattle.flute_streams.specs.Selections.{selects}
use Rattle.flute_streams.specs.declared.choice.selection.Selection.{Selection}
use Rattle.flute_streams.specs.declared.merge.sides.Row.{Row}
use Rattle.flutejoin.specs.Compare.{ComparesJournals}
use Rattle.flutejoin.specs.RowsTold.{AreFew, HasRows, TakesRows}
use Rattle.flutejoin.specs.declared.compare.compare_lines.CompareLines.{CompareLines}
use Rattle.flutejoin.specs.declared.limits.TheConstants.{MAX_ENTRIES}
use Rattle.flutejoin.proofs.compare_lemmas.FewRows.{few_rows}

-- facts are what is chosen of a journal
abbrev pub AreOf : Selection → Option (List ℕ) → ℕ → List Fact → Type 0
AreOf s input limit facts =
    OfAll (selects s) (λ all. IfSome input (λ bytes. IsJournalWithin limit bytes all)) facts

pub of_source : (s : Selection) {left input : Option (List ℕ)} {limit : ℕ} (facts : List Fact) →
    left ≡ input → limit ≡ MAX_ENTRIES → AreOf s left limit facts → AreOf s input MAX_ENTRIES facts
of_source s {left} facts e l a = rw (← e) (subst (λ n. AreOf s left n facts) l a)

-- the rows, and the facts that they are of
pub record Facts (s t : Selection) (first second : Option (List ℕ)) (rows : List Row) : Type 0 where
  pub facts : List Fact
  pub others : List Fact
  pub first_are : AreOf s first MAX_ENTRIES facts
  pub second_are : AreOf t second MAX_ENTRIES others
  pub are : AreRows facts others rows
  pub first_few : length facts ≤ MAX_ENTRIES
  pub second_few : length others ≤ MAX_ENTRIES

module _ {s t : Selection} {first second : Option (List ℕ)} {rows : List Row} where
  pub compares : (P : List Row → Type 0) → Facts s t first second rows → P rows
      → ComparesJournals s t first second P
  compares P f p =
      let one = f.first_are in
      let other = f.second_are in
      record {
        facts = one.0;
        others = other.0;
        first_is = one.1;
        second_is = other.1;
        rows = rows;
        are = rw (← one.2) (subst (λ G. AreRows f.facts G rows) other.2 f.are);
        so = p;
      }

  pub unless : {A : Type 0} (P : List Row → Type 0) → Facts s t first second rows → A ⊎ P rows
      → A ⊎ ComparesJournals s t first second P
  unless P f (inl a) = inl a
  unless P f (inr p) = inr (compares P f p)

  -- the lines of all rows were put aside
  pub all_put_aside : {A : Type 0} (written : A → Option (List ℕ)) (failures : A → ℕ)
      {old new : CompareLines A} {told : List Row} → Facts s t first second rows
      → told ≡ [] ++ rows → TakesRows written failures old told new
      → HasRows written true [] old → HasRows written true rows new
  all_put_aside written _ {new} f e taken h =
      let few = few_rows _ _ f.first_few f.second_few _ f.are in
      rw (← e) (taken.has true [] (subst AreFew (sym e) few) h)
