-- Journals of which all is selected (specs/Lists).
use Rattle.std.proofs.Common.{◌≡◌, ℕ, Bool, true, List, [], ◌∷◌, Option, Some, Result, Ok, Err, IfOk}
use Rattle.std.proofs.Common.{false, refl, subst}
use Rattle.std.specs.Prelude.{filter}
use Rattle.std.specs.Io.KnownBytes.{Appends}
use Rattle.flute_parts.specs.declared.fact.Fact.{Fact}
use Rattle.flute_streams.specs.Compared.{AreRows}
use Rattle.flute_streams.specs.Selections.{selects}
use Rattle.flute_streams.specs.declared.choice.selection.Selection.{Selection}
use Rattle.flutejoin.specs.Compare.{ComparesJournals}
use Rattle.flutejoin.specs.CompareLines.{are_same, compared}
use Rattle.flutejoin.specs.Gaps.{ListsJournal}
use Rattle.flutejoin.specs.Limits.{Limits}
use Rattle.flutejoin.specs.Selected.{selected}
use Rattle.flutejoin.specs.Styles.{are_whole, printed}
use Rattle.flutejoin.specs.Told.{AreTold}
use Rattle.flutejoin.specs.declared.command_fault.CommandFault.{CommandFault}
use Rattle.flutejoin.specs.declared.lines.form.Form.{Form}
use Rattle.flutejoin.specs.declared.lines.style.Style.{Style}
use Rattle.flutejoin_c.specs.Lists.{Compares, Lists}

filter_true : {X : Type 0} (p : X → Bool) → ((x : X) → p x ≡ true) → (xs : List X)
    → filter p xs ≡ xs
filter_true p h [] = refl
filter_true p h (x ∷ xs) = rw (h x, filter_true p h xs) refl

module _ (s : Selection) (all : (fact : Fact) → selects s fact ≡ true) where
  all_selected : (facts : List Fact) → selected s facts ≡ facts
  all_selected facts = filter_true (selects s) all facts

  -- the lines of the objects of which something is selected are those of all
  pub lists_all : (most : Limits) (style : Style) (journal : List ℕ) (old new : Option (List ℕ))
      (r : Result Bool CommandFault)
      → IfOk r (λ whole. ListsJournal most (selects s) (Some journal)
      (λ objects. Appends old new (printed style objects) × (whole ≡ are_whole style objects)))
      → IfOk r (λ _. Lists most style journal old new)
  lists_all most style journal old new (Ok whole) l = record {
    entries = l.entries;
    journal_is = l.journal;
    within = l.within;
    objects = l.objects;
    told = subst (λ F. AreTold F l.objects) (all_selected l.entries) l.told;
    lines = l.so.0;
  }
  lists_all most style journal old new (Err fault) l = tt

module _ (s t : Selection) (all : (fact : Fact) → selects s fact ≡ true)
    (all_others : (fact : Fact) → selects t fact ≡ true) where
  -- the lines of how what is selected of two journals differs are those of all
  pub compares_all : (form : Form) (first second : List ℕ) (old new : Option (List ℕ))
      (r : Result Bool CommandFault)
      → IfOk r (λ same. ComparesJournals s t (Some first) (Some second)
      (λ rows. Appends old new
      (compared (record { check = false; summary = false; form = form }) rows)
      × (same ≡ are_same rows)))
      → IfOk r (λ _. Compares form first second old new)
  unfolding compared
  compares_all form first second old new (Ok same) h = record {
    facts = h.facts;
    others = h.others;
    first_is = h.first_is;
    second_is = h.second_is;
    rows = h.rows;
    are =
        subst (λ F. AreRows F h.others h.rows) (all_selected s all h.facts)
        (subst (λ G. AreRows (selected s h.facts) G h.rows) (all_selected t all_others h.others)
        h.are);
    lines = h.so.0;
  }
  compares_all form first second old new (Err fault) h = tt
