-- compare: what is printed of two journals, stated of their names (specs/Printed).
use Rattle.std.proofs.Common.{◌≡◌, ◌⊎◌, ◌||◌, ℕ, Bool, true, false, List, [], ◌∷◌, Option, Some, None}
use Rattle.std.proofs.Common.{Result, Ok, Err, IfErr, inl, inr, ap, refl, sym, subst, ◌∙◌}
use Rattle.std.specs.Prelude.{not}
use Rattle.std.specs.Io.KnownBytes.{Appends}
use Rattle.flute_streams.specs.declared.choice.selection.Selection.{Selection}
use Rattle.flute_streams.specs.declared.merge.sides.Row.{Row}
use Rattle.flutejoin.specs.Compare.{ComparesJournals}
use Rattle.flutejoin.specs.CompareLines.{are_same, compared, passes_check}
use Rattle.flutejoin.specs.declared.command_fault.CommandFault.{CommandFault}
use Rattle.flutejoin.specs.declared.command_fault.CommandFault.TheVariants.{CannotOpen, OutOfMemory}
use Rattle.flutejoin.specs.declared.lines.compare_style.CompareStyle.{CompareStyle}
use Rattle.flutejoin_commands.specs.Files.{Files, HasBytes, IfFiles, IsNoFile}
use Rattle.flutejoin_commands.specs.Named.{IsUnopened}
use Rattle.flutejoin_commands.specs.Prints.{IfCompared}

module _ {s t : Selection} {u v : Option (List ℕ)} where
  -- what follows of the rows
  pub and_so : (P Q : List Row → Type 0) → ((rows : List Row) → P rows → Q rows)
      → ComparesJournals s t u v P → ComparesJournals s t u v Q
  and_so P Q f h = record {
    facts = h.facts;
    others = h.others;
    first_is = h.first_is;
    second_is = h.second_is;
    rows = h.rows;
    are = h.are;
    so = f h.rows h.so;
  }

  -- all was printed, and they pass, if nothing differs or may
  pub checked : (style : CompareStyle) (same p : Bool) (old new : Option (List ℕ))
      → (not style.check || same) ≡ p
      → ComparesJournals s t u v (λ rows. Appends old new (compared style rows)
      × (same ≡ are_same rows))
      → ComparesJournals s t u v (λ rows. Appends old new (compared style rows)
      × (passes_check style rows ≡ p))
  checked style same p old new e h =
      and_so (λ rows. Appends old new (compared style rows) × (same ≡ are_same rows))
      (λ rows. Appends old new (compared style rows) × (passes_check style rows ≡ p))
      (λ rows q. (q.0, ap (λ b. not style.check || b) (sym q.1) ∙ e)) h

-- a fact of whether they pass
pub if_checked : (X : Bool → Type 0) (passes : Bool) (r : Result (Unit {0}) CommandFault)
    → IfCompared r (λ p. passes ≡ p) → ((p : Bool) → passes ≡ p → X p) → IfCompared r X
if_checked X passes (Ok u) h f = (f true h.0, tt)
if_checked X passes (Err e) h f = (tt, λ is. f false (h.1 is))

-- a fact of two opened inputs that holds if the files are known
pub if_told_two : (files : Option Files) (a b : List ℕ) (first second : Option (List ℕ))
    → HasBytes files a first × HasBytes files b second
    → (P : Option (List ℕ) → Option (List ℕ) → Type 0) → IfFiles files (λ f. P first second)
    → IfFiles files (λ f. P (f a) (f b))
if_told_two None a b first second h P p = tt
if_told_two (Some files) a b first second h P p =
    subst (λ y. P (files a) y) h.1.0 (subst (λ x. P x second) h.0.0 p)

pub told_two : (files : Option Files) (a b : List ℕ) (first second : Option (List ℕ))
    → HasBytes files a first × HasBytes files b second
    → (P : Option (List ℕ) → Option (List ℕ) → Type 0) → P first second
    → IfFiles files (λ f. P (f a) (f b))
told_two None a b first second h P p = tt
told_two (Some files) a b first second h P p = if_told_two (Some files) a b first second h P p

-- the first of two that was not opened
pub unread_of_two : {S : Type 0} (files : Option Files) (a b : List ℕ) (fault : CommandFault)
    → ((fault ≡ CannotOpen 1) × IsNoFile files a)
    ⊎ (((fault ≡ CannotOpen 2) × IsNoFile files b × S) ⊎ (fault ≡ OutOfMemory))
    → IsUnopened files (a ∷ b ∷ []) fault ⊎ (fault ≡ OutOfMemory)
unread_of_two files a b fault (inl n) = inl (record {
  before = 0;
  name = a;
  here = refl;
  why = inl (n.0, n.1);
})
unread_of_two files a b fault (inr (inl n)) = inl (record {
  before = 1;
  name = b;
  here = refl;
  why = inl (n.0, n.1);
})
unread_of_two files a b fault (inr (inr none)) = inr none

-- of what was chosen of both
pub chosen_as : {s t s' t' : Selection} (P : Selection → Selection → Type 0) → s ≡ s' → t ≡ t'
    → P s t → P s' t'
chosen_as {t = t} {s' = s'} P d e p = subst (λ y. P s' y) e (subst (λ x. P x t) d p)
