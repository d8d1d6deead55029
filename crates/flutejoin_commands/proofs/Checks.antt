-- gaps --check: what is printed of a journal's objects, and whether they pass (specs/Prints).
use Rattle.std.proofs.Common.{◌≡◌, ◌||◌, ℕ, Bool, true, false, List, Option, Result, Ok, Err, IfErr}
use Rattle.std.proofs.Common.{ap, sym, ◌∙◌}
use Rattle.std.specs.Prelude.{not}
use Rattle.std.specs.Io.KnownBytes.{Appends}
use Rattle.flute_parts.specs.declared.fact.Fact.{Fact}
use Rattle.flutejoin.specs.Gaps.{ListsJournal}
use Rattle.flutejoin.specs.Limits.{Limits}
use Rattle.flutejoin.specs.Styles.{are_whole, passes_check, printed}
use Rattle.flutejoin.specs.Told.{Told}
use Rattle.flutejoin.specs.declared.command_fault.CommandFault.{CommandFault}
use Rattle.flutejoin.specs.declared.lines.style.Style.{Style}
use Rattle.flutejoin_commands.specs.Prints.{IfPrinted}

-- what follows of the objects
pub and_so : {most : Limits} {picks : Fact → Bool} {u : Option (List ℕ)}
    (P Q : List Told → Type 0)
    → ((objects : List Told) → P objects → Q objects) → ListsJournal most picks u P
    → ListsJournal most picks u Q
and_so P Q f h = record {
  entries = h.entries;
  journal = h.journal;
  within = h.within;
  objects = h.objects;
  told = h.told;
  so = f h.objects h.so;
}

-- a fact of whether they pass
pub if_checked : (X : Bool → Type 0) (passes : Bool) (r : Result (Unit {0}) CommandFault)
    → IfPrinted r (λ p. passes ≡ p) → ((p : Bool) → passes ≡ p → X p) → IfPrinted r X
if_checked X passes (Ok u) h f = (f true h.0, tt)
if_checked X passes (Err e) h f = (tt, λ is. f false (h.1 is))

-- all was printed, and they pass, if they are whole or need not be
pub checked : {most : Limits} {picks : Fact → Bool} {u : Option (List ℕ)} (style : Style)
    (whole p : Bool) (old new : Option (List ℕ)) → (not style.check || whole) ≡ p
    → ListsJournal most picks u (λ objects. Appends old new (printed style objects)
    × (whole ≡ are_whole style objects))
    → ListsJournal most picks u (λ objects. Appends old new (printed style objects)
    × (passes_check style objects ≡ p))
checked style whole p old new e h =
    and_so (λ objects. Appends old new (printed style objects) × (whole ≡ are_whole style objects))
    (λ objects. Appends old new (printed style objects) × (passes_check style objects ≡ p))
    (λ objects q. (q.0, ap (λ b. not style.check || b) (sym q.1) ∙ e)) h

pub of_any_fault : {F P : Type 0} (G : F → Type 0) (r : Result (Unit {0}) F) → P
    → IfErr r (λ fault. G fault → P)
of_any_fault G (Ok u) p = tt
of_any_fault G (Err e) p = λ g. p
