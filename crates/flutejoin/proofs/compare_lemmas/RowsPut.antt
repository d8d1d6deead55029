-- CompareLines: the lines that were put aside as rows were told (specs/RowsTold).
use Rattle.std.proofs.Common.{◌≡◌, ℕ, ◌+◌, Bool, true, false, not, ◌||◌, ◌&&◌, List, [], ◌∷◌}
use Rattle.std.proofs.Common.{◌++◌, Option, Some, None, refl, sym, ap, ◌∙◌, subst, arith}
use Rattle.std.proofs.Common.{Result, Ok, Err}
use Rattle.std.specs.Prelude.{if◌then◌else◌, is_ok, OnOk}
use Rattle.std.specs.Io.KnownBytes.{Appends}
use Rattle.std.proofs.lemmas.List.Folds.{list_any-append}
use Rattle.flute_parts.specs.Devices.{Writes}
use Rattle.flute_parts.specs.declared.device.DeviceFault.{DeviceFault}
use Rattle.flute_streams.specs.Compared.{differs}
use Rattle.flute_streams.specs.declared.merge.sides.Row.{Row}
use Rattle.flutejoin.specs.CompareLines.{are_same, compared, row_line}
use Rattle.flutejoin.specs.CompareSums.{last_sums, row_session, sums_after, sums_before, with_row}
use Rattle.flutejoin.specs.Listing.{Knows}
use Rattle.flutejoin.specs.RowsTold.{AreFew, AreTheirs, HasRows, TakesRows}
use Rattle.flutejoin.specs.declared.compare.compare_lines.CompareLines.{CompareLines}
use Rattle.flutejoin.specs.declared.compare.compare_sums.CompareSums.{CompareSums}
use Rattle.flutejoin.proofs.compare_lemmas.RowSums.{added_to, all_put}
use Rattle.flutejoin.proofs.gaps_lemmas.MovedAside.{knows_more}

same_more : (rows : List Row) (row : Row) (old now : Bool) → old ≡ are_same rows
    → now ≡ (old && not (differs row)) → now ≡ are_same (rows ++ row ∷ [])
same_more rows row _ _ e n =
    n ∙ ap (λ b. b && not (differs row)) e
    ∙ both _ _
    ∙ ap not (sym (list_any-append differs rows (row ∷ [])))
  where
    both : (a b : Bool) → (not a && not b) ≡ not (a || (b || false))
    both true b = refl
    both false true = refl
    both false false = refl

-- one row was told
pub row_put : {A : Type 0} (written : A → Option (List ℕ)) {known : Bool} {before : List Row}
    {old : CompareLines A} (new : CompareLines A) (row : Row) → AreFew (before ++ row ∷ []) →
    HasRows written known before old → new.style ≡ old.style → new.same ≡
    (old.same && not (differs row)) → (Appends (written old.lines.now) (written new.lines.now) (if
    old.style.summary then sums_before old.style.form old.sums (row_session row) else row_line
    old.style.form row)) × (new.sums ≡ (if old.style.summary then Some
    (with_row (sums_after old.sums (row_session row)) row) else old.sums)) → HasRows written known
    (before ++ row ∷ []) new
row_put _ {before} {old} new row few h style same put =
    let more = if old.style.summary then sums_before old.style.form old.sums (row_session row)
    else row_line old.style.form row in
    let theirs = added_to _ _ _ _ _ _ few h.theirs in
    record {
      lines = h.lines ++ more;
      same = same_more before row _ _ h.same same;
      theirs = rw style (subst (λ o. AreTheirs old.style.form old.style.summary (before ++ row ∷ [])
          (h.lines ++ more) o) (sym put.1) theirs);
      lines_known = knows_more _ h.lines_known put.0;
    }

module _ {A : Type 0} (written : A → Option (List ℕ)) (failures : A → ℕ) (old new : CompareLines A)
    (row : Row) (style : new.style ≡ old.style)
    (name : new.lines.ghost_name ≡ old.lines.ghost_name)
    (same : new.same ≡ (old.same && not (differs row))) where
  taken : failures new.lines.now ≡ failures old.lines.now → (Appends (written old.lines.now)
      (written new.lines.now) (if old.style.summary then sums_before old.style.form old.sums
      (row_session row) else row_line old.style.form row)) × (new.sums ≡ (if old.style.summary then
      Some (with_row (sums_after old.sums (row_session row)) row) else old.sums)) → TakesRows
      written failures old (row ∷ []) new
  taken quiet put = record {
    style = style;
    name = name;
    quiet = quiet;
    has = λ known before few h. row_put _ _ _ few h style same put;
  }

  -- its line was put aside
  pub lined : (r : Result (Unit {0}) DeviceFault) → old.style.summary ≡ false
      → Writes (written old.lines.now) (written new.lines.now) (row_line old.style.form row) r
      → failures new.lines.now ≡ failures old.lines.now + (if is_ok r then 0 else 1)
      → new.sums ≡ old.sums → OnOk r (TakesRows written failures old (row ∷ []) new)
  lined (Err e) _ _ _ _ = tt
  lined (Ok u) off line counted sums = taken (omega arith) (rw off (line, sums))

  -- it was added to sums
  pub summed : old.style.summary ≡ true → Appends (written old.lines.now) (written new.lines.now)
      (sums_before old.style.form old.sums (row_session row)) → failures new.lines.now ≡ failures
      old.lines.now → new.sums ≡ Some (with_row (sums_after old.sums (row_session row)) row) →
      TakesRows written failures old (row ∷ []) new
  summed on line quiet sums = taken quiet (rw on (line, sums))

-- no row yet
pub none_put : {A : Type 0} (written : A → Option (List ℕ)) (known : Bool) (v : CompareLines A)
    → v.same ≡ true → v.sums ≡ None → Knows known (written v.lines.now) []
    → HasRows written known [] v
none_put written known v same sums k = record {
  lines = [];
  same = same;
  theirs = by _ _ sums;
  lines_known = k;
}
  where
    by : (b : Bool) (s : Option CompareSums) → s ≡ None → AreTheirs v.style.form b [] [] s
    by false s e = (refl, e)
    by true None e = (refl, refl)
    by true (Some s) e = absurd (none e)
      where
        none : Some s ≡ None → ⊥
        none e = cc

-- the lines of all rows were put aside
pub all_written : {A : Type 0} (written : A → Option (List ℕ)) {rows : List Row}
    {v : CompareLines A} (s : Option (List ℕ)) → HasRows written true rows v
    → Appends (written v.lines.now) s (last_sums v.style.form v.sums) → s ≡ Some (compared v.style rows)
all_written _ {rows} {v} s h line =
    rw (all_put _ _ _ _ h.theirs) at (knows_more _ h.lines_known line refl)
