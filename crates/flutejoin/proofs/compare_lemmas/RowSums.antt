-- compare --summary: the sums of each session (specs/CompareSums).
use Rattle.std.proofs.Common.{◌≡◌, ℕ, ◌+◌, ◌≤◌, Bool, true, false, cond, List, []}
use Rattle.std.proofs.Common.{◌∷◌, ◌++◌, length, length-append, Option, Some, None, refl, sym, ap}
use Rattle.std.proofs.Common.{◌∙◌, subst, inl, inr, append_assoc, append-nil, arith}
use Rattle.std.specs.Prelude.{if◌then◌else◌}
use Rattle.std.specs.List.{count_by, flat_map, sum_by}
use Rattle.std.proofs.lemmas.Bool.{cases_Bool}
use Rattle.std.proofs.lemmas.Grind.{flat_map-append}
use Rattle.std.proofs.lemmas.List.{flat_map_more}
use Rattle.std.proofs.lemmas.List.Sums.{sum_by-append, sum_by-cons, sum_by_push}
use Rattle.flute_parts.specs.Equality.{session_itself, session_same}
use Rattle.flute_parts.specs.Order.{same_session}
use Rattle.flute_parts.specs.Session.{Session}
use Rattle.flute_streams.specs.Counting.{capped}
use Rattle.flute_streams.specs.declared.merge.sides.Row.{Row}
use Rattle.flute_streams.specs.declared.merge.sides.Side.{Side}
use Rattle.flute_streams.specs.declared.merge.sides.Side.TheVariants.{Same, Differ, First, Second}
use Rattle.flute_streams.specs.declared.merge.sides.Sides.{Sides}
use Rattle.flutejoin.specs.CompareLines.{compared, row_line}
use Rattle.flutejoin.specs.CompareSums.{information_of, is_in_none}
use Rattle.flutejoin.specs.CompareSums.{last_sums, no_sums, row_session}
use Rattle.flutejoin.specs.CompareSums.{session_line, sums_after, sums_before, sums_line, sums_of}
use Rattle.flutejoin.specs.CompareSums.{symbols_of, with_information, with_row}
use Rattle.flutejoin.specs.Parts.{parts_of}
use Rattle.flutejoin.specs.RowsTold.{AreFew, AreSummed, AreTheirs, weight}
use Rattle.flutejoin.specs.declared.compare.compare_sums.CompareSums.{CompareSums}
use Rattle.flutejoin.specs.declared.lines.compare_style.CompareStyle.{CompareStyle}
use Rattle.flutejoin.specs.declared.lines.form.Form.{Form}
use Rattle.flutejoin.proofs.compare_lemmas.Cuts.{apart_from, of_more, one_part}

-- ---- sums that are few enough

later : (before more : List Row) → AreFew (before ++ more) → AreFew more
later before more few = omega (arith, sum_by-append weight before more)

below : (f : Row → ℕ) → ((row : Row) → f row ≤ weight row) → (rows : List Row)
    → sum_by f rows ≤ sum_by weight rows
below f l [] = omega arith
below f l (row ∷ rows) =
    omega (arith, sum_by-cons f row rows, sum_by-cons weight row rows, l row, below f l rows)

below_length : (rows : List Row) → length rows ≤ sum_by weight rows
below_length [] = omega arith
below_length (row ∷ rows) = omega (arith, sum_by-cons weight row rows, below_length rows)

one_or_none : (b : Bool) (n : ℕ) → 1 ≤ n → cond b 1 0 ≤ n
one_or_none true n l = l
one_or_none false n l = omega arith

sides : (s t : Sides) → s.same ≡ t.same → s.differ ≡ t.differ → s.first ≡ t.first
    → s.second ≡ t.second → s ≡ t
sides s t a b c d = λ i. record { same = a i; differ = b i; first = c i; second = d i }

sums : (s t : CompareSums) → s.session ≡ t.session → s.objects ≡ t.objects
    → s.symbols ≡ t.symbols → s.information ≡ t.information → s.unknown ≡ t.unknown → s ≡ t
sums s t a b c d e = λ i.
    record { session = a i; objects = b i; symbols = c i; information = d i; unknown = e i }

-- ---- with one row more

module _ (rows : List Row) (row : Row) (few : AreFew (rows ++ row ∷ [])) where
  abbrev all : List Row
  all = rows ++ row ∷ []

  more_of : (f : Row → ℕ) → ((row : Row) → f row ≤ weight row)
      → capped (sum_by f rows + f row) ≡ sum_by f all
  more_of f l = omega (arith, sum_by_push f rows row, below f l all)

  more_rows : capped (length rows + 1) ≡ length all
  more_rows = omega (arith, length-append rows (row ∷ []), below_length all)

  count_on : (p : Option Side → Bool) (i : Option Side) → row.information ≡ i → p i ≡ true
      → capped (count_by (λ (r : Row). p r.information) rows + 1)
      ≡ count_by (λ (r : Row). p r.information) all
  count_on p i e is =
      let f : Row → ℕ = λ r. cond (p r.information) 1 0 in
      let one : f row ≡ 1 = cc in
      omega (arith, more_of f (λ r. one_or_none _ _ (omega arith)))

  count_off : (p : Option Side → Bool) (i : Option Side) → row.information ≡ i → p i ≡ false →
      count_by (λ (r : Row). p r.information) rows ≡ count_by (λ (r : Row). p r.information) all
  count_off p i e is =
      let f : Row → ℕ = λ r. cond (p r.information) 1 0 in
      let none : f row ≡ 0 = cc in
      omega (arith, sum_by_push f rows row)

  module _ (session : Session) where
    abbrev counted : CompareSums
    counted = record {
      session = session;
      objects = capped (length rows + 1);
      symbols = record {
        same = capped (sum_by (λ (r : Row). r.symbols.same) rows + row.symbols.same);
        differ = capped (sum_by (λ (r : Row). r.symbols.differ) rows + row.symbols.differ);
        first = capped (sum_by (λ (r : Row). r.symbols.first) rows + row.symbols.first);
        second = capped (sum_by (λ (r : Row). r.symbols.second) rows + row.symbols.second);
      };
      information = information_of rows;
      unknown = count_by (λ (r : Row). is_in_none r.information) rows;
    }

    symbols_more : counted.symbols ≡ symbols_of all
    symbols_more = sides _ _ (more_of _ (λ r. omega arith)) (more_of _ (λ r. omega arith))
        (more_of _ (λ r. omega arith)) (more_of _ (λ r. omega arith))

    with : (i : Option Side) → row.information ≡ i
        → with_information counted i ≡ sums_of session all
    with None e = sums _ _ refl more_rows symbols_more (sides _ _ (count_off _ _ e refl)
        (count_off _ _ e refl) (count_off _ _ e refl) (count_off _ _ e refl)) (count_on _ _ e refl)
    with (Some Same) e = sums _ _ refl more_rows symbols_more (sides _ _ (count_on _ _ e refl)
        (count_off _ _ e refl) (count_off _ _ e refl) (count_off _ _ e refl)) (count_off _ _ e refl)
    with (Some Differ) e = sums _ _ refl more_rows symbols_more (sides _ _ (count_off _ _ e refl)
        (count_on _ _ e refl) (count_off _ _ e refl) (count_off _ _ e refl)) (count_off _ _ e refl)
    with (Some First) e = sums _ _ refl more_rows symbols_more (sides _ _ (count_off _ _ e refl)
        (count_off _ _ e refl) (count_on _ _ e refl) (count_off _ _ e refl)) (count_off _ _ e refl)
    with (Some Second) e = sums _ _ refl more_rows symbols_more (sides _ _ (count_off _ _ e refl)
        (count_off _ _ e refl) (count_off _ _ e refl) (count_on _ _ e refl)) (count_off _ _ e refl)

    with_more : with_row (sums_of session rows) row ≡ sums_of session all
    with_more = with _ refl

-- ---- the sums of the last session

first_added : {form : Form} (row : Row) → AreFew (row ∷ [])
    → AreSummed form (row ∷ []) [] (with_row (no_sums (row_session row)) row)
unfolding parts_of
first_added row few = record {
  before = [];
  first = row;
  others = [];
  all = refl;
  same = tt;
  apart = λ more. refl;
  lines_are = refl;
  sums_are = with_more [] row few _;
}

same_added : {form : Form} (rows : List Row) (lines : List ℕ) (old : CompareSums) (row : Row)
    → AreFew (rows ++ row ∷ []) → AreSummed form rows lines old → old.session ≡ row_session row
    → AreSummed form (rows ++ row ∷ []) lines (with_row old row)
same_added rows _ _ row few h e =
    let mine = h.first ∷ h.others in
    let is = ap (λ l. l ++ row ∷ []) h.all ∙ append_assoc h.before mine (row ∷ []) in
    let few_mine = later h.before (mine ++ row ∷ []) (rw (← is) few) in
    record {
      before = h.before;
      first = h.first;
      others = h.others ++ row ∷ [];
      all = is;
      same = of_more _ _ _ _ h.same (cc);
      apart = h.apart;
      lines_are = h.lines_are;
      sums_are = cc (with_more mine row few_mine _);
    }

-- the lines of all sessions
pub all_summed : {form : Form} (rows : List Row) (lines : List ℕ) (old : CompareSums) → AreSummed form rows lines old
    → lines ++ sums_line form old ≡ flat_map (session_line form) (parts_of row_session rows)
unfolding parts_of
all_summed {form} _ _ old h =
    let mine = parts_of row_session (h.first ∷ h.others) in
    let last = ap (flat_map (session_line form)) (one_part _ h.first _ h.same) ∙ append-nil
    (session_line form (h.first, h.others)) ∙ ap (sums_line form) (cc) in ap
    (λ l. l ++ sums_line form old) h.lines_are ∙ ap
    (λ l. flat_map (session_line form) (parts_of row_session h.before) ++ l) (sym last) ∙ sym
    (flat_map-append (session_line form) (parts_of row_session h.before) mine) ∙ ap
    (flat_map (session_line form)) (sym (h.apart h.others)) ∙ ap
    (λ l. flat_map (session_line form) (parts_of row_session l)) (sym h.all)

next_added : {form : Form} (rows : List Row) (lines : List ℕ) (old : CompareSums) (row : Row)
    → AreFew (rows ++ row ∷ []) → AreSummed form rows lines old → (old.session ≡ row_session row → ⊥)
    → AreSummed form (rows ++ row ∷ []) (lines ++ sums_line form old)
    (with_row (no_sums (row_session row)) row)
next_added rows lines old row few h apart = record {
  before = rows;
  first = row;
  others = [];
  all = refl;
  same = tt;
  apart = λ more. rw h.all (apart_from _ _ _ _ _ _ h.same
      (λ e. apart (ap (λ (s : CompareSums). s.session) h.sums_are ∙ sym e)));
  lines_are = all_summed _ _ _ h;
  sums_are = with_more [] row (later rows (row ∷ []) few) _;
}

-- ---- one row more

added : (form : Form) (rows : List Row) (lines : List ℕ) (old : Option CompareSums) (row : Row)
    → AreFew (rows ++ row ∷ []) → AreTheirs form true rows lines old
    → AreTheirs form true (rows ++ row ∷ []) (lines ++ sums_before form old (row_session row))
    (Some (with_row (sums_after old (row_session row)) row))
added form rows lines None row few h =
    rw h.0 (subst (λ l. AreSummed form (row ∷ []) (l ++ []) (with_row (no_sums (row_session row)) row))
    (sym h.1) (first_added _ (later rows (row ∷ []) few)))
added form rows lines (Some old) row few h =
    elim (cases_Bool _) [
      | inl t ↦ subst (λ b. AreSummed form (rows ++ row ∷ [])
          (lines ++ (if b then [] else sums_line form old))
          (with_row (if b then old else no_sums (row_session row)) row)) (sym t)
          (subst (λ l. AreSummed form (rows ++ row ∷ []) l (with_row old row))
          (sym (append-nil lines))
          (same_added _ _ _ _ few h (session_same old.session (row_session row) t)))
      | inr n ↦ rw n (next_added _ _ _ _ few h (apart _ _ n))
    ]
  where
    apart : (s t : Session) → same_session s t ≡ false → s ≡ t → ⊥
    apart s t n e = cc_false (sym (subst (λ u. same_session s u ≡ true) e (session_itself s)) ∙ n)
      where
        cc_false : true ≡ false → ⊥
        cc_false e = cc

-- the lines with one row more, as a style has them
pub added_to : (form : Form) (summary : Bool) (rows : List Row) (lines : List ℕ) (old : Option CompareSums)
    (row : Row) → AreFew (rows ++ row ∷ []) → AreTheirs form summary rows lines old
    → AreTheirs form summary (rows ++ row ∷ [])
    (lines ++ (if summary then sums_before form old (row_session row) else row_line form row))
    (if summary then Some (with_row (sums_after old (row_session row)) row) else old)
added_to form true rows lines old row few h = added _ _ _ _ _ few h
added_to form false rows _ _ row _ h = (cc (flat_map_more (row_line form) [] rows row), h.1)

-- all lines
pub all_put : (style : CompareStyle) (rows : List Row) (lines : List ℕ) (old : Option CompareSums)
    → AreTheirs style.form style.summary rows lines old → lines ++ last_sums style.form old ≡ compared style rows
unfolding compared parts_of
all_put style rows lines old h = by _ _ h
  where
    by : (b : Bool) (old : Option CompareSums) → AreTheirs style.form b rows lines old
        → lines ++ last_sums style.form old
        ≡ (if b then flat_map (session_line style.form) (parts_of row_session rows) else flat_map (row_line style.form) rows)
    by true None h = ap (λ l. l ++ []) h.1
        ∙ ap (λ l. flat_map (session_line style.form) (parts_of row_session l)) (sym h.0)
    by true (Some s) h = all_summed _ _ s h
    by false _ h = ap (λ o. lines ++ last_sums style.form o) h.1 ∙ append-nil lines ∙ h.0
