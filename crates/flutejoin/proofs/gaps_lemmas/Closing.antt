-- ClosedObjects: objects closed one after another, listed as a style says (specs/Listing).
use Rattle.std.proofs.Common.{rules}
use Rattle.std.proofs.Common.{◌≡◌, ℕ, Bool, true, false, ◌&&◌, List, [], ◌∷◌, ◌++◌, Option}
use Rattle.std.proofs.Common.{Some, None, append-nil, Result, Ok, Err, if◌then◌else◌, refl, sym, ap, ◌∙◌, subst}
use Rattle.std.proofs.Common.{arith}
use Rattle.std.proofs.Common.{append_assoc, length}
use Rattle.std.specs.Prelude.{OnOk, filter, not}
use Rattle.std.specs.List.{flat_map, AllByRecursion}
use Rattle.std.proofs.Math.Bool.{and-true}
use Rattle.std.proofs.lemmas.List.{flat_map_more}
use Rattle.std.proofs.lemmas.List.Elements.{filter-append}
use Rattle.std.proofs.lemmas.List.Folds.{list_all-append}
use Rattle.flute_parts.specs.Devices.{Writes}
use Rattle.flute_parts.specs.declared.device.DeviceFault.{DeviceFault}
use Rattle.flute_parts.specs.Information.{Information}
use Rattle.flute_parts.specs.declared.key.Key.{Key}
use Rattle.flute_parts.specs.declared.symbol_id.SymbolId.{SymbolId}
use Rattle.flute_parts.specs.declared.fact.Fact.{Fact}
use Rattle.flute_store.specs.declared.gap.Gap.{Gap}
use Rattle.flute_store.specs.declared.gap.Reason.{Reason}
use Rattle.flute_store.specs.declared.gap.Reason.TheVariants.{Conflicting}
use Rattle.flute_store.specs.declared.status.Status.{Status}
use Rattle.flute_store.specs.Objects.{before, one, runs, same_reason}
use Rattle.flute_store.specs.Status.{how_many}
use Rattle.flutejoin.specs.Listing.{AreClosed, ArePut, AreSummed, AreSummedUp, AreTheirs, Knows}
use Rattle.flutejoin.specs.Listing.{last_line}
use Rattle.flutejoin.specs.Objects.{status_wanting}
use Rattle.flutejoin.specs.Ranges.{longest, range_line}
use Rattle.flutejoin.specs.Styles.{are_whole, gap_line_in, gap_lines, is_right, is_shown, is_told, is_whole, listed_by}
use Rattle.flutejoin.specs.Styles.{HasNoStray, has_conflict, object_line, printed, ranges_of, shown}
use Rattle.flutejoin.specs.Styles.{told_lines}
use Rattle.flutejoin.specs.Told.{Told, told_of}
use Rattle.flutejoin.specs.declared.gaps.closed_objects.ClosedObjects.{ClosedObjects}
use Rattle.flutejoin.specs.declared.gaps.session_sums.SessionSums.{SessionSums}
use Rattle.flutejoin.specs.declared.lines.form.Form.{Form}
use Rattle.flutejoin.specs.declared.lines.style.Style.{Style}
use Rattle.flutejoin.proofs.gaps_lemmas.MovedAside.{knows_more}
use Rattle.flutejoin.proofs.gaps_lemmas.Sessions.{all_summed}

module _ (style : Style) (objects : List Told) (t : Told) where
  one_told : is_told style t.status t.conflicts ≡ true → listed_by style (t ∷ []) ≡ t ∷ []
  one_told e = search rules

  none_told : is_told style t.status t.conflicts ≡ false → listed_by style (t ∷ []) ≡ []
  none_told e = search rules

  told_apart : listed_by style (objects ++ t ∷ [])
      ≡ listed_by style objects ++ listed_by style (t ∷ [])
  told_apart = search (rules, filter-append)

  pub told_more : is_told style t.status t.conflicts ≡ true
      → listed_by style (objects ++ t ∷ []) ≡ listed_by style objects ++ t ∷ []
  told_more e = search (rules, told_apart, one_told)

  pub told_same : is_told style t.status t.conflicts ≡ false
      → listed_by style (objects ++ t ∷ []) ≡ listed_by style objects
  told_same e = search (rules, told_apart, none_told)

whole_more : (style : Style) (objects : List Told) (t : Told) (old whole : Bool)
    → is_told style t.status t.conflicts ≡ true → old ≡ are_whole style objects → whole ≡ is_right style t.status
    → (old && whole) ≡ are_whole style (objects ++ t ∷ [])
whole_more style objects t old whole e o w = search
    (rules, is_whole, and-true, list_all-append, told_more)

-- with a line for each session no gap has one
none_shown : (style : Style) (gaps : List Gap) → style.summary ≡ true → shown style gaps ≡ []
none_shown _ [] e = refl
none_shown style (gap ∷ gaps) e =
    let off : is_shown style gap.reason ≡ false = search rules in
    ap (λ b. if b then gap ∷ shown style gaps else shown style gaps) off ∙ none_shown style gaps e

-- and where no gap is shown, no range is
unshown : (style : Style) (info : Option Information) (gaps : List Gap) → shown style gaps ≡ []
    → gap_lines style info gaps ≡ []
unfolding longest
unshown style info _ e =
    ap (λ gs. if style.ranges then flat_map (range_line style.form) (ranges_of info gs)
    else flat_map (gap_line_in style.form) gs) e ∙ none _ _ _
  where
    none : (form : Form) (info : Option Information) (b : Bool)
        → (if b then flat_map (range_line form) (ranges_of info [])
        else flat_map (gap_line_in form) []) ≡ []
    none _ None true = refl
    none _ (Some info) true = refl
    none _ _ false = refl

none_summed : (style : Style) (info : Option Information) (gaps : List Gap)
    → style.summary ≡ true → gap_lines style info gaps ≡ []
none_summed style info gaps e = unshown style info gaps (none_shown style gaps e)

-- an object that is not listed
pub told_nothing : {known : Bool} {style : Style} {objects : List Told} {lines : List ℕ} (t : Told)
    {closed : ClosedObjects} {s : Option (List ℕ)} → is_told style t.status t.conflicts ≡ false
    → HasNoStray style t → AreClosed style objects lines closed → Knows known s lines
    → ArePut known style (objects ++ t ∷ []) (gap_lines style t.info t.gaps) s closed
told_nothing {known} {style} {objects} {lines} t {closed} {s} e stray h k =
    let same = told_same style objects t e in
    let off : gap_lines style t.info t.gaps ≡ [] = stray e in
    let none : lines ≡ lines ++ gap_lines style t.info t.gaps = cc (append-nil lines) in
    record { lines = lines; lines_known = k; are_closed = search rules }

-- what the sums were of
pub are_summed : {style : Style} {objects : List Told} {lines : List ℕ} {closed : ClosedObjects}
    → style.summary ≡ true → AreClosed style objects lines closed
    → AreSummed style.form (listed_by style objects) lines closed.sums
are_summed {style} {objects} {lines} {closed} e h = search rules

-- the object is listed, and is whole or is not
pub record IsListed (style : Style) (t : Told) (whole : Bool) : Type 0 where
  pub told : is_told style t.status t.conflicts ≡ true
  pub whole_is : whole ≡ is_right style t.status

-- an object that is listed, with its session
pub told_summed : (known : Bool) {style : Style} {objects : List Told} {lines : List ℕ} {t : Told}
    {closed : ClosedObjects} {whole : Bool} (sums : Option SessionSums) (s : Option (List ℕ))
    (r : Result (Unit {0}) DeviceFault) → style.summary ≡ true → IsListed style t whole
    → AreClosed style objects lines closed
    → OnOk r (AreSummedUp known style.form (listed_by style objects ++ t ∷ []) s sums)
    → OnOk r (ArePut known style (objects ++ t ∷ []) (gap_lines style t.info t.gaps) s
    (record { all_whole = closed.all_whole && whole; sums = sums }))
told_summed _ _ s (Err x) y is h m = tt
told_summed known {style} {objects} {lines} {t} {closed} {whole} sums s (Ok x) y is h m = search
    (rules, told_more, none_summed, whole_more)

-- or with a line of its own
pub told_lined : {known : Bool} {style : Style} {objects : List Told} {lines : List ℕ} {t : Told}
    {closed : ClosedObjects} {whole : Bool} {s : Option (List ℕ)} (s' : Option (List ℕ))
    (r : Result (Unit {0}) DeviceFault) → style.summary ≡ false → IsListed style t whole → AreClosed
    style objects lines closed → Knows known s lines → Writes s s' (object_line style t.key t.status t.conflicts) r →
    OnOk r (ArePut known style (objects ++ t ∷ []) (gap_lines style t.info t.gaps) s'
    (record { all_whole = closed.all_whole && whole; sums = closed.sums }))
unfolding told_lines
told_lined s' (Err x) n is h k a = tt
told_lined {style} {objects} {lines} {t} {closed} {whole} s' (Ok x) n is h k a =
    let gaps = gap_lines style t.info t.gaps in
    let line = object_line style t.key t.status t.conflicts in
    let old = subst (λ b. AreTheirs style b (listed_by style objects) lines closed.sums) n h.theirs
    in
    let all = append_assoc lines line gaps ∙ ap (λ l. l ++ (line ++ gaps)) old.0 ∙ flat_map_more
    (told_lines style) [] (listed_by style objects) t ∙ ap (flat_map (told_lines style))
    (sym (told_more style _ t is.told)) in record {
      lines = lines ++ line;
      lines_known = knows_more _ k a;
      are_closed = record {
        all_whole = whole_more style _ t _ _ is.told h.all_whole is.whole_is;
        theirs = subst (λ b. AreTheirs style b (listed_by style (objects ++ t ∷ []))
            ((lines ++ line) ++ gaps) closed.sums) (sym n) (all, old.1);
      };
    }

-- ---- an object without a conflict has no gap in conflict

abbrev AreQuiet : List Gap → Type 0
AreQuiet gaps = AllByRecursion (λ (g : Gap). same_reason Conflicting g.reason ≡ false) gaps

quiet_before : (g : Gap) (gaps : List Gap) → same_reason Conflicting g.reason ≡ false
    → AreQuiet gaps → AreQuiet (before g gaps)
quiet_before = search rules

quiet_runs : (ws : List (SymbolId × Reason)) → how_many Conflicting ws ≡ 0 → AreQuiet (runs ws)
unfolding how_many runs
quiet_runs [] e = tt
quiet_runs (w ∷ ws) e =
    let p : SymbolId × Reason → Bool = λ v. same_reason Conflicting v.1 in
    let rest = filter p ws in
    let P : Bool → Type 0 = λ b. p w ≡ b → length (if b then w ∷ rest else rest) ≡ 0 → AreQuiet
    (before (one w) (runs ws)) in
    let cases : (b : Bool) → P b = λ b. elim b as P [
      | true ↦ λ is none. absurd (omega arith)
      | false ↦ λ is none. quiet_before _ _ is (quiet_runs ws none)
    ] in cases (p w) refl e

none_quiet : (style : Style) (gaps : List Gap) → style.conflicts ≡ true → AreQuiet gaps
    → shown style gaps ≡ []
none_quiet _ [] e a = refl
none_quiet style (gap ∷ gaps) e a =
    let first : is_shown style gap.reason ≡ (not style.summary && false) = search rules in
    let off : (b : Bool) → (b && false) ≡ false = search rules in
    ap (λ b. if b then gap ∷ shown style gaps else shown style gaps)
    (first ∙ off (not style.summary)) ∙ none_quiet style gaps e a.1

no_conflict : (style : Style) (status : Status) (n : ℕ) → is_told style status n ≡ false
    → (style.conflicts ≡ true) × (has_conflict status ≡ false)
no_conflict style status n e = search rules

quiet_wanting : (info : Information) (ws : List (SymbolId × Reason))
    → has_conflict (status_wanting info ws) ≡ false → how_many Conflicting ws ≡ 0
unfolding how_many
quiet_wanting = search rules

none_shown_of : (style : Style) (F : List Fact) (key : Key) → is_told style (told_of F key).status
    (told_of F key).conflicts ≡ false → shown style (told_of F key).gaps ≡ []
none_shown_of style F key e = search
    (rules, no_conflict, none_quiet, runs, quiet_runs, quiet_wanting)

-- an object that `--conflicts` doesn't list has no gap in conflict, so none is printed
pub no_stray : (style : Style) (F : List Fact) (key : Key) → HasNoStray style (told_of F key)
no_stray style F key e =
    unshown style (told_of F key).info (told_of F key).gaps (none_shown_of style F _ e)

-- all that is printed
pub all_printed : (style : Style) (objects : List Told) (lines : List ℕ) (closed : ClosedObjects)
    → AreClosed style objects lines closed → lines ++ last_line style.form closed.sums ≡ printed style objects
unfolding printed
all_printed style objects lines closed h = search (rules, all_summed)

-- no object
pub none_closed : (style : Style) (closed : ClosedObjects) (lines : List ℕ)
    → closed.all_whole ≡ true → closed.sums ≡ None → lines ≡ [] → AreClosed style [] lines closed
none_closed style closed lines w n e = search rules
