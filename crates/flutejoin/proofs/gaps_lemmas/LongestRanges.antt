-- Byte ranges as gaps come: the last of them may go on (specs/Ranges).
use Rattle.std.proofs.Common.{◌≡◌, ◌∙◌, ℕ, Bool, true, false, List, [], ◌∷◌, ◌++◌, Option, Some, None}
use Rattle.std.proofs.Common.{append-nil, append_assoc, ap, refl, sym}
use Rattle.std.proofs.lemmas.List.{flat_map_more}
use Rattle.std.specs.Prelude.{◌==◌, filter_map, if◌then◌else◌}
use Rattle.std.specs.List.{flat_map}
use Rattle.std.proofs.lemmas.Grind.{flat_map-append}
use Rattle.std.proofs.lemmas.List.Elements.{filter_map-append}
use Rattle.flute_parts.specs.Information.{Information}
use Rattle.flute_store.specs.declared.gap.Gap.{Gap}
use Rattle.flutejoin.specs.GapLines.{HasRanges}
use Rattle.flutejoin.specs.Ranges.{ended_line, gap_range, last_range, longest, one_range}
use Rattle.flutejoin.specs.Ranges.{range_before, range_line, range_lines, ranges}
use Rattle.flutejoin.specs.declared.gaps.byte_range.ByteRange.{ByteRange}
use Rattle.flutejoin.specs.declared.gaps.open_ranges.OpenRanges.{OpenRanges}
use Rattle.flutejoin.specs.declared.lines.form.Form.{Form}

-- ranges with one more at their end
with_last : List ByteRange → ByteRange → List ByteRange
with_last [] r = r ∷ []
with_last (x ∷ []) r = if x.end == r.first then record r { first = x.first } ∷ [] else (x ∷ r ∷ [])
with_last (x ∷ y ∷ others) r = x ∷ with_last (y ∷ others) r

first_then_last : (x : ByteRange) (ys : List ByteRange) (r : ByteRange)
    → range_before x (with_last ys r) ≡ with_last (range_before x ys) r
unfolding with_last
first_then_last x [] r = refl
first_then_last x (y ∷ []) r = go _ _ refl refl
  where
    go : (b c : Bool) → (y.end == r.first) ≡ b → (x.end == y.first) ≡ c
        → range_before x (with_last (y ∷ []) r) ≡ with_last (range_before x (y ∷ [])) r
    go true true d e = rw (d, e, d) refl
    go true false d e = rw (d, e, d) refl
    go false true d e = rw (d, e, d) refl
    go false false d e = rw (d, e, d) refl
first_then_last x (y ∷ z ∷ others) r = go _ refl
  where
    go : (c : Bool) → (x.end == y.first) ≡ c
        → range_before x (with_last (y ∷ z ∷ others) r)
        ≡ with_last (range_before x (y ∷ z ∷ others)) r
    go true e = rw e refl
    go false e = rw e refl

longest_last : (rs : List ByteRange) (r : ByteRange)
    → longest (rs ++ r ∷ []) ≡ with_last (longest rs) r
unfolding longest with_last
longest_last [] r = refl
longest_last (x ∷ rs) r = ap (range_before x) (longest_last rs r) ∙ first_then_last x _ r

last_of : (ended : List ByteRange) (x r : ByteRange)
    → with_last (ended ++ x ∷ []) r ≡ ended ++ with_last (x ∷ []) r
unfolding with_last
last_of [] x r = refl
last_of (y ∷ []) x r = refl
last_of (y ∷ z ∷ ended) x r = ap (λ l. y ∷ l) (last_of (z ∷ ended) x r)

-- the lines of all of these ranges but the last
record AreEnded (form : Form) (rs : List ByteRange) (lines : List ℕ) (last : Option ByteRange) : Type 0 where
  pub ended : List ByteRange
  pub longest_are : longest rs ≡ ended ++ one_range last
  pub some : last ≡ None → ended ≡ []
  pub lines_are : lines ≡ flat_map (range_line form) ended

first_ended : {form : Form} {rs : List ByteRange} {lines : List ℕ} (r : ByteRange)
    → AreEnded form rs lines None → AreEnded form (rs ++ r ∷ []) (lines ++ []) (Some r)
unfolding with_last
first_ended {form} {rs} {lines} r h =
    let none = h.some refl in
    let rs_none = h.longest_are ∙ append-nil h.ended ∙ none in
    record { ended = []; longest_are = cc (longest_last _ r); some = λ e. refl; lines_are = cc }

next_ended : {form : Form} {rs : List ByteRange} {lines : List ℕ} (x r : ByteRange) (b : Bool)
    → (x.end == r.first) ≡ b → AreEnded form rs lines (Some x)
    → AreEnded form (rs ++ r ∷ []) (lines ++ (if b then [] else range_line form x))
    (Some (if b then record r { first = x.first } else r))
unfolding with_last
next_ended {form} {rs} {lines} x r true e h =
    let one : with_last (x ∷ []) r ≡ record r { first = x.first } ∷ [] = rw e refl in
    record {
      ended = h.ended;
      longest_are = longest_last _ r ∙ ap (λ l. with_last l r) h.longest_are
          ∙ last_of _ x r ∙ ap (λ l. h.ended ++ l) one;
      some = λ n. absurd cc;
      lines_are = append-nil lines ∙ h.lines_are;
    }
next_ended {form} {rs} {lines} x r false e h =
    let two : with_last (x ∷ []) r ≡ x ∷ r ∷ [] = rw e refl in
    record {
      ended = h.ended ++ x ∷ [];
      longest_are = longest_last _ r ∙ ap (λ l. with_last l r) h.longest_are ∙ last_of _ x r ∙ ap
          (λ l. h.ended ++ l) two ∙ sym (append_assoc h.ended (x ∷ []) (r ∷ []));
      some = λ n. absurd cc;
      lines_are = ap (λ l. l ++ range_line form x) h.lines_are ∙ flat_map_more (range_line form) []
          h.ended x;
    }

more_ended : {form : Form} {rs : List ByteRange} {lines : List ℕ} (last next : Option ByteRange)
    → AreEnded form rs lines last → AreEnded form (rs ++ one_range next)
    (lines ++ ended_line form last next) (last_range last next)
more_ended {rs} {lines} _ None h = record {
  ended = h.ended;
  longest_are = cc (append-nil rs);
  some = h.some;
  lines_are = cc (append-nil lines);
}
more_ended None (Some r) h = first_ended r h
more_ended (Some x) (Some r) h = next_ended x r _ refl h

one_filtered : (info : Information) (g : Gap) (o : Option ByteRange) → gap_range info g ≡ o
    → filter_map (gap_range info) (g ∷ []) ≡ one_range o
one_filtered info g None e = rw e refl
one_filtered info g (Some r) e = rw e refl

-- one gap more
pub ranges_more : {form : Form} {info : Information} {gaps : List Gap} {lines : List ℕ} {r : OpenRanges}
    (g : Gap) (new : OpenRanges) → HasRanges form info gaps lines r → new.info ≡ r.info
    → new.last ≡ last_range r.last (gap_range info g)
    → HasRanges form info (gaps ++ g ∷ []) (lines ++ ended_line form r.last (gap_range info g)) new
ranges_more {form} {info} {gaps} {lines} {r} g _ h same last =
    let next = gap_range info g in
    let e : AreEnded form (filter_map (gap_range info) gaps) lines r.last = record {
      ended = h.ended;
      longest_are = h.ranges_are;
      some = h.some;
      lines_are = h.lines_are;
    } in
    let m = more_ended _ _ e in
    let all = filter_map-append (gap_range info) gaps (g ∷ []) ∙ ap
    (λ l. filter_map (gap_range info) gaps ++ l) (one_filtered _ g _ refl) in record {
      info_is = cc;
      ended = m.ended;
      ranges_are = cc;
      some = λ none. m.some (cc);
      lines_are = m.lines_are;
    }

-- no gap yet
pub ranges_none : {form : Form} {info : Information} (r : OpenRanges) → r.info ≡ Some info → r.last ≡ None
    → HasRanges form info [] [] r
unfolding longest
ranges_none r is none = record {
  info_is = is;
  ended = [];
  ranges_are = cc;
  some = λ e. refl;
  lines_are = refl;
}

-- all gaps came: the line of the last range follows
pub ranges_ended : {form : Form} {info : Information} {gaps : List Gap} {lines : List ℕ} {r : OpenRanges}
    → HasRanges form info gaps lines r
    → lines ++ range_lines form r.last ≡ flat_map (range_line form) (ranges info gaps)
ranges_ended {form} {r} h = ap (λ l. l ++ range_lines form r.last) h.lines_are ∙ sym
    (flat_map-append (range_line form) h.ended (one_range r.last)) ∙ ap (flat_map (range_line form))
    (cc)
