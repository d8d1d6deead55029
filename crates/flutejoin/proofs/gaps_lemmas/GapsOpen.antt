-- GapLines: the lines of the gaps of the open object, or of their ranges (specs/GapLines).
use Rattle.std.proofs.Common.{◌≡◌, ◌∙◌, ℕ, Bool, true, false, List, [], ◌∷◌, ◌++◌, Option, Some, None}
use Rattle.std.proofs.Common.{Result, Ok, Err, append-nil, ap, if◌then◌else◌, refl, sym, subst}
use Rattle.std.proofs.lemmas.List.{flat_map_more}
use Rattle.std.proofs.lemmas.List.Elements.{filter-append}
use Rattle.std.specs.Prelude.{IfSome, OnOk}
use Rattle.std.specs.Io.KnownBytes.{Appends}
use Rattle.flute_parts.specs.Devices.{Writes}
use Rattle.flute_parts.specs.Information.{Information}
use Rattle.flute_parts.specs.declared.device.DeviceFault.{DeviceFault}
use Rattle.flute_store.specs.declared.gap.Gap.{Gap}
use Rattle.flutejoin.specs.GapLines.{AreOpen, HasLines}
use Rattle.flutejoin.specs.Listing.{AreClosed, Knows}
use Rattle.flutejoin.specs.Progress.{EndsAs, Progress, gaps_so_far, info_so_far}
use Rattle.flutejoin.specs.Ranges.{ended_line, gap_range, last_range, range_lines}
use Rattle.flutejoin.specs.Styles.{gap_line_in, gap_lines, is_shown, shown}
use Rattle.flutejoin.specs.Told.{Told}
use Rattle.flutejoin.specs.declared.gaps.gap_lines.GapLines.{GapLines}
use Rattle.flutejoin.specs.declared.gaps.open_ranges.OpenRanges.{OpenRanges}
use Rattle.flutejoin.specs.declared.lines.form.Form.{Form}
use Rattle.flutejoin.specs.declared.lines.style.Style.{Style}
use Rattle.flutejoin.proofs.gaps_lemmas.LongestRanges.{ranges_ended, ranges_more, ranges_none}
use Rattle.flutejoin.proofs.gaps_lemmas.MovedAside.{knows_more}

module _ (form : Form) (gaps : List Gap) (lines : List ℕ) (r : OpenRanges) {info : Information}
    (new : OpenRanges) (style : Style) where
  begun_open : (b : Bool) → AreOpen form None b gaps lines r → new.info ≡ Some info
      → new.last ≡ r.last → AreOpen form (Some info) b (shown style []) lines new
  begun_open true h is same = rw h.0 (ranges_none _ is (same ∙ h.1))
  begun_open false h is same = (h.0, same ∙ h.1)

shown_more : (style : Style) (given : List Gap) (g : Gap) → is_shown style g.reason ≡ true
    → shown style (given ++ g ∷ []) ≡ shown style given ++ g ∷ []
shown_more style given g on = filter-append (λ (x : Gap). is_shown style x.reason) given (g ∷ []) ∙
    ap (λ b. shown style given ++ (if b then g ∷ [] else [])) on

module _ (form : Form) (info : Information) (gaps : List Gap) where
  lined : (b : Bool) (lines : List ℕ) (r : OpenRanges) (g : Gap) → b ≡ false
      → AreOpen form (Some info) b gaps lines r
      → AreOpen form (Some info) b (gaps ++ g ∷ []) (lines ++ gap_line_in form g) r
  lined true lines r g e h = absurd cc
  lined false _ r g e h = (cc (flat_map_more (gap_line_in form) [] gaps g), h.1)

-- its one information is remembered
known_open : (form : Form) (b : Bool) (info : Information) (gaps : List Gap) (lines : List ℕ) (r : OpenRanges)
    → b ≡ true → AreOpen form (Some info) b gaps lines r → r.info ≡ Some info
known_open _ true _ _ _ r e h = h.info_is
known_open form false info gaps lines r e h = absurd cc

module _ (form : Form) (info : Information) (gaps : List Gap) (lines : List ℕ) where
  ranged : (b : Bool) (r : OpenRanges) (g : Gap) (new : OpenRanges) → b ≡ true → AreOpen form
      (Some info) b gaps lines r → new.info ≡ r.info → new.last ≡ last_range r.last
      (gap_range info g) → AreOpen form (Some info) b (gaps ++ g ∷ [])
      (lines ++ ended_line form r.last (gap_range info g)) new
  ranged true r g new e h same last = ranges_more g _ h same last
  ranged false r g new e h same last = absurd cc

-- what changed is of the open object alone
pub record KeepsClosed {A : Type 0} (old new : GapLines A) : Type 0 where
  pub style : new.style ≡ old.style
  pub closed : new.closed ≡ old.closed
  pub lines : new.lines.now ≡ old.lines.now

module _ {A : Type 0} {written : A → Option (List ℕ)} {known : Bool} {objects : List Told} where
  reopened : {info : Option Information} {given : List Gap} {old : GapLines A}
      (info' : Option Information) (given' : List Gap) (new : GapLines A) (gaps : List ℕ) → HasLines
      written known objects info given old → KeepsClosed old new → AreOpen new.style.form info'
      new.style.ranges (shown new.style given') gaps new.ranges → Knows known
      (written new.gap_lines.now) gaps → HasLines written known objects info' given' new
  reopened {old} _ _ new gaps h k opened knows = record {
    lines = h.lines;
    closed_are = rw k.style (subst (λ c. AreClosed old.style objects h.lines c) (sym k.closed)
        h.closed_are);
    few = rw k.closed h.few;
    lines_known = rw k.lines h.lines_known;
    gaps = gaps;
    gaps_are = opened;
    gaps_known = knows;
  }

  -- an object began
  pub object_begun : {given : List Gap} {old : GapLines A} (info : Information) (new : GapLines A) →
      HasLines written known objects None given old → KeepsClosed old new → new.ranges.info ≡ Some
      info → new.ranges.last ≡ old.ranges.last → new.gap_lines.now ≡ old.gap_lines.now → HasLines
      written known objects (Some info) [] new
  object_begun {given} {old} info new h k is same aside = reopened _ [] _ _ h k (subst
      (λ s. AreOpen s.form (Some info) s.ranges (shown s []) h.gaps new.ranges) (sym k.style)
      (begun_open _ (shown old.style given) _ old.ranges _ old.style _ h.gaps_are is same))
      (rw aside h.gaps_known)

  -- a gap that is not shown
  pub gap_passed : {info : Option Information} {given : List Gap} {v : GapLines A} (g : Gap)
      → HasLines written known objects info given v → is_shown v.style g.reason ≡ false
      → HasLines written known objects info (given ++ g ∷ []) v
  gap_passed {info} {given} {v} g h off =
      let p = λ (x : Gap). is_shown v.style x.reason in
      let same = filter-append p _ _ ∙ ap (λ b. shown v.style given ++ (if b then g ∷ [] else []))
      off ∙ append-nil (shown v.style given) in reopened _ _ v _ h
      (record { style = refl; closed = refl; lines = refl }) (rw (← same) at h.gaps_are)
      h.gaps_known

  -- one with a line of its own
  module _ {info : Information} {given : List Gap} {old : GapLines A} (g : Gap) where
    pub gap_lined : (new : GapLines A) (r : Result (Unit {0}) DeviceFault)
        → HasLines written known objects (Some info) given old → KeepsClosed old new
        → new.ranges ≡ old.ranges → is_shown old.style g.reason ≡ true → old.style.ranges ≡ false
        → Writes (written old.gap_lines.now) (written new.gap_lines.now) (gap_line_in old.style.form g) r
        → OnOk r (HasLines written known objects (Some info) (given ++ g ∷ []) new)
    gap_lined _ (Err x) h k _ on _ _ = tt
    gap_lined new (Ok x) h k same on off line =
        let gaps = h.gaps ++ gap_line_in old.style.form g in
        let opened = rw (← (shown_more old.style _ g on)) at (lined _ _ _ _ _ _ g off h.gaps_are) in
        reopened _ _ _ _ h k (rw k.style (subst (λ o. AreOpen old.style.form (Some info)
        old.style.ranges (shown old.style (given ++ g ∷ [])) gaps o) (sym same) opened))
        (knows_more _ h.gaps_known line)

  -- one of which the range may go on
  module _ {info : Information} {given : List Gap} {old : GapLines A} (g : Gap) (new : GapLines A) where
    pub gap_ranged : (r : Result (Unit {0}) DeviceFault) → HasLines written known objects
        (Some info) given old → KeepsClosed old new → is_shown old.style g.reason ≡ true →
        old.style.ranges ≡ true → new.ranges.info ≡ old.ranges.info → OnOk r (IfSome old.ranges.info
        (λ (i : Information). new.ranges.last ≡ last_range old.ranges.last (gap_range i g))) → OnOk
        r (IfSome old.ranges.info (λ (i : Information). Appends (written old.gap_lines.now)
        (written new.gap_lines.now) (ended_line old.style.form old.ranges.last (gap_range i g)))) →
        OnOk r (HasLines written known objects (Some info) (given ++ g ∷ []) new)
    gap_ranged (Err x) h k on is _ _ _ = tt
    gap_ranged (Ok x) h k on is same last line =
        let i = known_open _ _ _ _ _ _ is h.gaps_are in
        let last' = rw i at last in
        let more = ended_line old.style.form old.ranges.last (gap_range info g) in
        let line' = rw i at line in
        let gaps = h.gaps ++ more in
        let opened = rw (← (shown_more old.style _ g on)) at
        (ranged _ _ _ _ _ _ g _ is h.gaps_are same last') in reopened _ _ _ _ h k
        (rw k.style opened) (knows_more _ h.gaps_known line')

-- ---- the end of an object

all_lines : (progress : Option Progress) (b : Bool) (style : Style) (lines : List ℕ)
    (r : OpenRanges) → style.ranges ≡ b → AreOpen style.form (info_so_far progress) b
    (shown style (gaps_so_far progress)) lines r → lines ++ range_lines style.form r.last ≡
    gap_lines style (info_so_far progress) (gaps_so_far progress)
all_lines None true style lines r is h = rw (is, h.0, h.1) refl
all_lines None false style lines r is h = rw (is, h.0, h.1) refl
all_lines (Some p) true style lines r is h = rw is (ranges_ended h)
all_lines (Some p) false style lines r is h = rw (is, h.1) (append-nil lines ∙ h.0)

-- the line of the last range was put aside too
pub gaps_ended : {A : Type 0} {written : A → Option (List ℕ)} {known : Bool} {objects : List Told}
    {progress : Option Progress} {v : GapLines A} (t : Told) (s : Option (List ℕ)) → HasLines
    written known objects (info_so_far progress) (gaps_so_far progress) v → EndsAs t progress →
    Appends (written v.gap_lines.now) s (range_lines v.style.form v.ranges.last) → Knows known s
    (gap_lines v.style t.info t.gaps)
gaps_ended {known} {progress} {v} t s h e line =
    let lines = range_lines v.style.form v.ranges.last in
    let info = info_so_far progress in
    let one = rw (all_lines _ _ v.style _ _ refl h.gaps_are) at (knows_more _ h.gaps_known line) in
    let two = rw (← e.info) at one in
    rw e.gaps two
