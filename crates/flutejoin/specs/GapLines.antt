-- The lines that are put aside as a walk tells of objects and of their gaps.
use Rattle.std.specs.Prelude.{◌≡◌, ℕ, Bool, true, false, List, [], ◌++◌, Option, Some, None, length}
use Rattle.std.specs.List.{flat_map}
use Rattle.flute_parts.specs.Information.{Information}
use Rattle.flute_store.specs.declared.gap.Gap.{Gap}
use Rattle.flutejoin.specs.Listing.{AreClosed, AreSumsWithin, Knows}
use Rattle.flutejoin.specs.Ranges.{one_range, range_line, ranges}
use Rattle.flutejoin.specs.Styles.{gap_line_in, shown}
use Rattle.flutejoin.specs.Told.{Told}
use Rattle.flutejoin.specs.declared.gaps.byte_range.ByteRange.{ByteRange}
use Rattle.flutejoin.specs.declared.gaps.gap_lines.GapLines.{GapLines}
use Rattle.flutejoin.specs.declared.gaps.open_ranges.OpenRanges.{OpenRanges}
use Rattle.flutejoin.specs.declared.lines.form.Form.{Form}

-- the lines of all ranges of these gaps but the last, which is remembered
pub record HasRanges (form : Form) (info : Information) (gaps : List Gap) (lines : List ℕ)
    (r : OpenRanges) : Type 0 where
  pub info_is : r.info ≡ Some info
  pub ended : List ByteRange
  pub ranges_are : ranges info gaps ≡ ended ++ one_range r.last
  pub some : r.last ≡ None → ended ≡ []
  pub lines_are : lines ≡ flat_map (range_line form) ended

-- the lines of gaps of the open object, or of their ranges, if it has one information
abbrev pub AreOpen : Form → Option Information → Bool → List Gap → List ℕ → OpenRanges → Type 0
AreOpen form None b gaps lines r = (lines ≡ []) × (r.last ≡ None)
AreOpen form (Some info) false gaps lines r =
    (lines ≡ flat_map (gap_line_in form) gaps) × (r.last ≡ None)
AreOpen form (Some info) true gaps lines r = HasRanges form info gaps lines r

-- the lines of these objects were put aside, and those of these gaps of the open one, if that is
-- known
pub record HasLines {A : Type 0} (written : A → Option (List ℕ)) (known : Bool)
    (objects : List Told) (info : Option Information) (given : List Gap)
    (v : GapLines A) : Type 0 where
  pub lines : List ℕ
  pub closed_are : AreClosed v.style objects lines v.closed
  pub few : AreSumsWithin (length objects) v.closed.sums
  pub lines_known : Knows known (written v.lines.now) lines
  pub gaps : List ℕ
  pub gaps_are : AreOpen v.style.form info v.style.ranges (shown v.style given) gaps v.ranges
  pub gaps_known : Knows known (written v.gap_lines.now) gaps
