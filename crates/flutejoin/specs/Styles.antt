-- What `gaps` prints of objects, by its options.
use Rattle.std.specs.Prelude.{◌≡◌, ℕ, ◌-◌, ◌&&◌, ◌||◌, Bool, true, false, not, List, [], ◌++◌, filter}
use Rattle.std.specs.Prelude.{Option, Some, None, if◌then◌else◌, nat_lt}
use Rattle.std.specs.List.{flat_map, list_all}
use Rattle.flute_parts.specs.Information.{Information}
use Rattle.flute_parts.specs.declared.key.Key.{Key}
use Rattle.flute_store.specs.declared.gap.Reason.{Reason}
use Rattle.flute_store.specs.declared.gap.Reason.TheVariants.{Conflicting}
use Rattle.flute_store.specs.declared.gap.Gap.{Gap}
use Rattle.flute_store.specs.declared.status.Status.{Status}
use Rattle.flute_store.specs.declared.status.Status.TheVariants.{ConflictingInformation}
use Rattle.flute_store.specs.declared.status.Status.TheVariants.{Partial, Whole}
use Rattle.flute_store.specs.Objects.{same_reason}
use Rattle.flutejoin.specs.JsonGaps.{json_gap_line, json_object_line}
use Rattle.flutejoin.specs.Lines.{gap_line, status_line, unplaced_line}
use Rattle.flutejoin.specs.Ranges.{range_line, ranges}
use Rattle.flutejoin.specs.Sums.{by_session, session_line}
use Rattle.flutejoin.specs.Told.{Told}
use Rattle.flutejoin.specs.declared.gaps.byte_range.ByteRange.{ByteRange}
use Rattle.flutejoin.specs.declared.lines.form.Form.{Form}
use Rattle.flutejoin.specs.declared.lines.form.Form.TheVariants.{Plain, Json}
use Rattle.flutejoin.specs.declared.lines.style.Style.{Style}

-- whether a status says that the object is whole
abbrev pub is_whole : Status → Bool
is_whole (Whole length) = true
is_whole _ = false

-- its information has two values, or some symbols of its partition have
abbrev pub has_conflict : Status → Bool
has_conflict ConflictingInformation = true
has_conflict (Partial missing conflicting misfit) = nat_lt 0 conflicting
has_conflict _ = false

-- with `--conflicts` only objects with a conflict are listed, whether or not the partition has it
abbrev pub is_told : Style → Status → ℕ → Bool
is_told style status conflicts =
    not style.conflicts || (nat_lt 0 conflicts || has_conflict status)

-- and only their gaps of symbols in conflict; with `--summary` none
abbrev pub is_shown : Style → Reason → Bool
is_shown style reason = not style.summary && (not style.conflicts || same_reason Conflicting reason)

-- those of the gaps that a style shows
abbrev pub shown : Style → List Gap → List Gap
shown style gaps = filter (λ (gap : Gap). is_shown style gap.reason) gaps

-- the byte ranges of gaps of an object with this information, if it has one
abbrev pub ranges_of : Option Information → List Gap → List ByteRange
ranges_of None gaps = []
ranges_of (Some info) gaps = ranges info gaps

-- the line of a gap
abbrev pub gap_line_in : Form → Gap → List ℕ
gap_line_in Plain gap = gap_line gap
gap_line_in Json gap = json_gap_line gap

-- a line for each gap that is shown, or with `--ranges` for each byte range of these
abbrev pub gap_lines : Style → Option Information → List Gap → List ℕ
gap_lines style info gaps =
    if style.ranges then flat_map (range_line style.form) (ranges_of info (shown style gaps))
    else flat_map (gap_line_in style.form) (shown style gaps)

-- how many symbols of its partition are in conflict
abbrev pub conflicting_in : Status → ℕ
conflicting_in (Partial missing conflicting misfit) = conflicting
conflicting_in _ = 0

-- how many of so many conflicts are told in the line of an object: with `--conflicts` those that
-- none of its gaps has
abbrev pub unplaced_in : Style → Status → ℕ → ℕ
unplaced_in style status conflicts =
    if style.conflicts then conflicts - conflicting_in status else 0

-- the line of an object, which tells of so many conflicts
unfoldable pub object_line_in : Form → Key → Status → ℕ → List ℕ
object_line_in Plain key status n =
    if nat_lt 0 n then unplaced_line key status n else status_line key status
object_line_in Json key status n = json_object_line key status n

-- the line of an object
abbrev pub object_line : Style → Key → Status → ℕ → List ℕ
object_line style key status conflicts =
    object_line_in style.form key status (unplaced_in style status conflicts)

-- the line of an object, and those of its gaps
unfoldable pub told_lines : Style → Told → List ℕ
told_lines style t =
    object_line style t.key t.status t.conflicts ++ gap_lines style t.info t.gaps

-- the objects that are listed
abbrev pub listed_by : Style → List Told → List Told
listed_by style objects = filter (λ (t : Told). is_told style t.status t.conflicts) objects

-- their lines, or with `--summary` a line for each of their sessions
unfoldable pub printed : Style → List Told → List ℕ
printed style objects =
    if style.summary then flat_map (session_line style.form) (by_session (listed_by style objects))
    else flat_map (told_lines style) (listed_by style objects)

-- a whole object is right, but not if it is listed since it has a conflict
abbrev pub is_right : Style → Status → Bool
is_right style status = not style.conflicts && is_whole status

-- all objects that are listed are whole, or with `--conflicts` there is none
abbrev pub are_whole : Style → List Told → Bool
are_whole style objects =
    list_all (λ (t : Told). is_right style t.status) (listed_by style objects)

-- with `--check` they have to be
abbrev pub passes_check : Style → List Told → Bool
passes_check style objects = not style.check || are_whole style objects

-- an object that is not listed has no gap with a line
abbrev pub HasNoStray : Style → Told → Type 0
HasNoStray style t =
    is_told style t.status t.conflicts ≡ false → gap_lines style t.info t.gaps ≡ []
