-- How two journals differ in the objects of a session together.
use Rattle.std.specs.Prelude.{ℕ, ◌+◌, Bool, true, false, List, [], ◌∷◌, ◌++◌, length, codes}
use Rattle.std.specs.Prelude.{Option, Some, None, decimal, if◌then◌else◌}
use Rattle.std.specs.List.{count_by, sum_by}
use Rattle.flute_parts.specs.Order.{same_session}
use Rattle.flute_parts.specs.Session.{Session}
use Rattle.flute_streams.specs.Counting.{capped, capped_sides, more, no_sides, plus}
use Rattle.flute_streams.specs.declared.merge.sides.Row.{Row}
use Rattle.flute_streams.specs.declared.merge.sides.Side.{Side}
use Rattle.flute_streams.specs.declared.merge.sides.Side.TheVariants.{Same, Differ, First, Second}
use Rattle.flute_streams.specs.declared.merge.sides.Sides.{Sides}
use Rattle.flutejoin.specs.Json.{json_line}
use Rattle.flutejoin.specs.JsonGaps.{json_session}
use Rattle.flutejoin.specs.Lines.{line, source_words}
use Rattle.flutejoin.specs.declared.compare.compare_sums.CompareSums.{CompareSums}
use Rattle.flutejoin.specs.declared.lines.form.Form.{Form}
use Rattle.flutejoin.specs.declared.lines.form.Form.TheVariants.{Plain, Json}

-- ---- exactly

-- whether both sides have the same there
abbrev pub is_same_in : Option Side → Bool
is_same_in (Some Same) = true
is_same_in side = false

-- whether both sides have something there, and not the same
abbrev pub is_other_in : Option Side → Bool
is_other_in (Some Differ) = true
is_other_in side = false

-- whether the first side alone has something there
abbrev pub is_in_first : Option Side → Bool
is_in_first (Some First) = true
is_in_first side = false

-- whether the second side alone has something there
abbrev pub is_in_second : Option Side → Bool
is_in_second (Some Second) = true
is_in_second side = false

-- whether neither side has anything there
abbrev pub is_in_none : Option Side → Bool
is_in_none None = true
is_in_none side = false

-- the symbols of all rows
abbrev pub symbols_of : List Row → Sides
symbols_of rows = record {
  same = sum_by (λ (row : Row). row.symbols.same) rows;
  differ = sum_by (λ (row : Row). row.symbols.differ) rows;
  first = sum_by (λ (row : Row). row.symbols.first) rows;
  second = sum_by (λ (row : Row). row.symbols.second) rows;
}

-- how many rows have such information
abbrev pub information_of : List Row → Sides
information_of rows = record {
  same = count_by (λ (row : Row). is_same_in row.information) rows;
  differ = count_by (λ (row : Row). is_other_in row.information) rows;
  first = count_by (λ (row : Row). is_in_first row.information) rows;
  second = count_by (λ (row : Row). is_in_second row.information) rows;
}

-- the sums of rows of a session
abbrev pub sums_of : Session → List Row → CompareSums
sums_of session rows = record {
  session = session;
  objects = length rows;
  symbols = symbols_of rows;
  information = information_of rows;
  unknown = count_by (λ (row : Row). is_in_none row.information) rows;
}

-- ---- their lines

-- the words of a line about such counts
abbrev pub sides_words : Sides → List ℕ
sides_words s =
    codes " same " ++ decimal s.same ++ (codes " differ " ++ decimal s.differ)
    ++ (codes " first " ++ decimal s.first) ++ (codes " second " ++ decimal s.second)

-- the members of JSON about such counts
abbrev pub json_sides : Sides → List ℕ
json_sides s =
    codes "\"same\":" ++ decimal s.same ++ (codes ",\"differ\":" ++ decimal s.differ)
    ++ (codes ",\"first\":" ++ decimal s.first) ++ (codes ",\"second\":" ++ decimal s.second)

unfoldable pub sums_line : Form → CompareSums → List ℕ
sums_line Plain s =
    line (source_words s.session.sender ++ codes "session " ++ decimal s.session.tsi
    ++ (codes " objects " ++ decimal s.objects) ++ sides_words s.symbols
    ++ codes " information" ++ sides_words s.information
    ++ (codes " none " ++ decimal s.unknown))
sums_line Json s =
    json_line (json_session s.session ++ (codes ",\"objects\":" ++ decimal s.objects) ++ codes ","
    ++ json_sides s.symbols ++ codes ",\"information\":{" ++ json_sides s.information
    ++ (codes ",\"none\":" ++ decimal s.unknown) ++ codes "}")

-- rows in the order of their keys, cut into those of each session
abbrev pub row_session : Row → Session
row_session row = row.key.session

-- the line of a session
abbrev pub session_line : Form → Row × List Row → List ℕ
session_line form part = sums_line form (sums_of (row_session part.0) (part.0 ∷ part.1))

-- ---- as rows are added: each sum as far as 64 bits go

-- the sums, none of which passes the greatest number
abbrev pub capped_sums : CompareSums → CompareSums
capped_sums s = record {
  session = s.session;
  objects = capped s.objects;
  symbols = capped_sides s.symbols;
  information = capped_sides s.information;
  unknown = capped s.unknown;
}

-- the sums of a session before any object
abbrev pub no_sums : Session → CompareSums
no_sums session = record {
  session = session;
  objects = 0;
  symbols = no_sides;
  information = no_sides;
  unknown = 0;
}

-- the sums after the information of an object is counted
abbrev pub with_information : CompareSums → Option Side → CompareSums
with_information s None = record s { unknown = capped (s.unknown + 1) }
with_information s (Some side) = record s { information = more s.information side }

-- the sums after a row of the comparison
abbrev pub with_row : CompareSums → Row → CompareSums
with_row s row = with_information (record s {
  objects = capped (s.objects + 1);
  symbols = plus s.symbols row.symbols;
}) row.information

-- the line that is left of the last session
abbrev pub last_sums : Form → Option CompareSums → List ℕ
last_sums form None = []
last_sums form (Some s) = sums_line form s

-- the sums that a row of a session is added to, and the line of those before
abbrev pub sums_after : Option CompareSums → Session → CompareSums
sums_after None session = no_sums session
sums_after (Some s) session = if same_session s.session session then s else no_sums session

-- the line of the session before, once another one begins
abbrev pub sums_before : Form → Option CompareSums → Session → List ℕ
sums_before form None session = []
sums_before form (Some s) session =
    if same_session s.session session then [] else sums_line form s
