-- What `compare` prints of how two journals differ, by its options.
use Rattle.std.specs.Prelude.{ℕ, ◌||◌, Bool, not, List, ◌++◌, codes, Option, Some, None}
use Rattle.std.specs.Prelude.{if◌then◌else◌}
use Rattle.std.specs.List.{flat_map, list_any}
use Rattle.flute_streams.specs.Compared.{differs}
use Rattle.flute_streams.specs.declared.merge.sides.Row.{Row}
use Rattle.flute_streams.specs.declared.merge.sides.Side.{Side}
use Rattle.flute_streams.specs.declared.merge.sides.Side.TheVariants.{Same, Differ, First, Second}
use Rattle.flutejoin.specs.CompareSums.{json_sides, row_session, session_line, sides_words}
use Rattle.flutejoin.specs.Json.{json_line, json_name}
use Rattle.flutejoin.specs.Lines.{key_words, line}
use Rattle.flutejoin.specs.Parts.{parts_of}
use Rattle.flutejoin.specs.declared.lines.compare_style.CompareStyle.{CompareStyle}
use Rattle.flutejoin.specs.declared.lines.form.Form.{Form}
use Rattle.flutejoin.specs.declared.lines.form.Form.TheVariants.{Plain, Json}

-- which journal has the information of an object
abbrev pub side_words : Option Side → List ℕ
side_words None = codes "none"
side_words (Some Same) = codes "same"
side_words (Some Differ) = codes "differ"
side_words (Some First) = codes "first"
side_words (Some Second) = codes "second"

-- the same as a string
abbrev pub json_side : Option Side → List ℕ
json_side None = codes "\"none\""
json_side (Some Same) = codes "\"same\""
json_side (Some Differ) = codes "\"differ\""
json_side (Some First) = codes "\"first\""
json_side (Some Second) = codes "\"second\""

unfoldable pub row_line : Form → Row → List ℕ
row_line Plain row =
    line (key_words row.key ++ sides_words row.symbols ++ codes " information "
    ++ side_words row.information)
row_line Json row =
    json_line (json_name row.key ++ codes "," ++ json_sides row.symbols
    ++ codes ",\"information\":" ++ json_side row.information)

-- the line of each object, or with `--summary` of each session
unfoldable pub compared : CompareStyle → List Row → List ℕ
compared style rows =
    if style.summary then flat_map (session_line style.form) (parts_of row_session rows)
    else flat_map (row_line style.form) rows

-- nothing differs
abbrev pub are_same : List Row → Bool
are_same rows = not (list_any differs rows)

-- with `--check` nothing may
abbrev pub passes_check : CompareStyle → List Row → Bool
passes_check style rows = not style.check || are_same rows
