-- What `gaps --json` and `compare --json` print, computed from the definitions.
use Rattle.std.specs.Prelude.{◌≡◌, ◌+◌, ◌*◌, ◌^◌, refl, codes, true, false, List, [], ◌∷◌, ◌++◌}
use Rattle.std.specs.Prelude.{Bool, Some, None}
use Rattle.std.specs.Fmt.{digits}
use Rattle.hex.specs.Hex.{encode_with}
use Rattle.flute_parts.specs.Information.{information}
use Rattle.flute_parts.specs.Session.{session}
use Rattle.flute_parts.specs.declared.object_key.ObjectName.TheVariants.{File, Instance}
use Rattle.flute_store.specs.declared.gap.Reason.TheVariants.{Missing, Conflicting, Misfit}
use Rattle.flute_store.specs.declared.status.Status.TheVariants.{ConflictingInformation}
use Rattle.flute_store.specs.declared.status.Status.TheVariants.{NoInformation, Partial, Whole}
use Rattle.flute_streams.specs.declared.merge.sides.Row.{Row}
use Rattle.flute_streams.specs.declared.merge.sides.Side.TheVariants.{Same}
use Rattle.flutejoin.specs.CompareLines.{compared, row_line}
use Rattle.flutejoin.specs.CompareSums.{sums_line as compared_line}
use Rattle.flutejoin.specs.JsonGaps.{json_gap_line, json_object_line}
use Rattle.flutejoin.specs.Parts.{parts_of}
use Rattle.flutejoin.specs.Styles.{object_line_in, printed, told_lines}
use Rattle.flutejoin.specs.Sums.{by_session, sums_line}
use Rattle.flutejoin.specs.Told.{Told}
use Rattle.flutejoin.specs.declared.lines.compare_style.CompareStyle.{CompareStyle}
use Rattle.flutejoin.specs.declared.lines.form.Form.TheVariants.{Json}
use Rattle.flutejoin.specs.declared.lines.style.Style.{Style}

-- a file of the sender with the IPv4 address 10.0.0.1, and three FDT Instances of the sender 0
abbrev whole : Told
whole = record {
  key = record { session = session (65535 * 2 ^ 32 + 0x0A000001) 7; object = File 1 };
  status = Whole 40000;
  info = Some (information 40000 1000 16);
  gaps = [];
  bytes = Some [];
  conflicts = 0;
}

abbrev partial : Told
partial = record {
  key = record { session = session 0 7; object = Instance 2 };
  status = Partial 2 1 1;
  info = Some (information 75 10 4);
  gaps =
      record { sbn = 0; first = 2; last = 3; reason = Missing }
      ∷ record { sbn = 1; first = 0; last = 0; reason = Conflicting }
      ∷ record { sbn = 1; first = 3; last = 3; reason = Misfit } ∷ [];
  bytes = None;
  conflicts = 1;
}

abbrev no_information : Told
no_information = record {
  key = record { session = session 0 7; object = Instance 3 };
  status = NoInformation;
  info = None;
  gaps = [];
  bytes = None;
  conflicts = 2;
}

abbrev conflicting_information : Told
conflicting_information = record no_information { status = ConflictingInformation; conflicts = 0 }

abbrev style : Bool → Bool → Style
style summary conflicts = record {
  check = false;
  summary = summary;
  conflicts = conflicts;
  ranges = false;
  form = Json;
}

pub objects : printed (style false false)
    (partial ∷ no_information ∷ conflicting_information ∷ whole ∷ [])
    ≡ codes "{\"tsi\":7,\"fdt\":2,\"status\":\"partial\","
    ++ codes "\"missing\":2,\"conflicting\":1,\"misfit\":1}\n"
    ++ codes "{\"sbn\":0,\"first\":2,\"last\":3,\"reason\":\"missing\"}\n"
    ++ codes "{\"sbn\":1,\"first\":0,\"last\":0,\"reason\":\"conflicting\"}\n"
    ++ codes "{\"sbn\":1,\"first\":3,\"last\":3,\"reason\":\"misfit\"}\n"
    ++ codes "{\"tsi\":7,\"fdt\":3,\"status\":\"no information\"}\n"
    ++ codes "{\"tsi\":7,\"fdt\":3,\"status\":\"conflicting information\"}\n"
    ++ codes "{\"source\":\"00000000000000000000ffff0a000001\",\"tsi\":7,\"toi\":\"1\","
    ++ codes "\"status\":\"whole\",\"length\":40000}\n"
unfolding digits encode_with printed told_lines object_line_in json_object_line json_gap_line
objects = refl

pub unplaced : printed (style false true) (no_information ∷ [])
    ≡ codes "{\"tsi\":7,\"fdt\":3,\"status\":\"no information\",\"unplaced\":2}\n"
unfolding digits printed told_lines object_line_in json_object_line
unplaced = refl

pub sessions : printed (style true false) (partial ∷ no_information ∷ [])
    ≡ codes "{\"tsi\":7,\"objects\":2,\"whole\":0,\"partial\":1,\"missing\":2,"
    ++ codes "\"conflicting\":3,\"misfit\":1,\"unknown\":1}\n"
unfolding digits printed by_session sums_line
sessions = refl

abbrev row : Row
row = record {
  key = partial.key;
  symbols = record { same = 38; differ = 0; first = 2; second = 5 };
  information = Some Same;
}

pub rows : compared (record { check = false; summary = false; form = Json }) (row ∷ [])
    ≡ codes "{\"tsi\":7,\"fdt\":2,\"same\":38,\"differ\":0,\"first\":2,\"second\":5,"
    ++ codes "\"information\":\"same\"}\n"
unfolding digits compared row_line
rows = refl

pub rows_of_sessions :
    compared (record { check = false; summary = true; form = Json }) (row ∷ [])
    ≡ codes "{\"tsi\":7,\"objects\":1,\"same\":38,\"differ\":0,\"first\":2,\"second\":5,"
    ++ codes "\"information\":{\"same\":1,\"differ\":0,\"first\":0,\"second\":0,\"none\":0}}\n"
unfolding digits compared compared_line parts_of
rows_of_sessions = refl
