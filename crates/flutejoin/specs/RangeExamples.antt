-- The byte ranges that `gaps --ranges` prints, computed from the definitions.
use Rattle.std.specs.Prelude.{◌≡◌, refl, codes, true, false, List, [], ◌∷◌, ◌++◌, Bool, Some, None}
use Rattle.std.specs.Fmt.{digits}
use Rattle.flute_parts.specs.Information.{Information, information, sizes}
use Rattle.flute_parts.specs.Partition.{ids, place}
use Rattle.flute_parts.specs.Session.{session}
use Rattle.flute_parts.specs.declared.object_key.ObjectName.TheVariants.{File}
use Rattle.flute_store.specs.declared.gap.Gap.{Gap}
use Rattle.flute_store.specs.declared.gap.Reason.TheVariants.{Missing, Conflicting, Misfit}
use Rattle.flute_store.specs.declared.status.Status.TheVariants.{Partial}
use Rattle.flutejoin.specs.JsonGaps.{json_object_line}
use Rattle.flutejoin.specs.Lines.{status_line}
use Rattle.flutejoin.specs.Ranges.{longest, range_line}
use Rattle.flutejoin.specs.Styles.{object_line_in, printed, told_lines}
use Rattle.flutejoin.specs.Sums.{by_session, sums_line}
use Rattle.flutejoin.specs.Told.{Told}
use Rattle.flutejoin.specs.declared.lines.form.Form.{Form}
use Rattle.flutejoin.specs.declared.lines.form.Form.TheVariants.{Plain, Json}
use Rattle.flutejoin.specs.declared.lines.style.Style.{Style}

-- 75 bytes in two blocks of 4 symbols of 10 bytes; the last has 5. The last two symbols of the
-- first block and the first of the second are wanted, and the last
abbrev partial : Told
partial = record {
  key = record { session = session 0 7; object = File 2 };
  status = Partial 2 1 1;
  info = Some (information 75 10 4);
  gaps =
      record { sbn = 0; first = 2; last = 3; reason = Missing }
      ∷ record { sbn = 1; first = 0; last = 0; reason = Conflicting }
      ∷ record { sbn = 1; first = 3; last = 3; reason = Misfit } ∷ [];
  bytes = None;
  conflicts = 1;
}

abbrev style : Form → Bool → Bool → Style
style form summary conflicts =
    record {
      check = true;
      summary = summary;
      conflicts = conflicts;
      ranges = true;
      form = form;
    }

-- they are one range over the end of the block, and the last ends where the object does
pub joined : printed (style Plain false false) (partial ∷ [])
    ≡ codes "session 7 object 2 partial missing 2 conflicting 1 misfit 1\n"
    ++ codes "bytes 20-49\n" ++ codes "bytes 70-74\n"
unfolding digits printed told_lines object_line_in status_line sizes ids place longest range_line
joined = refl

-- only those of conflicts
pub conflicts : printed (style Plain false true) (partial ∷ [])
    ≡ codes "session 7 object 2 partial missing 2 conflicting 1 misfit 1\n"
    ++ codes "bytes 40-49\n"
unfolding digits printed told_lines object_line_in status_line sizes ids place longest range_line
conflicts = refl

-- and none of a session
pub summed : printed (style Plain true false) (partial ∷ [])
    ≡ codes "session 7 objects 1 whole 0 partial 1 missing 2 conflicting 1 misfit 1 unknown 0\n"
unfolding digits printed by_session sums_line
summed = refl

-- the same in JSON
pub joined_in_json : printed (style Json false false) (partial ∷ [])
    ≡ codes "{\"tsi\":7,\"toi\":\"2\",\"status\":\"partial\","
    ++ codes "\"missing\":2,\"conflicting\":1,\"misfit\":1}\n"
    ++ codes "{\"first\":20,\"last\":49}\n" ++ codes "{\"first\":70,\"last\":74}\n"
unfolding digits printed told_lines object_line_in json_object_line sizes ids place longest
    range_line
joined_in_json = refl
