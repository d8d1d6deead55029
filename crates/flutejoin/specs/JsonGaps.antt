-- The lines of JSON that `gaps` prints: the values of its plain lines, by their names.
use Rattle.std.specs.Prelude.{ℕ, nat_lt, if◌then◌else◌, List, [], ◌++◌, codes, decimal}
use Rattle.flute_parts.specs.Session.{Session}
use Rattle.flute_parts.specs.declared.key.Key.{Key}
use Rattle.flute_store.specs.declared.gap.Reason.{Reason}
use Rattle.flute_store.specs.declared.gap.Reason.TheVariants.{Missing, Conflicting, Misfit}
use Rattle.flute_store.specs.declared.gap.Gap.{Gap}
use Rattle.flute_store.specs.declared.status.Status.{Status}
use Rattle.flute_store.specs.declared.status.Status.TheVariants.{NoInformation, Partial, Whole}
use Rattle.flute_store.specs.declared.status.Status.TheVariants.{ConflictingInformation}
use Rattle.flutejoin.specs.Json.{json_line, json_name, json_source}

-- a session by its sender and its TSI
abbrev pub json_session : Session → List ℕ
json_session s = json_source s.sender ++ codes "\"tsi\":" ++ decimal s.tsi

-- how much of an object is held, behind other members
abbrev pub json_status : Status → List ℕ
json_status NoInformation = codes ",\"status\":\"no information\""
json_status ConflictingInformation = codes ",\"status\":\"conflicting information\""
json_status (Whole length) = codes ",\"status\":\"whole\",\"length\":" ++ decimal length
json_status (Partial missing conflicting misfit) =
    codes ",\"status\":\"partial\",\"missing\":" ++ decimal missing
    ++ codes ",\"conflicting\":" ++ decimal conflicting
    ++ codes ",\"misfit\":" ++ decimal misfit

-- how many of its symbols in conflict are in no gap of its partition, if any is
abbrev pub json_unplaced : ℕ → List ℕ
json_unplaced n = if nat_lt 0 n then codes ",\"unplaced\":" ++ decimal n else []

unfoldable pub json_object_line : Key → Status → ℕ → List ℕ
json_object_line key status n = json_line (json_name key ++ json_status status ++ json_unplaced n)

-- the reason of a gap, as JSON
abbrev pub json_reason : Reason → List ℕ
json_reason Missing = codes "\"missing\""
json_reason Conflicting = codes "\"conflicting\""
json_reason Misfit = codes "\"misfit\""

-- symbols of one block, from the first to the last
unfoldable pub json_gap_line : Gap → List ℕ
json_gap_line g =
    json_line (codes "\"sbn\":" ++ decimal g.sbn ++ codes ",\"first\":" ++ decimal g.first
    ++ codes ",\"last\":" ++ decimal g.last ++ codes ",\"reason\":" ++ json_reason g.reason)
