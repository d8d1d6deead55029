-- The byte ranges of an object that are not held.
use Rattle.std.specs.Prelude.{ℕ, ◌+◌, ◌-◌, ◌*◌, ◌==◌, min, if◌then◌else◌, List, [], ◌∷◌, ◌++◌}
use Rattle.std.specs.Prelude.{Option, Some, None, codes, decimal, filter_map}
use Rattle.std.specs.List.{flat_map}
use Rattle.flute_parts.specs.Information.{Information}
use Rattle.flute_parts.specs.Partition.{place, symbol_id}
use Rattle.flute_store.specs.declared.gap.Gap.{Gap}
use Rattle.flutejoin.specs.Json.{json_line}
use Rattle.flutejoin.specs.Lines.{line}
use Rattle.flutejoin.specs.declared.gaps.byte_range.ByteRange.{ByteRange}
use Rattle.flutejoin.specs.declared.lines.form.Form.{Form}
use Rattle.flutejoin.specs.declared.lines.form.Form.TheVariants.{Plain, Json}

-- the bytes of the symbols from one place to another, cut to the transfer length: the symbol at the
-- place p has those from p * E on, of which there are E (RFC 5445, 3.4)
abbrev pub range_between : Information → Option ℕ → Option ℕ → Option ByteRange
range_between info (Some first) (Some last) = Some (record {
  first = first * info.symbol_length;
  end = min ((last + 1) * info.symbol_length) info.transfer_length;
})
range_between info first last = None

-- the bytes of the symbols of a gap
abbrev pub gap_range : Information → Gap → Option ByteRange
gap_range info gap = range_between info (place info (symbol_id gap.sbn gap.first))
    (place info (symbol_id gap.sbn gap.last))

-- a range put before others, as one with the first of them if that begins where it ends
abbrev pub range_before : ByteRange → List ByteRange → List ByteRange
range_before r [] = r ∷ []
range_before r (s ∷ others) =
    if r.end == s.first then record s { first = r.first } ∷ others else (r ∷ s ∷ others)

-- ranges, each of them as long as it can be
unfoldable pub longest : List ByteRange → List ByteRange
longest [] = []
longest (r ∷ others) = range_before r (longest others)

-- the byte ranges of gaps of an object with this information
abbrev pub ranges : Information → List Gap → List ByteRange
ranges info gaps = longest (filter_map (gap_range info) gaps)

-- the places of the first and of the last byte (RFC 9110, 14.1.2)
unfoldable pub range_line : Form → ByteRange → List ℕ
range_line Plain r = line (codes "bytes " ++ decimal r.first ++ codes "-" ++ decimal (r.end - 1))
range_line Json r =
    json_line (codes "\"first\":" ++ decimal r.first ++ codes ",\"last\":" ++ decimal (r.end - 1))

-- ---- as gaps come, of which the last range may go on

-- a range, as a list of at most one
abbrev pub one_range : Option ByteRange → List ByteRange
one_range None = []
one_range (Some r) = r ∷ []

-- the line of a range, if there is one
abbrev pub range_lines : Form → Option ByteRange → List ℕ
range_lines form last = flat_map (range_line form) (one_range last)

-- the last range, with the next one
abbrev pub range_after : Option ByteRange → ByteRange → ByteRange
range_after None next = next
range_after (Some last) next =
    if last.end == next.first then record next { first = last.first } else next

-- the range that may still grow, after the next one
abbrev pub last_range : Option ByteRange → Option ByteRange → Option ByteRange
last_range last None = last
last_range last (Some next) = Some (range_after last next)

-- the line of a last range that does not go on
abbrev pub ended_line : Form → Option ByteRange → Option ByteRange → List ℕ
ended_line form last None = []
ended_line form None (Some next) = []
ended_line form (Some last) (Some next) =
    if last.end == next.first then [] else range_line form last
