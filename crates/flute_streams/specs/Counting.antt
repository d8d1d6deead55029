-- How rows are counted, one address after another.
use Rattle.std.specs.Prelude.{◌+◌, ◌-◌, ◌^◌, ℕ, min, List, [], ◌∷◌, if◌then◌else◌}
use Rattle.std.specs.Prelude.{Option, Some, None}
use Rattle.std.specs.declared.cmp.Ordering.{Ordering}
use Rattle.std.specs.declared.cmp.Ordering.TheVariants.{Less, Equal, Greater}
use Rattle.flute_parts.specs.Addresses.{address}
use Rattle.flute_parts.specs.Facts.{same_fact}
use Rattle.flute_parts.specs.Order.{address_cmp, same_key}
use Rattle.flute_parts.specs.declared.address.Part.{Part}
use Rattle.flute_parts.specs.declared.address.Part.TheVariants.{Info as InfoPart}
use Rattle.flute_parts.specs.declared.address.Part.TheVariants.{Symbol as SymbolPart}
use Rattle.flute_parts.specs.declared.fact.Fact.{Fact}
use Rattle.flute_parts.specs.declared.key.Key.{Key}
use Rattle.flute_streams.specs.Compared.{row_of}
use Rattle.flute_streams.specs.declared.merge.sides.Meeting.{Meeting}
use Rattle.flute_streams.specs.declared.merge.sides.Row.{Row}
use Rattle.flute_streams.specs.declared.merge.sides.Side.{Side}
use Rattle.flute_streams.specs.declared.merge.sides.Side.TheVariants.{Same, Differ, First, Second}
use Rattle.flute_streams.specs.declared.merge.sides.Sides.{Sides}

-- a count, as far as 64 bits go
abbrev pub capped : ℕ → ℕ
capped n = min n (2 ^ 64 - 1)

-- the counts with one more of this side; they stay at the greatest number
abbrev pub more : Sides → Side → Sides
more s Same = record {
  same = capped (s.same + 1);
  differ = s.differ;
  first = s.first;
  second = s.second;
}
more s Differ = record {
  same = s.same;
  differ = capped (s.differ + 1);
  first = s.first;
  second = s.second;
}
more s First = record {
  same = s.same;
  differ = s.differ;
  first = capped (s.first + 1);
  second = s.second;
}
more s Second = record {
  same = s.same;
  differ = s.differ;
  first = s.first;
  second = capped (s.second + 1);
}

-- the counts of both together; they stay at the greatest number
abbrev pub plus : Sides → Sides → Sides
plus s t = record {
  same = capped (s.same + t.same);
  differ = capped (s.differ + t.differ);
  first = capped (s.first + t.first);
  second = capped (s.second + t.second);
}

-- the counts of nothing
abbrev pub no_sides : Sides
no_sides = record { same = 0; differ = 0; first = 0; second = 0 }

-- the row of an object before anything of it is counted
abbrev pub new_row : Key → Row
new_row key = record { key = key; information = None; symbols = no_sides }

-- a row after its part of the object is counted on this side
abbrev pub counted_at : Row → Part → Side → Row
counted_at row InfoPart side =
    record { key = row.key; information = Some side; symbols = row.symbols }
counted_at row (SymbolPart id) side =
    record { key = row.key; information = row.information; symbols = more row.symbols side }

-- a row after a meeting of the two streams
abbrev pub counted : Row → Meeting → Row
counted row m = counted_at row m.at.part m.side

-- which side has the facts at an address, of which there is one at least
abbrev pub side_of : Option Fact → Option Fact → Side
side_of (Some f) (Some g) = if same_fact f g then Same else Differ
side_of (Some f) None = First
side_of None other = Second

-- what both hold at the lowest address, by their order
abbrev pub lowest_at : Ordering → Fact → Fact → Option Fact × Option Fact
lowest_at Less f g = (Some f, None)
lowest_at Equal f g = (Some f, Some g)
lowest_at Greater f g = (None, Some g)

-- those of two facts that are at the lowest address
abbrev pub lowest_of : Option Fact → Option Fact → Option Fact × Option Fact
lowest_of (Some f) (Some g) = lowest_at (address_cmp (address f) (address g)) f g
lowest_of held other = (held, other)

-- the meeting of facts at one address
abbrev pub meeting_at : Option Fact → Option Fact → Option Meeting
meeting_at (Some f) other = Some record { at = address f; side = side_of (Some f) other }
meeting_at None (Some g) = Some record { at = address g; side = Second }
meeting_at None None = None

-- how two streams meet at their lowest address, if any has a fact
abbrev pub meeting_of : Option Fact → Option Fact → Option Meeting
meeting_of held other = let l = lowest_of held other in meeting_at l.0 l.1

-- a row, as a list of at most one
abbrev pub option_row : Option Row → List Row
option_row None = []
option_row (Some row) = row ∷ []

-- the rows that are told, and the row that is counted on, once two sides met
abbrev pub to_tell : Option Row → Key → List Row
to_tell None key = []
to_tell (Some row) key = if same_key row.key key then [] else row ∷ []

-- the row that goes on if it is of this object, else a new one
abbrev pub row_for : Option Row → Key → Row
row_for None key = new_row key
row_for (Some row) key = if same_key row.key key then row else new_row key

-- a row as it is told: its counts as far as 64 bits go
abbrev pub capped_sides : Sides → Sides
capped_sides s = record {
  same = capped s.same;
  differ = capped s.differ;
  first = capped s.first;
  second = capped s.second;
}

-- a row as it is told: its counts stay at the greatest number
abbrev pub told_row : Row → Row
told_row row = record {
  key = row.key;
  information = row.information;
  symbols = capped_sides row.symbols;
}

-- the row that is told of an object of two lists of facts
abbrev pub told_of : List Fact → List Fact → Key → Row
told_of facts others key = told_row (row_of facts others key)
