-- The lines that `gaps` prints of a journal, and what is asked for by them.
use Rattle.std.specs.Prelude.{◌≡◌, ℕ, ◌+◌, ◌-◌, ◌<◌, ◌≤◌, ◌^◌, ◌&&◌, Bool, true, false, not, List}
use Rattle.std.specs.Prelude.{[], ◌∷◌, ◌++◌, length, Option, Some, None, if◌then◌else◌, filter}
use Rattle.std.specs.Prelude.{nat_eq, nat_le, ⊤, ◌⊎◌}
use Rattle.std.specs.List.{flat_map, list_any, AllByRecursion}
use Rattle.std.specs.declared.cmp.Ordering.TheVariants.{Less}
use Rattle.flute_parts.specs.Addresses.{address, info_address, symbol_address}
use Rattle.flute_parts.specs.Order.{address_cmp, key_cmp, same_key}
use Rattle.flute_parts.specs.Ranges.{IsKey}
use Rattle.flute_parts.specs.declared.address.Address.{Address}
use Rattle.flute_parts.specs.declared.address.Part.{Part}
use Rattle.flute_parts.specs.declared.address.Part.TheVariants.{Info as InfoPart}
use Rattle.flute_parts.specs.declared.address.Part.TheVariants.{Symbol as SymbolPart}
use Rattle.flute_parts.specs.declared.fact.Fact.{Fact}
use Rattle.flute_parts.specs.declared.key.Key.{Key}
use Rattle.flute_store.specs.Objects.{same_reason}
use Rattle.flute_store.specs.declared.gap.Gap.{Gap}
use Rattle.flute_store.specs.declared.gap.Reason.TheVariants.{Missing}
use Rattle.flute_store.specs.declared.status.Status.{Status}
use Rattle.flute_store.specs.declared.status.Status.TheVariants.{ConflictingInformation}
use Rattle.flute_store.specs.declared.status.Status.TheVariants.{NoInformation, Partial, Whole}
use Rattle.flutejoin.specs.ListedLines.{HasNoEnd, IsOneLine}
use Rattle.flutejoin.specs.Lines.{gap_line, line, status_line}
use Rattle.flutejoin.specs.declared.fill.asking.Asking.{Asking}
use Rattle.flutejoin.specs.declared.fill.asking.Asking.TheVariants.{All as AskAll, Only}
use Rattle.flutejoin.specs.declared.fill.listed_line.ListedLine.{ListedLine}
use Rattle.flutejoin.specs.declared.fill.listed_line.ListedLine.TheVariants.{Object as ObjectLine}
use Rattle.flutejoin.specs.declared.fill.listed_line.ListedLine.TheVariants.{Gap as GapLine}

-- ---- the lines

-- the object that a line tells of; a gap's is named in a line before
abbrev pub object_of : ListedLine → Key
object_of (ObjectLine key status) = key
object_of (GapLine key gap) = key

-- how it is printed
abbrev pub text_of : ListedLine → List ℕ
text_of (ObjectLine key status) = status_line key status
text_of (GapLine key gap) = gap_line gap

-- the first and the last address that it tells of: of how much is held that of the information
abbrev pub begins : ListedLine → Address
begins (ObjectLine key status) = info_address key
begins (GapLine key gap) = symbol_address key (record { sbn = gap.sbn; esi = gap.first })

-- the last address that a line is about
abbrev pub ends : ListedLine → Address
ends (ObjectLine key status) = info_address key
ends (GapLine key gap) = symbol_address key (record { sbn = gap.sbn; esi = gap.last })

-- lines of gaps may follow that of a partial object, and each other
abbrev pub has_gaps : ListedLine → Bool
has_gaps (ObjectLine key (Partial missing conflicting misfit)) = true
has_gaps (ObjectLine key status) = false
has_gaps (GapLine key gap) = true

-- `gaps` can print a line after another, or as its first: objects in the order of their keys, and
-- the gaps of an object in that of its symbols
abbrev pub MayCome : Option ListedLine → ListedLine → Type 0
MayCome None (ObjectLine key status) = ⊤
MayCome None (GapLine key gap) = ⊥
MayCome (Some before) (ObjectLine key status) = key_cmp (object_of before) key ≡ Less
MayCome (Some before) (GapLine key gap) =
    (has_gaps before ≡ true) × (object_of before ≡ key) × (gap.first ≤ gap.last)
    × (address_cmp (ends before) (begins (GapLine key gap)) ≡ Less)

-- so with each of some lines, after that one
unfoldable pub AreInOrder : Option ListedLine → List ListedLine → Type 0
AreInOrder before [] = ⊤
AreInOrder before (l ∷ lines) = MayCome before l × AreInOrder (Some l) lines

-- a status whose numbers have at most 64 bits
abbrev pub HasCounts : Status → Type 0
HasCounts NoInformation = ⊤
HasCounts ConflictingInformation = ⊤
HasCounts (Partial missing conflicting misfit) =
    (missing < 2 ^ 64) × (conflicting < 2 ^ 64) × (misfit < 2 ^ 64)
HasCounts (Whole length) = length < 2 ^ 64

-- a gap whose three numbers have at most 16 bits
abbrev pub HasIds : Gap → Type 0
HasIds gap = (gap.sbn < 2 ^ 16) × (gap.first < 2 ^ 16) × (gap.last < 2 ^ 16)

-- its numbers are within their ranges
abbrev pub IsListed : ListedLine → Type 0
IsListed (ObjectLine key status) = IsKey key × HasCounts status
IsListed (GapLine key gap) = HasIds gap

-- these are the bytes of lines that `gaps` can print
pub record IsListing (bytes : List ℕ) (lines : List ListedLine) : Type 0 where
  pub text : bytes ≡ flat_map text_of lines
  pub in_order : AreInOrder None lines
  pub listed : AllByRecursion IsListed lines

-- ---- what is asked for

-- how much is held of an object, if it is told
unfoldable pub status_in : List ListedLine → Key → Option Status
status_in [] key = None
status_in (ObjectLine k status ∷ lines) key =
    if same_key k key then Some status else status_in lines key
status_in (GapLine k gap ∷ lines) key = status_in lines key

-- the part is a symbol of the gap
abbrev pub is_part_of : Gap → Part → Bool
is_part_of gap InfoPart = false
is_part_of gap (SymbolPart id) =
    nat_eq id.sbn gap.sbn && (nat_le gap.first id.esi && nat_le id.esi gap.last)

-- a line tells that what is at an address is missing
abbrev pub is_missing_by : Address → ListedLine → Bool
is_missing_by at (ObjectLine key status) = false
is_missing_by at (GapLine key gap) =
    same_key key at.key && (same_reason gap.reason Missing && is_part_of gap at.part)

-- whether a part of an object is its transmission information
abbrev pub is_info : Part → Bool
is_info InfoPart = true
is_info (SymbolPart id) = false

-- a part of an object is asked for, by how much of it is held, if that is told, and by whether the
-- part is in a gap of what is missing
abbrev pub wants : Asking → Option Status → Bool → Part → Bool
wants AskAll None is_missing part = true
wants Only None is_missing part = false
wants asking (Some (Whole length)) is_missing part = false
wants asking (Some (Partial missing conflicting misfit)) is_missing part = is_missing
wants AskAll (Some NoInformation) is_missing part = true
wants Only (Some NoInformation) is_missing part = is_info part
wants AskAll (Some ConflictingInformation) is_missing part = not (is_info part)
wants Only (Some ConflictingInformation) is_missing part = false

-- lines tell that what is at an address is missing
abbrev pub is_missing_in : List ListedLine → Address → Bool
is_missing_in lines at = list_any (is_missing_by at) lines

-- whether these lines ask for a fact
abbrev pub asks : Asking → List ListedLine → Fact → Bool
asks asking lines fact =
    let at = address fact in
    wants asking (status_in lines at.key) (is_missing_in lines at) at.part

-- the facts that are asked for
abbrev pub asked : Asking → List ListedLine → List Fact → List Fact
asked asking lines facts = filter (asks asking lines) facts

-- ---- what is no line

-- the last of some lines, after that one
abbrev pub last_of : Option ListedLine → List ListedLine → Option ListedLine
last_of before [] = before
last_of before (l ∷ lines) = last_of (Some l) lines

-- the bytes begin with lines in order, as many as are before the line with this number, from 1, and
-- then has other bytes
pub record ListsUpTo (bytes : List ℕ) (number : ℕ) (lines : List ListedLine)
    (rest : List ℕ) : Type 0 where
  pub text : bytes ≡ flat_map text_of lines ++ rest
  pub in_order : AreInOrder None lines
  pub number_is : number ≡ length lines + 1

-- the line with this number is the first that `gaps` cannot print there; more than 2^64 - 1 lines
-- are not read
pub data IsBadLine (bytes : List ℕ) (number : ℕ) : Type 0 where
  other : (lines : List ListedLine) (words rest : List ℕ)
      → ListsUpTo bytes number lines (line words ++ rest) → IsOneLine words
      → ((l : ListedLine) → IsListed l → MayCome (last_of None lines) l → line words ≡ text_of l
      → ⊥) → IsBadLine bytes number
  no_end : (lines : List ListedLine) (rest : List ℕ) → ListsUpTo bytes number lines rest
      → HasNoEnd rest → IsBadLine bytes number
  too_many : (lines : List ListedLine) (rest : List ℕ) → ListsUpTo bytes (2 ^ 64) lines rest
      → number ≡ 2 ^ 64 - 1 → IsBadLine bytes number
