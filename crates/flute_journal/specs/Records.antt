-- Files of datagrams: a record for each, in the order in which they came.
use Rattle.std.specs.Prelude.{◌≡◌, ℕ, ◌^◌, ◌<◌, List, [], ◌∷◌, ◌++◌, length, ⊤}
use Rattle.std.specs.List.{flat_map, AllByRecursion}
use Rattle.flute_journal.specs.Numbers.{in_bytes}
use Rattle.flute_parts.specs.Ranges.{IsByte}
use Rattle.flute_journal.specs.Frame.{Frame, IsWhole}

-- `FLDG`, and the version
abbrev pub file_header : List ℕ
file_header = 0x46 ∷ 0x4C ∷ 0x44 ∷ 0x47 ∷ 0 ∷ 1 ∷ []

-- the number of the bytes of a datagram, and then they
abbrev pub record_of : List ℕ → List ℕ
record_of bytes = in_bytes 2 (length bytes) ++ bytes

-- a datagram, whatever it says
pub record IsDatagram (bytes : List ℕ) : Type 0 where
  pub short : length bytes < 2 ^ 16
  pub octets : AllByRecursion IsByte bytes

-- the bytes are the file of these datagrams
pub record IsFileOf (bytes : List ℕ) (datagrams : List (List ℕ)) : Type 0 where
  pub valid : AllByRecursion IsDatagram datagrams
  pub bytes_are : bytes ≡ file_header ++ flat_map record_of datagrams

-- a datagram file as a framed file of records, in any order
abbrev pub file_frame : Frame (List ℕ) ⊤
file_frame = record {
  header = λ told. file_header;
  item = λ told d. record_of d;
  end = λ count. [];
  IsItem = λ told d. IsDatagram d;
  AreInOrder = λ ds. ⊤;
}

-- the bytes are the file of these datagrams, at most so many
abbrev pub IsFileWithin : ℕ → List ℕ → List (List ℕ) → Type 0
IsFileWithin = IsWhole file_frame
