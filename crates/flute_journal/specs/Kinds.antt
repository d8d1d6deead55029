-- What a file holds, by its first four bytes.
use Rattle.std.specs.Prelude.{◌≡◌, ℕ, List, [], ◌∷◌, take}
use Rattle.flute_journal.specs.declared.kind.Kind.{Kind}
use Rattle.flute_journal.specs.declared.kind.Kind.TheVariants.{Journal, Datagrams}

-- `FLJN`, and `FLDG`
abbrev pub journal_magic : List ℕ
journal_magic = 0x46 ∷ 0x4C ∷ 0x4A ∷ 0x4E ∷ []

-- the first four bytes of a datagram file
abbrev pub file_magic : List ℕ
file_magic = 0x46 ∷ 0x4C ∷ 0x44 ∷ 0x47 ∷ []

-- the bytes begin as a journal does, or as a datagram file
abbrev pub HasKind : Kind → List ℕ → Type 0
HasKind Journal bytes = take 4 bytes ≡ journal_magic
HasKind Datagrams bytes = take 4 bytes ≡ file_magic

-- the bytes begin neither as a journal nor as a datagram file
abbrev pub IsNeither : List ℕ → Type 0
IsNeither bytes = (kind : Kind) → ¬ HasKind kind bytes
