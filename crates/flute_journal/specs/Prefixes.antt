-- Prefixes of journals: their whole entries, and what follows these.
use Rattle.std.specs.Prelude.{◌≡◌, ◌≢◌, ℕ, ◌≤◌, List, [], ◌∷◌, ◌++◌, length, Option}
use Rattle.std.specs.List.{AllByRecursion}
use Rattle.std.specs.Io.KnownBytes.{Consumes}
use Rattle.flute_parts.specs.declared.fact.Fact.{Fact}
use Rattle.flute_parts.specs.Ranges.{IsFact}
use Rattle.flute_journal.specs.declared.format.version.Version.{Version}
use Rattle.flute_journal.specs.Format.{header, entry, entry_in, end, without_end_in, without_end}
use Rattle.flute_journal.specs.Input.{IsWithin}
use Rattle.flute_journal.specs.Journal.{IsFactIn}

-- the bytes are a proper prefix of the others
abbrev pub IsProperPrefix : List ℕ → List ℕ → Type 0
IsProperPrefix bytes whole = (more : List ℕ) × (more ≢ []) × (bytes ++ more ≡ whole)

-- what is written up to these entries: the header comes with the first
abbrev pub written_up_to : List Fact → List ℕ
written_up_to [] = []
written_up_to (f ∷ fs) = without_end (f ∷ fs)

-- these entries are whole in the bytes, and what follows of the next entry or of the end is not;
-- or not even the header is
pub data IsCutAfter (entries : List Fact) (bytes : List ℕ) : Type 0 where
  cut_header : entries ≡ [] → IsProperPrefix bytes header → IsCutAfter entries bytes
  cut_entry : (next : Fact) → IsFact next → (part : List ℕ)
      → IsProperPrefix part (entry next)
      → bytes ≡ without_end entries ++ part → IsCutAfter entries bytes
  cut_end : (part : List ℕ) → IsProperPrefix part (end (length entries))
      → bytes ≡ without_end entries ++ part → IsCutAfter entries bytes

-- the bytes are no more than a header's, or these whole entries and then no byte
-- after one entry more
pub data EndsAfter (version : Version) (entries : List Fact) (bytes : List ℕ) : Type 0 where
  in_header : entries ≡ [] → length bytes ≤ length header → EndsAfter version entries bytes
  after_entries : (part : List ℕ) → bytes ≡ without_end_in version entries ++ part
      → IsWithin (entry_in version) (IsFactIn version) part → EndsAfter version entries bytes

-- these whole entries of an input were read, and at most one more
pub record ReadsEntries (input left : Option (List ℕ)) (entries : List Fact) : Type 0 where
  pub version : Version
  pub valid : AllByRecursion (IsFactIn version) entries
  pub bytes : List ℕ
  pub read : Consumes input left bytes
  pub ends : EndsAfter version entries bytes
