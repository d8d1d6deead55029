-- The outcome of a merge of two journals.
use Rattle.std.specs.Prelude.{◌≡◌, ℕ, List, ◌++◌, Option, Some, ⊤, IfSome, Result, Ok, Err}
use Rattle.std.specs.Io.KnownBytes.{Appends}
use Rattle.flute_parts.specs.declared.fact.Fact.{Fact}
use Rattle.flute_streams.specs.declared.merge.two_streams.MergeFault.{MergeFault}
use Rattle.flute_streams.specs.declared.merge.two_streams.MergeFault.TheVariants.{First, Second}
use Rattle.flute_streams.specs.declared.merge.two_streams.MergeFault.TheVariants.{Write}
use Rattle.flute_journal.specs.Input.{Fails}
use Rattle.flute_journal.specs.Journal.{Collects, Journal, IsJournal, IsJournalWithin}
use Rattle.flute_journal.specs.JournalFraming.{journal_framing}
use Rattle.flute_journal.specs.JournalWriters.{WritesJournal}
use Rattle.flute_journal.specs.Framing.{HasFault}
use Rattle.flute_journal.specs.Prefixes.{IsCutAfter, IsProperPrefix, ReadsEntries, written_up_to}

-- both inputs are journals of at most so many entries, and the journal of both was appended,
-- which has n entries
pub record Merged (limit n : ℕ) (first second old new : Option (List ℕ)) : Type 0 where
  pub first_entries : List Fact
  pub second_entries : List Fact
  pub first_is : IfSome first (λ xs. IsJournalWithin limit xs first_entries)
  pub second_is : IfSome second (λ ys. IsJournalWithin limit ys second_entries)
  pub writes : WritesJournal old new (first_entries ++ second_entries) n

-- what was appended is no journal of any version, and if both inputs are, it is a proper prefix
-- of the journal of both
pub record StopsShort (first second old new : Option (List ℕ)) : Type 0 where
  pub bytes : List ℕ
  pub appended : Appends old new bytes
  pub no_journal : (facts : List Fact) → IsJournal bytes facts → ⊥
  pub prefix : (xs ys whole : List ℕ) (F G : List Fact) → first ≡ Some xs → second ≡ Some ys
      → IsJournal xs F → IsJournal ys G → Journal whole (F ++ G) → IsProperPrefix bytes whole

-- these are the entries that the bytes have whole: nothing follows them if an input was at fault,
-- and if the sink failed it did so before all of what follows was written
abbrev pub AppendedUpTo : MergeFault → List ℕ → List Fact → Type 0
AppendedUpTo Write bytes entries = IsCutAfter entries bytes
AppendedUpTo fault bytes entries = bytes ≡ written_up_to entries

-- What was read, and what was appended: whole entries of both inputs and at most one more of each,
-- and all facts of the whole entries.
pub record KeepsUp (first first_left second second_left old new : Option (List ℕ))
    (fault : MergeFault) : Type 0 where
  pub first_entries : List Fact
  pub second_entries : List Fact
  pub first_read : ReadsEntries first first_left first_entries
  pub second_read : ReadsEntries second second_left second_entries
  pub entries : List Fact
  pub collects : Collects (first_entries ++ second_entries) entries
  pub bytes : List ℕ
  pub appended : Appends old new bytes
  pub begins : AppendedUpTo fault bytes entries

-- the fault that is reported of an input is that of its bytes, if bytes can have it
abbrev pub NamesFault : ℕ → Option (List ℕ) → Option (List ℕ) → MergeFault → Type 0
NamesFault limit first second (First f) = HasFault journal_framing limit first f
NamesFault limit first second (Second f) = HasFault journal_framing limit second f
NamesFault limit first second Write = ⊤

-- how often each device failed in a merge that gave this: a source only if its input is at fault
abbrev pub FirstFails : ℕ → ℕ → Result ℕ MergeFault → Type 0
FirstFails old new (Err (First f)) = Fails {T = Option Fact} old new (Err f)
FirstFails old new _ = new ≡ old

-- how often the second source failed, by the result of a merge
abbrev pub SecondFails : ℕ → ℕ → Result ℕ MergeFault → Type 0
SecondFails old new (Err (Second f)) = Fails {T = Option Fact} old new (Err f)
SecondFails old new _ = new ≡ old

-- how often the sink failed, by the result of a merge
abbrev pub sink_failed : Result ℕ MergeFault → ℕ
sink_failed (Err Write) = 1
sink_failed _ = 0

-- what holds of a merge that has stopped
pub record Stopped (limit : ℕ) (first first_left second second_left old new : Option (List ℕ))
    (fault : MergeFault) : Type 0 where
  pub short : StopsShort first second old new
  pub keeps_up : KeepsUp first first_left second second_left old new fault
  pub names : NamesFault limit first second fault

-- the result of a merge of two inputs, of which each ended or stopped
abbrev pub MergeGives : ℕ → Option (List ℕ) → Option (List ℕ) → Option (List ℕ) → Option (List ℕ)
    → Option (List ℕ) → Option (List ℕ) → Result ℕ MergeFault → Type 0
MergeGives limit first first_left second second_left old new (Ok n) =
    Merged limit n first second old new
MergeGives limit first first_left second second_left old new (Err f) =
    Stopped limit first first_left second second_left old new f
