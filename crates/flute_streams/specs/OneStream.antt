-- One stream, written as a journal.
use Rattle.std.specs.Prelude.{ℕ, List, Option, Some, None, ⊤, Result, Err}
use Rattle.std.specs.Io.KnownBytes.{Appends}
use Rattle.flute_parts.specs.declared.fact.Fact.{Fact}
use Rattle.flute_journal.specs.Journal.{Journal, IsJournal}
use Rattle.flute_journal.specs.JournalWriters.{WritesJournal}
use Rattle.flute_journal.specs.Prefixes.{IsProperPrefix}
use Rattle.flute_streams.specs.Streams.{Behaviour}
use Rattle.flute_streams.specs.declared.merge.streams_fault.StreamsFault.{StreamsFault}
use Rattle.flute_streams.specs.declared.merge.streams_fault.StreamsFault.TheVariants.{Input, Write}

module _ {S : Type 0} (b : Behaviour S) where
  -- it gave some facts and ended, and their journal was written, which has so many entries
  pub record WritesAll (start now : S) (old new : Option (List ℕ)) (count : ℕ) : Type 0 where
    pub facts : List Fact
    pub tells : b.tells start facts
    pub ends : b.ends start now facts
    pub writes : WritesJournal old new facts count

  -- What was appended is no journal of any version. If all its facts are known, it is a proper
  -- prefix of their journal.
  pub record WritesPart (start : S) (old new : Option (List ℕ)) : Type 0 where
    pub bytes : List ℕ
    pub appended : Appends old new bytes
    pub no_journal : (facts : List Fact) → IsJournal bytes facts → ⊥
    pub prefix : (known : List Fact) → b.knows start known → (whole : List ℕ)
        → Journal whole known → IsProperPrefix bytes whole

  -- the fault that is reported of it is its own
  abbrev pub StopsAs : S → StreamsFault → Type 0
  StopsAs start (Input fault) = b.stops start fault.fault
  StopsAs start Write = ⊤

  -- its device failed as the reported fault says
  abbrev pub FailsAs : S → S → Result ℕ StreamsFault → Type 0
  FailsAs start now (Err (Input fault)) = b.fails start now (Some fault.fault)
  FailsAs start now _ = b.fails start now None
