-- The outcome of a merge of streams.
use Rattle.std.specs.Prelude.{◌≡◌, ℕ, zero, suc, Bool, true, false, List, [], ◌∷◌}
use Rattle.std.specs.Prelude.{◌++◌, Option, Some, None, ⊤, Result, Err, slice_get}
use Rattle.std.specs.Io.KnownBytes.{Appends}
use Rattle.flute_parts.specs.declared.fact.Fact.{Fact}
use Rattle.flute_parts.specs.declared.tally.Tally.{Tally}
use Rattle.flute_parts.specs.Facts.{Same}
use Rattle.flute_parts.specs.Limits.{Over}
use Rattle.flute_parts.specs.Tally.{Counts}
use Rattle.flute_journal.specs.declared.fault.LoadFault.{LoadFault}
use Rattle.flute_streams.specs.declared.merge.all_streams.MergedJournal.{MergedJournal}
use Rattle.flute_streams.specs.declared.merge.streams_fault.StreamsFault.{StreamsFault}
use Rattle.flute_streams.specs.declared.merge.streams_fault.StreamsFault.TheVariants.{Input, Write}
use Rattle.flute_journal.specs.Journal.{Collects, Journal, IsJournal}
use Rattle.flute_journal.specs.JournalWriters.{PutsJournal, Written}
use Rattle.flute_journal.specs.Prefixes.{IsCutAfter, IsProperPrefix, written_up_to}
use Rattle.flute_streams.specs.Streams.{Behaviour, Gave}

-- all the facts of lists of facts
abbrev pub all_of : List (List Fact) → List Fact
all_of [] = []
all_of (F ∷ given) = F ++ all_of given

-- how often the sink failed in a merge that gave this
abbrev pub streams_sink_failed : {T : Type 0} → Result T StreamsFault → ℕ
streams_sink_failed (Err Write) = 1
streams_sink_failed _ = 0

-- whether facts are within the limits of a store: so many sessions, objects of each and symbols
-- of each of these
abbrev pub IsWithinLimits : ℕ → ℕ → ℕ → List Fact → Bool → Type 0
IsWithinLimits s o y F true = ¬ Over F s o y
IsWithinLimits s o y F false = Over F s o y

-- the facts are counted, or over the limits
abbrev pub IsCounted : (s o y : ℕ) → Tally s o y → Bool → List Fact → Type 0
IsCounted s o y tally true F = Counts s o y F tally
IsCounted s o y tally false F = Over F s o y

-- of each input this holds with the facts at its place
abbrev pub Each : {S : Type 0} → (S → List Fact → Type 0) → List S → List (List Fact) → Type 0
Each P [] [] = Unit {0}
Each P (s ∷ streams) (F ∷ given) = P s F × Each P streams given
Each P _ _ = ⊥

-- P holds of each input, of its state before and now, with the list of facts at its place
abbrev pub EachSince : {S : Type 0} → (S → S → List Fact → Type 0) → List S → List S
    → List (List Fact) → Type 0
EachSince P [] [] [] = Unit {0}
EachSince P (s ∷ old) (t ∷ new) (F ∷ given) = P s t F × EachSince P old new given
EachSince P _ _ _ = ⊥

-- these are the entries that the bytes of a merge that stopped have whole: nothing follows them
-- if an input stopped
abbrev pub BeginWith : StreamsFault → List ℕ → List Fact → Type 0
BeginWith Write bytes entries = IsCutAfter entries bytes
BeginWith (Input fault) bytes entries = bytes ≡ written_up_to entries

-- what was appended is the journal of nothing, in any version
pub record AppendsNoJournal (old new : Option (List ℕ)) : Type 0 where
  pub bytes : List ℕ
  pub appended : Appends old new bytes
  pub no_journal : (facts : List Fact) → IsJournal bytes facts → ⊥

module _ {S : Type 0} (b : Behaviour S) where
  -- no input failed
  abbrev pub NoneFails : List S → List S → Type 0
  NoneFails [] [] = Unit {0}
  NoneFails (s ∷ old) (t ∷ new) = b.fails s t None × NoneFails old new
  NoneFails _ _ = ⊥

  -- the input with this number failed as the fault says, and no other did
  abbrev pub OneFails : ℕ → LoadFault → List S → List S → Type 0
  OneFails zero fault (s ∷ old) (t ∷ new) = b.fails s t (Some fault) × NoneFails old new
  OneFails (suc number) fault (s ∷ old) (t ∷ new) = b.fails s t None × OneFails number fault old new
  OneFails _ fault _ _ = ⊥

  -- which stream failed, by the result of a merge; else none did
  abbrev pub FailAs : {T : Type 0} → Result T StreamsFault → List S → List S → Type 0
  FailAs (Err (Input fault)) old new = OneFails fault.number fault.fault old new
  FailAs _ old new = NoneFails old new

  -- each input before this number has given some facts, and can be read on
  abbrev pub GaveBefore : ℕ → List S → List S → Type 0
  GaveBefore zero old new = Unit {0}
  GaveBefore (suc number) (s ∷ old) (t ∷ new) =
      ((F : List Fact) × Gave b s t F) × GaveBefore number old new
  GaveBefore (suc number) _ _ = ⊥

  -- each input before the one that stopped has given some facts, and can be read on
  abbrev pub CanGoOn : List S → List S → StreamsFault → Type 0
  CanGoOn old new (Input fault) = GaveBefore fault.number old new
  CanGoOn old new Write = Unit {0}

  -- Each input contains some facts. The journal of all of them was appended, or a part of it,
  -- with so many entries, and it is known whether they are within the limits of a store.
  -- Any other facts with the same value at each address, such as what joins of groups of the
  -- inputs wrote, have the same journal.
  pub record MergedAll (inputs : List S) (s o y : ℕ) (joined : MergedJournal)
      (old new : Option (List ℕ)) : Type 0 where
    pub told : List (List Fact)
    pub tell : Each b.tells inputs told
    pub limits : IsWithinLimits s o y (all_of told) joined.within
    pub puts : PutsJournal joined.cut old new (all_of told) joined.entries
    pub as_others : (others : List Fact) → Same (all_of told) others → (bytes : List ℕ)
        → Journal bytes others → Written joined.cut old new bytes

  -- all were merged, and each input ended once it had given all its facts
  pub record EndsMerged (inputs now : List S) (s o y : ℕ) (joined : MergedJournal)
      (old new : Option (List ℕ)) : Type 0 where
    pub merged : MergedAll inputs s o y joined old new
    pub ends : EachSince b.ends inputs now merged.told

  -- What was appended is the journal of nothing, in any version. If all the facts of each input
  -- are known, it is a proper prefix of the journal of all of them.
  pub record AppendsPartOf (inputs : List S) (old new : Option (List ℕ)) : Type 0 where
    pub bytes : List ℕ
    pub appended : Appends old new bytes
    pub no_journal : (facts : List Fact) → IsJournal bytes facts → ⊥
    pub prefix : (known : List (List Fact)) → Each b.knows inputs known → (whole : List ℕ)
        → Journal whole (all_of known) → IsProperPrefix bytes whole

  -- Of each input these facts were read, and at most one more; their merged facts were appended.
  pub record ReadsAhead (inputs now : List S) (old new : Option (List ℕ))
      (fault : StreamsFault) : Type 0 where
    pub read : List (List Fact)
    pub reads : EachSince b.reads inputs now read
    pub entries : List Fact
    pub collects : Collects (all_of read) entries
    pub bytes : List ℕ
    pub appended : Appends old new bytes
    pub begins : BeginWith fault bytes entries

  -- the fault that is reported of an input is its own
  abbrev pub NamesInput : List S → StreamsFault → Type 0
  NamesInput inputs (Input fault) =
      (s : S) × (slice_get inputs fault.number ≡ Some s) × b.stops s fault.fault
  NamesInput inputs Write = ⊤
