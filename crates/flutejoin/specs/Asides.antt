-- Bytes that are put aside, and runs: journals that are put aside.
use Rattle.std.specs.Prelude.{◌≡◌, ◌⊎◌, ◌≤◌, ◌<◌, ◌+◌, ◌++◌, ◌^◌, ℕ, List, [], ◌∷◌, length}
use Rattle.std.specs.Prelude.{Option, Some, IfSome, Result, IfErr}
use Rattle.flute_parts.specs.Facts.{Same}
use Rattle.flute_parts.specs.declared.fact.Fact.{Fact}
use Rattle.flute_journal.specs.Journal.{IsJournalWithin}
use Rattle.flute_streams.specs.OwnedStreams.{left_in, owned_behaviour, owned_limit}
use Rattle.flute_streams.specs.Streams.{IsNew}
use Rattle.flute_streams.specs.declared.streams.owned_journal_stream.OwnedJournalStream.{OwnedJournalStream}
use Rattle.flutejoin.specs.declared.command_fault.CommandFault.{CommandFault}
use Rattle.flutejoin.specs.declared.command_fault.CommandFault.TheVariants.{CannotWrite}
use Rattle.flutejoin.specs.declared.command_fault.CommandFault.TheVariants.{OutOfMemory}
use Rattle.flutejoin.specs.declared.command_fault.CommandFault.TheVariants.{CannotPutAside}

-- an input has the bytes that were put aside, if they are known
abbrev pub HasAside : Option (List ℕ) → Option (List ℕ) → Type 0
HasAside aside input = IfSome aside (λ bytes. input ≡ Some bytes)

-- why they cannot be read again
abbrev pub IsNotAgain : CommandFault → Type 0
IsNotAgain fault = (fault ≡ CannotWrite) ⊎ (fault ≡ OutOfMemory)

-- something was to be put aside, if that could not be done
abbrev pub Makes : {T : Type 0} → ℕ → ℕ → Result T CommandFault → Type 0
Makes old new result =
    (old ≤ new) × IfErr result (λ fault. fault ≡ CannotPutAside → old < new)

-- something was put aside for each run more
abbrev pub PutsAside : {R : Type 0} → ℕ → ℕ → List R → List R → Type 0
PutsAside old new before now = length now + old ≤ length before + new

module _ {R : Type 0} (unread : R → Option (List ℕ)) (buffered : R → List ℕ) where
  -- a run reads the journal of these entries
  abbrev pub IsRunOf : OwnedJournalStream R → List Fact → Type 0
  IsRunOf run entries =
      (bytes : List ℕ) × (left_in unread buffered run ≡ Some bytes)
      × IsJournalWithin (owned_limit run) bytes entries

  -- runs read journals of these facts together
  abbrev pub AreRunsOf : List (OwnedJournalStream R) → List Fact → Type 0
  AreRunsOf [] told = told ≡ []
  AreRunsOf (run ∷ runs) told =
      (own : List Fact) × (others : List Fact) × IsRunOf run own × (told ≡ own ++ others)
      × AreRunsOf runs others

  -- runs read journals that have the same facts as these
  abbrev pub HoldTogether : List (OwnedJournalStream R) → List Fact → Type 0
  HoldTogether runs facts = (own : List Fact) × AreRunsOf runs own × Same own facts

  -- these facts are held: in a store, and in runs
  abbrev pub AreHeld : List Fact → List (OwnedJournalStream R) → List Fact → Type 0
  AreHeld store runs facts = (aside : List Fact) × AreRunsOf runs aside × (facts ≡ store ++ aside)

  -- nothing of a run was read yet, and it has at most so many entries
  abbrev pub IsNewRun : (R → ℕ) → OwnedJournalStream R → Type 0
  IsNewRun failures run =
      IsNew (owned_behaviour unread buffered failures) run
      × ((owned_behaviour unread buffered failures).most run ≤ 2 ^ 57) × (owned_limit run ≤ 2 ^ 57)
