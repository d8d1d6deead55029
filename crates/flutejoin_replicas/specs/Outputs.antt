-- What is written of a replica after a run.
use Rattle.std.specs.Prelude.{◌≡◌, ◌<◌, ◌≤◌, ℕ, List, Option, ⊤, Result, Ok, Err}
use Rattle.std.specs.Io.KnownBytes.{Appends}
use Rattle.flute_parts.specs.declared.key.Key.{Key}
use Rattle.flute_parts.specs.declared.fact.Fact.{Fact}
use Rattle.flute_parts.specs.Facts.{SameMembers}
use Rattle.flute_parts.specs.Devices.{AppendsPart}
use Rattle.flute_store.specs.Extract.{WritesWhole, TellsExtractFault}
use Rattle.flute_journal.specs.Journal.{Journal}
use Rattle.flute_journal.specs.JournalWriters.{WritesJournal}
use Rattle.flutejoin_replicas.specs.declared.steps.Step.{Step}
use Rattle.flute_store.specs.declared.extract.ExtractFault.TheVariants as extract
use Rattle.flutejoin_replicas.specs.declared.outputs.OutputFault.{OutputFault}
use Rattle.flutejoin_replicas.specs.declared.outputs.OutputFault.TheVariants.{Run, NoReplica, Save}
use Rattle.flutejoin_replicas.specs.declared.outputs.OutputFault.TheVariants.{Extract}
use Rattle.flutejoin_replicas.specs.Held.{Capacity}
use Rattle.flutejoin_replicas.specs.Known.{Fits, known_by}
use Rattle.flutejoin_replicas.specs.Runs.{IsRunRefused, StopsAtNeed}

module _ {W : Type 0} (written : W → Option (List ℕ)) (F : List Fact) (old new : W) where
  -- the journal of these facts was written, or after a failed write a prefix of it, or nothing
  abbrev pub TellsJournal : Result ℕ OutputFault → Type 0
  TellsJournal (Ok count) = WritesJournal (written old) (written new) F count
  TellsJournal (Err (Save f)) =
      (bytes : List ℕ) → Journal bytes F → AppendsPart (written old) (written new) bytes
  TellsJournal (Err (Extract f)) = ⊥
  TellsJournal (Err _) = new ≡ old

  -- the object that these facts make was written, or why not, or nothing
  abbrev pub TellsObject : Key → Result ℕ OutputFault → Type 0
  TellsObject key (Ok length) = WritesWhole written F key old new length
  TellsObject key (Err (Extract f)) = TellsExtractFault written F key old new f
  TellsObject key (Err (Save f)) = ⊥
  TellsObject key (Err _) = new ≡ old

-- The run stopped, with a fault that it has. Else there is no such replica; or there is one,
-- and its journal or the object was not written, or not all of it.
abbrev pub IsOutputFault : Capacity → ℕ → List Step → ℕ → OutputFault → Type 0
IsOutputFault capacity count steps replica (Run f) = IsRunRefused capacity count steps f
IsOutputFault capacity count steps replica NoReplica = count ≤ replica
IsOutputFault capacity count steps replica (Save f) = replica < count
IsOutputFault capacity count steps replica (Extract f) = replica < count

-- if it was the run that stopped, it stopped at a step that takes memory
abbrev pub IsOutputNeed : ℕ → List Step → OutputFault → Type 0
IsOutputNeed count steps (Run f) = StopsAtNeed count steps f
IsOutputNeed count steps _ = ⊤

-- Whatever other steps give a replica q the same facts, in whatever order, however often,
-- by whatever merges and journals: its journal is what was written of replica r.
abbrev pub WritesAsOthers : ℕ → List Step → ℕ → Option (List ℕ) → Option (List ℕ)
    → Type 0
WritesAsOthers count steps r old new =
    (m : ℕ) (others : List Step) (q : ℕ) (origins further : ℕ → List Fact)
    → Fits steps origins
    → Fits others further
    → SameMembers (known_by count steps origins r) (known_by m others further q)
    → (bytes : List ℕ) → Journal bytes (known_by m others further q) → Appends old new bytes

-- how often the sink failed in a call with this result: once, if it is a failure of the sink
abbrev pub output_failed : {T : Type 0} → Result T OutputFault → ℕ
output_failed (Err (Save f)) = 1
output_failed (Err (Extract extract.Write)) = 1
output_failed _ = 0
