-- What a step leaves, done or refused.
use Rattle.std.specs.Prelude.{◌≡◌, ◌≢◌, ℕ, ◌<◌, List, ⊤, ◌⊎◌, length}
use Rattle.std.specs.List.{AllByRecursion}
use Rattle.flute_parts.specs.declared.fact.Fact.{Fact}
use Rattle.flute_parts.specs.Facts.{Same, IsRising}
use Rattle.flute_wire.specs.Reading.{facts}
use Rattle.flute_store.specs.Held.{HasCell}
use Rattle.flute_journal.specs.declared.fault.ReadFault.{ReadFault}
use Rattle.flute_journal.specs.Framing.{Stops}
use Rattle.flute_journal.specs.JournalFraming.{journal_framing}
use Rattle.flute_journal.specs.Stores.{BeginsOver}
use Rattle.flutejoin_replicas.specs.declared.steps.Step.{Step}
use Rattle.flutejoin_replicas.specs.declared.steps.Step.TheVariants.{Take, Load, Add, Merge, Reopen}
use Rattle.flutejoin_replicas.specs.declared.steps.StepFault.{StepFault}
use Rattle.flutejoin_replicas.specs.declared.steps.StepFault.TheVariants.{NoReplica, Journal, Full}
use Rattle.flutejoin_replicas.specs.declared.steps.StepFault.TheVariants.{OutOfMemory}
use Rattle.flutejoin.specs.declared.limits.TheConstants.{MAX_ENTRIES}
use Rattle.flutejoin_replicas.specs.Held.{Held, Capacity, IsOver}
use Rattle.flutejoin_replicas.specs.Steps.{held_by, held_after_step, NamesReplicas, target_of}
use Rattle.flutejoin_replicas.specs.Steps.{LoadsJournal, FitsStep, EachSame, EachBelow}
use Rattle.flutejoin_replicas.specs.Counts.{CountsRefused}

-- the facts have more than so many addresses: the rising list that is the same has more facts
pub record IsLonger (F : List Fact) (limit : ℕ) : Type 0 where
  pub entries : List Fact
  pub rising : IsRising entries
  pub same : Same F entries
  pub many : limit < length entries

-- a `Reopen` is of a replica at no more addresses than a journal may have entries
abbrev pub WritesWithin : List (List Fact) → Step → Type 0
WritesWithin held (Reopen replica) = ¬ IsLonger (held_by held replica) MAX_ENTRIES
WritesWithin held (Take replica sender datagram) = ⊤
WritesWithin held (Load replica journal) = ⊤
WritesWithin held (Add replica fact) = ⊤
WritesWithin held (Merge into from) = ⊤

-- a step that succeeded, from what was held to what is held now, in stores of a capacity
pub record IsDone (capacity : Capacity) (before : Held) (step : Step) (now : Held) : Type 0 where
  -- it names replicas that are there
  pub named : NamesReplicas (length before.contents) step
  pub as_many : length now.contents ≡ length before.contents
  -- a `Load` read a journal within the bound
  pub journal : LoadsJournal MAX_ENTRIES step
  -- a `Reopen` wrote a journal within the bound
  pub readable : WritesWithin before.contents step
  -- each replica has what it had and what the step gives
  pub content : (origin : List Fact) → FitsStep step origin
      → EachSame (held_after_step before.contents step origin) now.contents
  -- the replicas that the step does not change are as they were
  pub others : (r : ℕ) → r ≢ target_of step → held_by now.contents r
      ≡ held_by before.contents r
  -- refused datagrams are counted
  pub refused : CountsRefused step before.refused now.refused
  -- the replica changed is within its capacity
  pub within : ¬ IsOver (held_by now.contents (target_of step)) capacity

-- a journal's reader gives this fault at a `Load`, after entries within the capacity,
-- or at a `Reopen`
abbrev pub IsReadFault : Capacity → List (List Fact) → Step → ReadFault → Type 0
IsReadFault capacity held (Load replica journal) fault =
    (entries : List Fact) × Stops journal_framing journal MAX_ENTRIES entries fault
    × ¬ IsOver entries capacity
IsReadFault capacity held (Reopen replica) fault =
    (fault ≡ ReadFault.TooMany) × IsLonger (held_by held replica) MAX_ENTRIES
IsReadFault capacity held (Take replica sender datagram) fault = ⊥
IsReadFault capacity held (Add replica fact) fault = ⊥
IsReadFault capacity held (Merge into from) fault = ⊥

-- a `Load` begins with entries that are over the capacity
abbrev pub LoadsOver : Capacity → Step → Type 0
LoadsOver capacity (Load replica journal) =
    BeginsOver capacity.sessions capacity.objects capacity.symbols MAX_ENTRIES journal
LoadsOver capacity (Take replica sender datagram) = ⊥
LoadsOver capacity (Add replica fact) = ⊥
LoadsOver capacity (Merge into from) = ⊥
LoadsOver capacity (Reopen replica) = ⊥

-- a step has a cause for its fault, by what is held before it
abbrev pub HasCause : Capacity → List (List Fact) → Step → List Fact → StepFault → Type 0
HasCause capacity held step origin NoReplica = ¬ NamesReplicas (length held) step
HasCause capacity held step origin (Journal fault) = IsReadFault capacity held step fault
HasCause capacity held step origin Full =
    IsOver (held_by (held_after_step held step origin) (target_of step)) capacity
    ⊎ LoadsOver capacity step
HasCause capacity held step origin OutOfMemory = ⊤

-- a refusal by a fault that leaves everything unchanged, whatever the step
abbrev pub IsHarmless : Step → StepFault → Type 0
IsHarmless step NoReplica = ⊤
IsHarmless step (Journal fault) = ⊤
IsHarmless (Take replica sender datagram) fault = ⊤
IsHarmless (Add replica fact) fault = ⊤
IsHarmless (Reopen replica) fault = ⊤
IsHarmless (Load replica journal) Full = ⊥
IsHarmless (Load replica journal) OutOfMemory = ⊥
IsHarmless (Merge into from) Full = ⊥
IsHarmless (Merge into from) OutOfMemory = ⊥

-- a step that was refused
pub record IsRefused (capacity : Capacity) (before : Held) (step : Step) (now : Held)
    (fault : StepFault) : Type 0 where
  pub cause : (origin : List Fact) → FitsStep step origin
      → HasCause capacity before.contents step origin fault
  -- nothing that was held is lost
  pub kept : EachBelow before.contents now.contents
  -- nothing came but what the step gives
  pub no_more : (origin : List Fact) → FitsStep step origin
      → EachBelow now.contents (held_after_step before.contents step origin)
  pub others : (r : ℕ) → r ≢ target_of step → held_by now.contents r
      ≡ held_by before.contents r
  pub refused : now.refused ≡ before.refused
  pub unchanged : IsHarmless step fault → now ≡ before

-- A step that takes no memory, and so succeeds: all that a `Take` or an `Add` gives is in cells
-- that are held (a refused datagram gives nothing), or a `Merge` is of a replica into itself.
abbrev pub NeedsNothing : List (List Fact) → Step → Type 0
NeedsNothing held (Take replica sender datagram) =
    (replica < length held)
    × AllByRecursion (HasCell (held_by held replica)) (facts sender datagram)
NeedsNothing held (Add replica fact) = (replica < length held)
    × HasCell (held_by held replica) fact
NeedsNothing held (Merge into from) = (into < length held) × (into ≡ from)
NeedsNothing held (Load replica journal) = ⊥
NeedsNothing held (Reopen replica) = ⊥
