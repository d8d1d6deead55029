-- What a step gives to the replicas, as lists of facts.
use Rattle.std.specs.Prelude.{◌≡◌, ℕ, ◌<◌, List, [], ◌∷◌, ◌++◌, ⊤, ◌⊎◌, length, slice_set}
use Rattle.std.specs.Prelude.{slice_index_or}
use Rattle.flute_parts.specs.declared.fact.Fact.{Fact}
use Rattle.flute_parts.specs.Facts.{Same, Below}
use Rattle.flute_wire.specs.Reading.{facts}
use Rattle.flute_journal.specs.Journal.{IsJournal, IsJournalWithin}
use Rattle.flutejoin_replicas.specs.declared.steps.Step.{Step}
use Rattle.flutejoin_replicas.specs.declared.steps.Step.TheVariants.{Take, Load, Add, Merge, Reopen}

-- what replica r holds, nothing if there is no such replica
abbrev pub held_by : List (List Fact) → ℕ → List Fact
held_by held r = slice_index_or held r []

-- the facts held once replica r was given more, if there is such a replica
abbrev pub given_to : List (List Fact) → ℕ → List Fact → List (List Fact)
given_to held r more = slice_set held r (held_by held r ++ more)

-- the facts held after a step; origin is the list of which a `Load` reads a journal
abbrev pub held_after_step : List (List Fact) → Step → List Fact → List (List Fact)
held_after_step held (Take replica sender datagram) origin =
    given_to held replica (facts sender datagram)
held_after_step held (Load replica journal) origin = given_to held replica origin
held_after_step held (Add replica fact) origin = given_to held replica (fact ∷ [])
held_after_step held (Merge into from) origin = given_to held into (held_by held from)
held_after_step held (Reopen replica) origin = held

-- the step names replicas that are there
abbrev pub NamesReplicas : ℕ → Step → Type 0
NamesReplicas count (Take replica sender datagram) = replica < count
NamesReplicas count (Load replica journal) = replica < count
NamesReplicas count (Add replica fact) = replica < count
NamesReplicas count (Merge into from) = (into < count) × (from < count)
NamesReplicas count (Reopen replica) = replica < count

-- the replica that a step may change
abbrev pub target_of : Step → ℕ
target_of (Take replica sender datagram) = replica
target_of (Load replica journal) = replica
target_of (Add replica fact) = replica
target_of (Merge into from) = into
target_of (Reopen replica) = replica

-- a `Load` reads a journal of at most so many entries
abbrev pub LoadsJournal : ℕ → Step → Type 0
LoadsJournal limit (Load replica journal) =
    (entries : List Fact) × IsJournalWithin limit journal entries
LoadsJournal limit (Take replica sender datagram) = ⊤
LoadsJournal limit (Add replica fact) = ⊤
LoadsJournal limit (Merge into from) = ⊤
LoadsJournal limit (Reopen replica) = ⊤

-- the origin fits the step: it is a list of which a `Load` reads a journal, and it is empty if
-- that reads no journal
abbrev pub FitsStep : Step → List Fact → Type 0
FitsStep (Load replica journal) origin =
    IsJournal journal origin ⊎ (((F : List Fact) → ¬ IsJournal journal F) × (origin ≡ []))
FitsStep (Take replica sender datagram) origin = ⊤
FitsStep (Add replica fact) origin = ⊤
FitsStep (Merge into from) origin = ⊤
FitsStep (Reopen replica) origin = ⊤

-- as many replicas, and of each the same facts
pub record EachSame (held now : List (List Fact)) : Type 0 where
  pub count : length held ≡ length now
  pub each : (r : ℕ) → Same (held_by held r) (held_by now r)

-- as many replicas, and each with the facts that it held and perhaps more
pub record EachBelow (held now : List (List Fact)) : Type 0 where
  pub count : length held ≡ length now
  pub each : (r : ℕ) → Below (held_by held r) (held_by now r)
