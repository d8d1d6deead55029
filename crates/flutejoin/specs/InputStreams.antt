-- The inputs of a join as streams, and how often their sources failed.
use Rattle.std.specs.Prelude.{◌≡◌, ℕ, ◌+◌, List, [], length, slice_get, Option, Some, None}
use Rattle.flute_parts.specs.declared.fact.Fact.{Fact}
use Rattle.flute_streams.specs.declared.streams.chosen.Chosen.{Chosen}
use Rattle.flute_journal.specs.declared.fault.LoadFault.{LoadFault}
use Rattle.flute_streams.specs.declared.streams.owned_journal_stream.OwnedJournalStream.{OwnedJournalStream}
use Rattle.flute_streams.specs.declared.choice.objects.Objects.{Objects}
use Rattle.flute_streams.specs.ChosenStreams.{chosen_behaviour}
use Rattle.flute_streams.specs.OwnedStreams.{left_in, owned_behaviour}
use Rattle.flute_streams.specs.Objects.{of_objects}
use Rattle.flute_streams.specs.Streams.{Behaviour}
use Rattle.flutejoin.specs.declared.join.join_input.JoinInput.{JoinInput}
use Rattle.flutejoin.specs.declared.join.join_input.JoinInput.TheVariants.{Journal, Datagrams}
use Rattle.flutejoin.specs.declared.join.join_input.JoinInput.TheVariants.{Unknown}
use Rattle.flutejoin.specs.declared.join.peeked_source.PeekedSource.{PeekedSource}
use Rattle.flutejoin.specs.JoinInputs.{buffer_of, left}

-- a journal of which some objects are taken
abbrev pub JournalInput : Type 0 → Type 0
JournalInput R = Chosen (OwnedJournalStream (PeekedSource R)) Objects

-- how many entries of an input were passed over
abbrev pub passed_over : {R : Type 0} → JoinInput R → ℕ
passed_over (Journal journal) = journal.others
passed_over (Datagrams source) = 0
passed_over Unknown = 0

-- what is left of a journal behind the entry that it holds
abbrev pub left_of_journal : {R : Type 0} → (R → Option (List ℕ)) → (R → List ℕ)
    → JournalInput R → Option (List ℕ)
left_of_journal unread buffered journal =
    left_in (left unread) (buffer_of buffered) journal.stream

module _ {R : Type 0} (unread : R → Option (List ℕ)) (buffered : R → List ℕ) (failures : R → ℕ)
  where
    -- what is said of a journal as a stream
    abbrev pub journal_behaviour : Behaviour (JournalInput R)
    journal_behaviour =
        chosen_behaviour of_objects
        (owned_behaviour (left unread) (buffer_of buffered) (λ source. failures source.source))

    -- the entry that an input holds: no other than a journal holds any
    abbrev pub held_input : JoinInput R → Option Fact
    held_input (Journal journal) = journal_behaviour.held journal
    held_input (Datagrams source) = None
    held_input Unknown = None

    abbrev pub spelled_input : JoinInput R → List ℕ
    spelled_input (Journal journal) = journal_behaviour.spelled journal
    spelled_input (Datagrams source) = []
    spelled_input Unknown = []

    abbrev pub most_input : JoinInput R → ℕ
    most_input (Journal journal) = journal_behaviour.most journal
    most_input (Datagrams source) = 0
    most_input Unknown = 0

    abbrev pub stops_input : JoinInput R → LoadFault → Type 0
    stops_input (Journal journal) fault = journal_behaviour.stops journal fault
    stops_input (Datagrams source) fault = ⊥
    stops_input Unknown fault = ⊥

    -- the facts of a journal; of another input, none
    abbrev pub of_entries : (JournalInput R → List Fact → Type 0) → JoinInput R → List Fact
        → Type 0
    of_entries P (Journal journal) F = P journal F
    of_entries P (Datagrams source) F = F ≡ []
    of_entries P Unknown F = F ≡ []

    -- P holds of two states of a journal; any other input is unchanged, and gives nothing
    abbrev pub of_states : {X : Type 0} → (JournalInput R → JournalInput R → X → Type 0) → X
        → JoinInput R → JoinInput R → X → Type 0
    of_states P nothing (Journal start) (Journal now) x = P start now x
    of_states P nothing (Datagrams start) (Datagrams now) x = (now ≡ start) × (x ≡ nothing)
    of_states P nothing Unknown Unknown x = x ≡ nothing
    of_states P nothing _ _ x = ⊥

    -- what is said of an input as a stream
    abbrev pub input_behaviour : Behaviour (JoinInput R)
    input_behaviour = record {
      held = held_input;
      spelled = spelled_input;
      most = most_input;
      tells = of_entries journal_behaviour.tells;
      knows = of_entries journal_behaviour.knows;
      stops = stops_input;
      passes = of_states journal_behaviour.passes [];
      reads = of_states journal_behaviour.reads [];
      fails = of_states journal_behaviour.fails None;
      ends = of_states journal_behaviour.ends [];
    }

module _ {R : Type 0} (failures : R → ℕ) where
  -- how often the source of an input failed
  abbrev pub failures_of : JoinInput R → ℕ
  failures_of (Journal journal) = failures journal.stream.source.source
  failures_of (Datagrams source) = failures source.source
  failures_of Unknown = 0

  -- no source failed
  pub record NoneFailed (old new : List (JoinInput R)) : Type 0 where
    pub as_many : length new ≡ length old
    pub each : (k : ℕ) (before after : JoinInput R) → slice_get old k ≡ Some before
        → slice_get new k ≡ Some after → failures_of after ≡ failures_of before

  -- the source of the input with this number, from 1, failed once
  pub record OneFailed (number : ℕ) (old new : List (JoinInput R)) : Type 0 where
    pub place : ℕ
    pub number_is : number ≡ place + 1
    pub before : JoinInput R
    pub after : JoinInput R
    pub was : slice_get old place ≡ Some before
    pub is : slice_get new place ≡ Some after
    pub failed : failures_of after ≡ failures_of before + 1
