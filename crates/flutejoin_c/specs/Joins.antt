-- What is given of inputs that are joined.
use Rattle.std.specs.Prelude.{◌≡◌, ◌⊎◌, ◌≤◌, ℕ, ◌==◌, List, [], ◌∷◌, length, Option, true}
use Rattle.std.specs.Prelude.{if◌then◌else◌}
use Rattle.flutejoin.specs.JoinFaults.{JoinToFails}
use Rattle.flutejoin.specs.Joined.{Choice}
use Rattle.flutejoin.specs.Joining.{JoinsTo}
use Rattle.flutejoin.specs.Limits.{Limits}
use Rattle.flutejoin.specs.declared.command_fault.CommandFault.{CommandFault}
use Rattle.flutejoin.specs.declared.command_fault.CommandFault.TheVariants.{OutOfMemory}
use Rattle.flutejoin.specs.declared.join.join_counts.JoinCounts.{JoinCounts}
use Rattle.flutejoin.specs.declared.limits.TheConstants.{MAX_ENTRIES}
use Rattle.flutejoin_c.specs.Calls.{IsTooLong, most_for}
use Rattle.flutejoin_c.specs.Names.{wide}
use Rattle.flutejoin_c.specs.declared.join.CountFields.{CountFields}
use Rattle.flutejoin_c.specs.declared.join.OptionFields.{OptionFields}

-- all objects, within limits
abbrev pub all_of : Limits → ℕ → Choice
all_of most sender = record { most = most; sender = sender; takes = λ _. true }

-- the sender and the limits of these options
abbrev pub choice_in : OptionFields → Choice
choice_in f = all_of (most_for f.any_size) (wide f.sender)

-- both inputs, or the second alone if the first has no bytes
abbrev pub inputs_of : List ℕ → List ℕ → List (List ℕ)
inputs_of first second =
    if length first == 0 then second ∷ [] else first ∷ second ∷ []

-- the numbers that are told of a join
abbrev pub told_of : JoinCounts → CountFields
told_of counts = record {
  datagrams = counts.datagrams;
  refused = counts.refused;
  entries = counts.entries;
}

-- the journal of all that inputs contain was appended, of no more entries than the commands read,
-- and these are its numbers
abbrev pub Joins : Choice → List (List ℕ) → CountFields
    → Option (List ℕ) → Option (List ℕ) → Type 0
Joins choice inputs told old new =
    (counts : JoinCounts) × JoinsTo choice inputs counts old new
    × (counts.entries ≤ MAX_ENTRIES) × (told ≡ told_of counts)

-- why inputs in memory are not joined; memory is asked for in all cases
abbrev pub NotJoined : Choice → List (List ℕ) → CommandFault → Type 0
NotJoined choice inputs fault = (fault ≡ OutOfMemory) ⊎ JoinToFails choice inputs fault

-- or there are too many entries
abbrev pub JoinCallFails : Choice → List (List ℕ) → CommandFault → Type 0
JoinCallFails choice inputs fault =
    NotJoined choice inputs fault
    ⊎ IsTooLong (λ count old new. (counts : JoinCounts) × JoinsTo choice inputs counts old new
    × (count ≡ counts.entries)) fault
