-- Why inputs are not joined.
use Rattle.std.specs.Prelude.{◌≡◌, ◌≢◌, ℕ, ◌+◌, List, ◌∷◌, ◌++◌, ◌≤◌, length, Some, ⊤, ◌⊎◌}
use Rattle.std.specs.List.{flat_map, AllByRecursion}
use Rattle.flute_journal.specs.JournalFraming.{journal_framing}
use Rattle.flute_journal.specs.Records.{IsFileWithin}
use Rattle.flute_journal.specs.FileFraming.{file_framing}
use Rattle.flute_journal.specs.Framing.{HasFault}
use Rattle.flute_journal.specs.declared.fault.ReadFault.{ReadFault}
use Rattle.flute_journal.specs.declared.fault.ReadFault.TheVariants.{Read}
use Rattle.flutejoin.specs.Limits.{IsOver}
use Rattle.flutejoin.specs.declared.limits.TheConstants.{MAX_ENTRIES}
use Rattle.flute_journal.specs.Kinds.{HasKind, IsNeither}
use Rattle.flute_journal.specs.declared.kind.Kind.TheVariants as kinds
use Rattle.flute_journal.specs.declared.kind.Kind.TheVariants.{Journal, Datagrams}
use Rattle.flutejoin.specs.declared.command_fault.CommandFault.{CommandFault}
use Rattle.flutejoin.specs.declared.command_fault.CommandFault.TheVariants.{UnknownKind, Input}
use Rattle.flutejoin.specs.declared.command_fault.CommandFault.TheVariants.{Full, OutOfMemory}
use Rattle.flutejoin.specs.declared.command_fault.CommandFault.TheVariants.{CannotWrite}
use Rattle.flutejoin.specs.declared.command_fault.CommandFault.TheVariants.{CannotPutAside}
use Rattle.flutejoin.specs.Joined.{InputContent, Choice, content_facts, Tells, TellAll}

-- the input with this number, from 1, has P, and all before it have Q
pub record FirstInput (Q P : List ℕ → Type 0) (number : ℕ) (inputs : List (List ℕ)) : Type 0
  where
    pub before : List (List ℕ)
    pub bytes : List ℕ
    pub after : List (List ℕ)
    pub split : inputs ≡ before ++ bytes ∷ after
    pub number_is : number ≡ length before + 1
    pub earlier : AllByRecursion Q before
    pub here : P bytes

-- a journal by its first bytes, or a datagram file
abbrev pub HasKnownKind : List ℕ → Type 0
HasKnownKind bytes =
    HasKind Journal bytes
    ⊎ ((datagrams : List (List ℕ)) × IsFileWithin MAX_ENTRIES bytes datagrams)

-- a valid journal or datagram file
abbrev pub IsValid : List ℕ → Type 0
IsValid bytes = (told : InputContent) × Tells bytes told

-- inputs whose facts together are over the limits
abbrev pub TellOver : Choice → List (List ℕ) → Type 0
TellOver choice inputs =
    (told : List InputContent) × TellAll inputs told
    × IsOver choice.most (flat_map (content_facts choice) told)

-- a journal, or a datagram file, with this fault; memory may run out at any entry or record
abbrev pub IsJournalAt : ReadFault → List ℕ → Type 0
IsJournalAt fault bytes =
    HasKind Journal bytes × HasFault journal_framing MAX_ENTRIES (Some bytes) fault
    × (fault ≢ Read)

-- the bytes are a datagram file with this fault, and no failed source
abbrev pub IsFileAt : ReadFault → List ℕ → Type 0
IsFileAt fault bytes =
    HasKind Datagrams bytes × HasFault file_framing MAX_ENTRIES (Some bytes) fault
    × (fault ≢ Read)

-- a journal or a datagram file by its first bytes
abbrev pub IsOfAKind : List ℕ → Type 0
IsOfAKind bytes = HasKind Journal bytes ⊎ HasKind Datagrams bytes

-- memory is asked for what an input contains, if it is of a kind and all before it are known
abbrev pub WantsMemory : List (List ℕ) → Type 0
WantsMemory inputs = (number : ℕ) × FirstInput HasKnownKind IsOfAKind number inputs

-- something is put aside of an input, if it is a datagram file and all before it are known
abbrev pub WantsAside : List (List ℕ) → Type 0
WantsAside inputs = (number : ℕ) × FirstInput HasKnownKind (HasKind Datagrams) number inputs

-- why inputs were not joined: the first that is of no known kind, or a datagram file at fault; else
-- the first that is a journal at fault; else all are over the limits together
abbrev pub JoinFails : Choice → List (List ℕ) → CommandFault → Type 0
JoinFails choice inputs (UnknownKind number) = FirstInput HasKnownKind IsNeither number inputs
JoinFails choice inputs (Input number fault) =
    FirstInput HasKnownKind (IsFileAt fault) number inputs
    ⊎ (AllByRecursion HasKnownKind inputs
    × FirstInput IsValid (IsJournalAt fault) number inputs)
JoinFails choice inputs Full = TellOver choice inputs
JoinFails choice inputs OutOfMemory = WantsMemory inputs
JoinFails choice inputs _ = ⊥

-- each contains facts, and all together are within the limits
pub record AllTell (choice : Choice) (inputs : List (List ℕ)) : Type 0 where
  pub told : List InputContent
  pub tell : TellAll inputs told
  pub together : ¬ IsOver choice.most (flat_map (content_facts choice) told)

-- the source failed of the input with this number: of a datagram file, if all inputs before it are
-- known; of a journal, if all inputs are, and those before it are valid
abbrev pub ReadFailsAt : List (List ℕ) → ℕ → Type 0
ReadFailsAt inputs number =
    FirstInput HasKnownKind (HasKind kinds.Datagrams) number inputs
    ⊎ (AllByRecursion HasKnownKind inputs
    × FirstInput IsValid (HasKind kinds.Journal) number inputs)

-- why inputs were not joined: as those in memory; or a device failed, the sink only if all
-- the inputs could be joined; or what is not held in memory could not be put aside and read again,
-- only if there is a datagram file
pub data JoinToFails (choice : Choice) (inputs : List (List ℕ))
    (fault : CommandFault) : Type 0 where
  of_inputs : JoinFails choice inputs fault → JoinToFails choice inputs fault
  of_source : (number : ℕ) → fault ≡ Input number Read → ReadFailsAt inputs number
      → JoinToFails choice inputs fault
  of_sink : fault ≡ CannotWrite → AllTell choice inputs → JoinToFails choice inputs fault
  of_aside : fault ≡ CannotPutAside → WantsAside inputs → JoinToFails choice inputs fault

-- the number in a fault is that of one of so many inputs, from 1
abbrev pub NamesOneOf : ℕ → CommandFault → Type 0
NamesOneOf count (Input told fault) = (1 ≤ told) × (told ≤ count)
NamesOneOf count (UnknownKind told) = (1 ≤ told) × (told ≤ count)
NamesOneOf count _ = ⊤
