-- What the parts of a join return.
use Rattle.std.specs.Prelude.{◌≡◌, ℕ, ◌+◌, ◌*◌, List, [], ◌∷◌, ◌++◌, ◌≤◌, length, Option, Some}
use Rattle.std.specs.Prelude.{◌^◌, Bool}
use Rattle.std.specs.Prelude.{true, false, if◌then◌else◌, ⊤, ◌⊎◌}
use Rattle.std.specs.List.{flat_map, count_by, sum_by, AllByRecursion}
use Rattle.flute_parts.specs.Facts.{Same}
use Rattle.flute_parts.specs.declared.fact.Fact.{Fact}
use Rattle.flute_streams.specs.Objects.{is_taken}
use Rattle.flute_journal.specs.Records.{IsFileWithin}
use Rattle.flute_journal.specs.FileFraming.{file_framing}
use Rattle.flute_journal.specs.Framing.{HasFault}
use Rattle.flutejoin.specs.Asides.{AreRunsOf, IsNewRun}
use Rattle.flutejoin.specs.Limits.{Limits, IsOver}
use Rattle.flutejoin.specs.Refused.{AreReasons, all_counts, count_for, is_refused}
use Rattle.flutejoin.specs.declared.limits.TheConstants.{MAX_ENTRIES}
use Rattle.flutejoin.specs.declared.join.held_files.HeldFiles.{HeldFiles}
use Rattle.flutejoin.specs.declared.join.reasons.Reasons.{Reasons}
use Rattle.flute_wire.specs.Refusals.{Refuses}
use Rattle.flute_wire.specs.declared.refusal.Refusal.{Refusal}
use Rattle.flute_journal.specs.Kinds.{HasKind, IsNeither}
use Rattle.flutejoin.specs.declared.command_fault.CommandFault.{CommandFault}
use Rattle.flutejoin.specs.declared.command_fault.CommandFault.TheVariants.{UnknownKind, Input}
use Rattle.flutejoin.specs.declared.command_fault.CommandFault.TheVariants.{Full, OutOfMemory}
use Rattle.flutejoin.specs.declared.command_fault.CommandFault.TheVariants.{CannotWrite}
use Rattle.flutejoin.specs.declared.command_fault.CommandFault.TheVariants.{CannotPutAside}
use Rattle.flute_journal.specs.JournalWriters.{PutsJournal}
use Rattle.flute_streams.specs.Advances.{AreNew}
use Rattle.flute_streams.specs.StreamMerges.{all_of, EachSince, IsWithinLimits}
use Rattle.flute_streams.specs.Streams.{Behaviour, IsNew, most_of}
use Rattle.flute_journal.specs.declared.fault.LoadFault.{LoadFault}
use Rattle.flute_journal.specs.declared.fault.ReadFault.TheVariants.{Read}
use Rattle.flute_streams.specs.Eithers.{either_behaviour}
use Rattle.flute_streams.specs.declared.streams.either.Either.{Either}
use Rattle.flute_streams.specs.declared.merge.all_streams.MergedJournal.{MergedJournal}
use Rattle.flutejoin.specs.declared.join.join_input.JoinInput.{JoinInput}
use Rattle.flutejoin.specs.declared.join.join_input.JoinInput.TheVariants.{Journal, Datagrams}
use Rattle.flutejoin.specs.declared.join.join_input.JoinInput.TheVariants.{Unknown}
use Rattle.flute_journal.specs.declared.kind.Kind.TheVariants as kinds
use Rattle.flutejoin.specs.Joined.{InputContent, Choice, facts_by, content_facts, content_datagrams}
use Rattle.flutejoin.specs.Joined.{is_of_others, content_others, TellAll}
use Rattle.flutejoin.specs.JoinFaults.{FirstInput, HasKnownKind, JoinToFails, NamesOneOf}
use Rattle.flutejoin.specs.JoinFaults.{WantsAside}
use Rattle.flutejoin.specs.InputStreams.{input_behaviour, journal_behaviour, left_of_journal}
use Rattle.flutejoin.specs.InputStreams.{OneFailed}

-- facts are over the limits, or there is no memory for them
abbrev pub StoreFails : Limits → List Fact → CommandFault → Type 0
StoreFails most told fault = ((fault ≡ Full) × IsOver most told) ⊎ (fault ≡ OutOfMemory)

-- a reason for which the datagram is refused is counted once more
abbrev pub CountsReason : Reasons → List ℕ → Reasons → Type 0
CountsReason before datagram now =
    (why : Refusal)
    → (Refuses datagram why × (count_for now why ≡ count_for before why + 1))
    ⊎ (¬ Refuses datagram why × (count_for now why ≡ count_for before why))

module _ {s o y : ℕ} {R : Type 0} where
  -- one more datagram, whether it is refused, and why, are counted, and these facts of it are held
  pub record TakesDatagram (told : List Fact) (before : HeldFiles s o y R) (datagram : List ℕ)
      (now : HeldFiles s o y R) : Type 0 where
    pub content : Same now.told.store (before.told.store ++ told)
    pub datagrams : now.told.datagrams ≡ before.told.datagrams + 1
    pub refused : now.told.refused
        ≡ (if is_refused datagram then before.told.refused + 1 else before.told.refused)
    pub reasons : CountsReason before.reasons datagram now.reasons

module _ {s o y : ℕ} {R : Type 0} (unread : R → Option (List ℕ)) (buffered : R → List ℕ) where
  -- these datagrams are counted, and their facts held, in memory or aside
  pub record HoldsFacts (choice : Choice) (held : HeldFiles s o y R)
      (datagrams : List (List ℕ)) : Type 0 where
    pub aside : List Fact
    pub runs : AreRunsOf unread buffered held.runs.items aside
    pub content : Same (held.told.store ++ aside) (flat_map (facts_by choice) datagrams)
    pub count : held.told.datagrams ≡ length datagrams
    pub refused : held.told.refused ≡ count_by is_refused datagrams
    pub reasons : AreReasons held.reasons datagrams

  -- the facts of these datagrams are held; or, alone, they are over the limits
  abbrev pub HoldsAll : Choice → Bool → HeldFiles s o y R → List (List ℕ) → Type 0
  HoldsAll choice true held datagrams = HoldsFacts choice held datagrams
  HoldsAll choice false held datagrams = IsOver choice.most (flat_map (facts_by choice) datagrams)

  -- the facts of these datagrams are held
  pub record HoldsDatagrams (choice : Choice) (held : HeldFiles s o y R)
      (datagrams : List (List ℕ)) : Type 0 where
    pub others : held.fits ≡ true → held.others ≡ count_by (is_of_others choice) datagrams
    pub holds : HoldsAll choice held.fits held datagrams

  -- these datagrams are held too
  abbrev pub HoldsMore : Choice → HeldFiles s o y R → HeldFiles s o y R → List (List ℕ)
      → Type 0
  HoldsMore choice old new datagrams =
      (before : List (List ℕ)) → HoldsDatagrams choice old before
      → HoldsDatagrams choice new (before ++ datagrams)

  -- no more datagrams are refused, or of others, than there are, each of them for a reason; and
  -- there are few runs, all new, and none without a datagram
  abbrev pub IsSound : (R → ℕ) → HeldFiles s o y R → Type 0
  IsSound failures held =
      (held.told.refused ≤ held.told.datagrams) × (held.others ≤ held.told.datagrams)
      × (all_counts held.reasons ≡ held.told.refused)
      × (length held.runs.items ≤ 63) × (length held.runs.items ≤ 64 * held.told.datagrams)
      × AllByRecursion (IsNewRun unread buffered failures) held.runs.items

  -- the numbers are sound, and there are at most so many datagrams more
  abbrev pub CountsUpTo : (R → ℕ) → ℕ → HeldFiles s o y R → HeldFiles s o y R → Type 0
  CountsUpTo failures most old new =
      (new.told.datagrams ≤ old.told.datagrams + most) × IsSound failures new

-- why a datagram file was not held
abbrev pub FileFails : ℕ → Option (List ℕ) → CommandFault → Type 0
FileFails number input (Input told fault) =
    (told ≡ number) × HasFault file_framing MAX_ENTRIES input fault
FileFails number input OutOfMemory = ⊤
FileFails number input CannotPutAside = ⊤
FileFails number input _ = ⊥

-- the number in a fault of reading is that of the input
abbrev pub NamesOnly : ℕ → CommandFault → Type 0
NamesOnly number (Input told fault) = told ≡ number
NamesOnly number (UnknownKind told) = told ≡ number
NamesOnly number CannotWrite = ⊥
NamesOnly number _ = ⊤

-- an input is of no known kind, or a datagram file that was not held, or a journal for which there
-- was no memory
pub data InspectionFails (number : ℕ) (bytes : List ℕ) (fault : CommandFault) : Type 0 where
  of_kind : fault ≡ UnknownKind number → IsNeither bytes → InspectionFails number bytes fault
  of_file : HasKind kinds.Datagrams bytes → FileFails number (Some bytes) fault
      → InspectionFails number bytes fault
  of_journal : HasKind kinds.Journal bytes → fault ≡ OutOfMemory
      → InspectionFails number bytes fault

-- an inspection failed, and all inputs before that one are known
abbrev pub SomeInspectionFails : List (List ℕ) → CommandFault → Type 0
SomeInspectionFails inputs fault =
    (number : ℕ)
    × FirstInput HasKnownKind (λ bytes. InspectionFails number bytes fault) number inputs

module _ {R : Type 0} (unread : R → Option (List ℕ)) (buffered : R → List ℕ) where
  -- what was found of an input: a journal is still to be read, of the chosen objects, and a
  -- datagram file has these datagrams
  abbrev pub IsInspected : Choice → JoinInput R → List ℕ → List (List ℕ) → Type 0
  IsInspected choice (Journal journal) bytes datagrams =
      (datagrams ≡ []) × HasKind kinds.Journal bytes
      × (left_of_journal unread buffered journal ≡ Some bytes)
      × (is_taken journal.choice ≡ choice.takes)
  IsInspected choice (Datagrams source) bytes datagrams =
      IsFileWithin MAX_ENTRIES bytes datagrams
  IsInspected choice Unknown bytes datagrams = ⊥

  -- each input was inspected, and these are the datagrams of all
  abbrev pub AreInspected : Choice → List (JoinInput R) → List (List ℕ) → List (List ℕ)
      → Type 0
  AreInspected choice [] [] datagrams = datagrams ≡ []
  AreInspected choice (input ∷ inputs) (bytes ∷ contents) datagrams =
      (own : List (List ℕ)) × (others : List (List ℕ))
      × IsInspected choice input bytes own × (datagrams ≡ own ++ others)
      × AreInspected choice inputs contents others
  AreInspected choice _ _ datagrams = ⊥

  -- and all of these are held
  abbrev pub Finds : {s o y : ℕ} → Choice → List (JoinInput R) → List (List ℕ)
      → HeldFiles s o y R → Type 0
  Finds choice inputs contents held =
      (datagrams : List (List ℕ)) × AreInspected choice inputs contents datagrams
      × HoldsDatagrams unread buffered choice held datagrams

  module _ (failures : R → ℕ) where
    -- of a journal nothing was read yet, and nothing was passed over
    abbrev pub IsReady : JoinInput R → Type 0
    IsReady (Journal journal) =
        (journal.others ≡ 0) × IsNew (journal_behaviour unread buffered failures) journal
        × ((journal_behaviour unread buffered failures).most journal ≡ MAX_ENTRIES)
        × (journal.stream.max_entries ≡ MAX_ENTRIES)
    IsReady (Datagrams source) = Unit {0}
    IsReady Unknown = Unit {0}

    -- what is said of inputs as streams, with others before them
    abbrev pub joined_behaviour : {S : Type 0} → Behaviour S
        → Behaviour (Either S (JoinInput R))
    joined_behaviour b = either_behaviour b (input_behaviour unread buffered failures)

-- nothing was read of the streams of what is held, they are few, and their facts can be counted
pub record AreNewlyHeld {S : Type 0} (b : Behaviour S) (held : List S) : Type 0 where
  pub new : AreNew b held
  pub many : length held ≤ 64
  pub few : most_of b held + 2 ^ 57 ≤ 2 ^ 64

-- the streams give these facts if they end
abbrev pub End : {S : Type 0} → Behaviour S → List S → List Fact → Type 0
End {S} b held facts =
    (now : List S) (given : List (List Fact)) → EachSince b.ends held now given
    → all_of given ≡ facts

-- none of the streams has a fault
abbrev pub NeverStop : {S : Type 0} → Behaviour S → List S → Type 0
NeverStop b held = AllByRecursion (λ s. (fault : LoadFault) → b.stops s fault → ⊥) held

module _ {R : Type 0} (unread : R → Option (List ℕ)) (buffered : R → List ℕ)
    (failures : R → ℕ) {S : Type 0} (b : Behaviour S) (held : List S) where
  -- why the join of what is held with inputs stopped at one of these streams
  pub record StopsJoin (old new : List (JoinInput R)) (fault : CommandFault) : Type 0 where
    pub fails : (choice : Choice) (contents datagrams : List (List ℕ))
        → AreInspected unread buffered choice old contents datagrams
        → NeverStop b held ⊎ WantsAside contents → JoinToFails choice contents fault
    pub names : NamesOneOf (length old) fault
    pub no_memory : fault ≡ OutOfMemory → ⊥
    pub no_sink : fault ≡ CannotWrite → ⊥
    pub no_aside : NeverStop b held → fault ≡ CannotPutAside → ⊥
    pub reads : (number : ℕ) → fault ≡ Input number Read → OneFailed failures number old new

-- The journals among inputs that were inspected were joined with what is held, and so many entries
-- of them were passed over; the others are datagram files with these datagrams.
pub record JoinsInspected (choice : Choice) (contents datagrams : List (List ℕ))
    (held : List Fact) (passed : ℕ) (joined : MergedJournal) (old new : Option (List ℕ))
    : Type 0 where
  pub told : List InputContent
  pub tell : TellAll contents told
  pub datagrams_are : flat_map content_datagrams told ≡ datagrams
  pub entries : List Fact
  pub same : Same (flat_map (content_facts choice) told)
      (flat_map (facts_by choice) datagrams ++ entries)
  pub puts : PutsJournal joined.cut old new (held ++ entries) joined.entries
  pub limits : IsWithinLimits choice.most.sessions choice.most.objects choice.most.symbols
      (held ++ entries) joined.within
  pub others : passed + count_by (is_of_others choice) datagrams
      ≡ sum_by (content_others choice) told
