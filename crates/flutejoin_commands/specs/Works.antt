-- What the works of the commands write, why they fail, and what they report.
use Rattle.std.specs.Prelude.{◌≡◌, ◌⊎◌, ℕ, ◌<◌, ◌≤◌, ◌++◌, ◌∷◌, List, [], if◌then◌else◌}
use Rattle.std.specs.Prelude.{length, Bool, true, not, ◌||◌, ◌+◌}
use Rattle.std.specs.Prelude.{Option, Some, None, codes, Ok, Err, IfSome}
use Rattle.std.specs.BTreeSet.{BTreeSet}
use Rattle.flute_parts.specs.Facts.{Same}
use Rattle.flute_parts.specs.Information.{Information}
use Rattle.flute_parts.specs.declared.fact.Fact.{Fact}
use Rattle.flute_parts.specs.declared.fact.Fact.TheVariants.{Info}
use Rattle.flute_parts.specs.declared.key.Key.{Key}
use Rattle.flute_journal.specs.declared.fault.ReadFault.TheVariants.{Read}
use Rattle.flute_streams.specs.Merges.{Merged}
use Rattle.flute_streams.specs.Objects.{listed}
use Rattle.flute_streams.specs.Scopes.{is_all}
use Rattle.flute_streams.specs.declared.choice.objects.Objects.{Objects}
use Rattle.flute_streams.specs.declared.choice.scope.Scope.{Scope}
use Rattle.flute_streams.specs.declared.choice.selection.AllBut.{AllBut}
use Rattle.flutejoin.specs.Carousel.{SendFails, SendsInput}
use Rattle.flutejoin.specs.Extract.{AnswersFrom, Extracts}
use Rattle.flutejoin.specs.Forget.{Forgets}
use Rattle.flutejoin.specs.Info.{AddsFacts, InfoFails}
use Rattle.flutejoin.specs.InfoLists.{AddListFails, AddsList}
use Rattle.flutejoin.specs.JoinInputs.{AreInputs}
use Rattle.flutejoin.specs.JoinParts.{NamesOnly}
use Rattle.flutejoin.specs.JoinWithout.{AreWithout}
use Rattle.flutejoin.specs.Joined.{Choice, choice_without}
use Rattle.flutejoin.specs.KeyLists.{KeyListFails, ListNames}
use Rattle.flutejoin.specs.Joining.{JoinsTo}
use Rattle.flutejoin.specs.JoinFaults.{JoinToFails, NamesOneOf}
use Rattle.flutejoin.specs.Limits.{Limits, limits_of}
use Rattle.flutejoin.specs.Lines.{count_line}
use Rattle.flutejoin.specs.Merge.{MergeFails}
use Rattle.flutejoin.specs.Refused.{reason_lines}
use Rattle.flutejoin.specs.declared.forget.ForgetCounts.{ForgetCounts}
use Rattle.flutejoin.specs.declared.join.join_counts.JoinCounts.{JoinCounts}
use Rattle.flutejoin.specs.declared.join.join_input.JoinInput.{JoinInput}
use Rattle.flutejoin.specs.declared.command_fault.CommandFault.{CommandFault}
use Rattle.flutejoin.specs.declared.command_fault.CommandFault.TheVariants.{Full, Input}
use Rattle.flutejoin.specs.declared.limits.TheConstants.{MAX_ENTRIES}
use Rattle.flutejoin_line.specs.CommandLine.{is_any_size}
use Rattle.flutejoin_line.specs.declared.join_line.JoinLine.{JoinLine}
use Rattle.flutejoin_line.specs.declared.limit.Limit.{Limit}

-- the one line of a command that reports how many bytes or datagrams it wrote
abbrev pub bytes_line : ℕ → List ℕ
bytes_line n = count_line (codes "bytes") n

-- the line with the number of datagrams
abbrev pub datagrams_line : ℕ → List ℕ
datagrams_line n = count_line (codes "datagrams") n

-- what is of other objects is told, unless all are taken: those of a scope, perhaps without a list
abbrev pub tells_others : Scope → Bool → Bool
tells_others scope is_listed = is_listed || not (is_all scope)

-- the lines of a join, perhaps with what is of other objects, and with the reasons of refusals
abbrev pub join_lines : Bool → Bool → JoinCounts → List ℕ
join_lines others reasons counts =
    count_line (codes "datagrams") counts.datagrams
    ++ count_line (codes "refused") counts.refused
    ++ (if reasons then reason_lines counts.reasons else [])
    ++ (if others then count_line (codes "others") counts.others else [])
    ++ count_line (codes "entries") counts.entries

-- the lines of a journal of which entries were forgotten
abbrev pub forget_lines : ForgetCounts → List ℕ
forget_lines counts =
    count_line (codes "forgotten") counts.forgotten ++ count_line (codes "entries") counts.entries

-- what a journal is without what is left out
abbrev pub ForgetsIn : Option (List ℕ) → AllBut → ForgetCounts → Option (List ℕ)
    → Option (List ℕ) → Type 0
ForgetsIn input rest counts old new = Forgets rest counts input old new

module _ {X : Type 0} (count : X → ℕ)
    (writes : X → Option (List ℕ) → Option (List ℕ) → Type 0) where
  -- it was written, of no more entries, or datagrams, than a file that the commands read
  abbrev pub Readable : X → Option (List ℕ) → Option (List ℕ) → Type 0
  Readable x old new = writes x old new × (count x ≤ MAX_ENTRIES)

  -- `full`, since it has more of them
  abbrev pub IsTooLong : CommandFault → Type 0
  IsTooLong fault =
      (fault ≡ Full) × ((x : X) × (old : Option (List ℕ)) × (new : Option (List ℕ))
      × (writes x old new × (MAX_ENTRIES < count x)))

-- how much a command takes in
abbrev pub most_of : Limit → Limits
most_of limit = limits_of (is_any_size limit)

-- what a join takes, without listed objects
abbrev pub join_choice : JoinLine → Option (BTreeSet Key) → Choice
join_choice line = choice_without (most_of line.limit) line.sender line.scope

-- inputs with these bytes, joined to a journal that the commands read
abbrev pub JoinsRead : Choice → List (List ℕ) → JoinCounts → Option (List ℕ)
    → Option (List ℕ) → Type 0
JoinsRead choice contents =
    Readable (λ (counts : JoinCounts). counts.entries) (JoinsTo choice contents)

-- why a join of inputs with these bytes fails, also since commands could not read its journal
abbrev pub JoinReadFails : Choice → List (List ℕ) → CommandFault → Type 0
JoinReadFails choice contents fault =
    JoinToFails choice contents fault
    ⊎ IsTooLong (λ (counts : JoinCounts). counts.entries) (JoinsTo choice contents) fault

-- two journals, merged to one that the commands read
abbrev pub MergesRead : Option (List ℕ) → Option (List ℕ) → ℕ → Option (List ℕ)
    → Option (List ℕ) → Type 0
MergesRead first second = Readable (λ n. n) (λ n. Merged MAX_ENTRIES n first second)

-- why a merge of these journals fails, also since commands could not read its journal
abbrev pub MergeReadFails : Option (List ℕ) → Option (List ℕ) → CommandFault → Type 0
MergeReadFails first second fault =
    MergeFails first second fault
    ⊎ IsTooLong (λ n. n) (λ n. Merged MAX_ENTRIES n first second) fault

module _ {R : Type 0} (unread : R → Option (List ℕ)) where
  -- these inputs, joined, if the bytes that are put aside are known
  abbrev pub JoinsAll : Bool → Choice → List (JoinInput R) → JoinCounts
      → Option (List ℕ) → Option (List ℕ) → Type 0
  JoinsAll tells choice inputs counts old new =
      tells ≡ true → (contents : List (List ℕ)) → AreInputs unread inputs contents
      → JoinsRead choice contents counts old new

  abbrev pub JoinAllFails : Bool → Choice → List (JoinInput R) → CommandFault → Type 0
  JoinAllFails tells choice inputs fault =
      (tells ≡ true → (contents : List (List ℕ)) → AreInputs unread inputs contents
      → JoinReadFails choice contents fault)
      × NamesOneOf (length inputs) fault

  -- the same without the objects that a list with these bytes names
  abbrev pub JoinsListed : Bool → (Option (BTreeSet Key) → Choice) → Option (List ℕ)
      → List (JoinInput R) → JoinCounts → Option (List ℕ) → Option (List ℕ) → Type 0
  JoinsListed tells choice list inputs counts old new =
      IfSome list (λ text. (keys : BTreeSet Key) × ListNames text keys
      × JoinsAll tells (choice (Some keys)) inputs counts old new)

  -- why not: the list cannot be read, or names no object in a line; or the inputs are not joined
  abbrev pub JoinListedFails : Bool → (Option (BTreeSet Key) → Choice) → Option (List ℕ)
      → List (JoinInput R) → CommandFault → Type 0
  JoinListedFails tells choice list inputs fault =
      ((fault ≡ Input (length inputs + 1) Read)
      ⊎ (IfSome list (λ text. KeyListFails text fault)
      ⊎ IfSome list (λ text. (keys : BTreeSet Key) × ListNames text keys
      × JoinAllFails tells (choice (Some keys)) inputs fault)))
      × NamesOneOf (length inputs + 1) fault

  -- these inputs, joined: without the objects of the list, if there is one
  abbrev pub JoinsBy : Bool → (Option (BTreeSet Key) → Choice) → Option (Option (List ℕ))
      → List (JoinInput R) → JoinCounts → Option (List ℕ) → Option (List ℕ) → Type 0
  JoinsBy tells choice None inputs = JoinsAll tells (choice None) inputs
  JoinsBy tells choice (Some list) inputs = JoinsListed tells choice list inputs

  abbrev pub JoinByFails : Bool → (Option (BTreeSet Key) → Choice)
      → Option (Option (List ℕ)) → List (JoinInput R) → CommandFault → Type 0
  JoinByFails tells choice None inputs = JoinAllFails tells (choice None) inputs
  JoinByFails tells choice (Some list) inputs = JoinListedFails tells choice list inputs

-- the objects of a scope, without those that a list with these bytes names, if there is one
abbrev pub AreObjects : Scope → Option (Option (List ℕ)) → Objects → Type 0
AreObjects scope None objects = (objects.scope ≡ scope) × (listed objects ≡ None)
AreObjects scope (Some list) objects = IfSome list (λ text. AreWithout text scope objects)

-- why the list with this number, if there is one, names no objects
abbrev pub ObjectsFail : ℕ → Option (Option (List ℕ)) → CommandFault → Type 0
ObjectsFail number None fault = ⊥
ObjectsFail number (Some list) fault =
    ((fault ≡ Input number Read) ⊎ IfSome list (λ text. KeyListFails text fault))
    × NamesOnly number fault

-- the journal was read to its end, and the object that it makes whole was written: the same
-- as of any other facts with the same values
abbrev pub WritesObject : Limits → Option (List ℕ) → Key → ℕ → Option (List ℕ)
    → Option (List ℕ) → Type 0
WritesObject most input key n old new =
    (left : Option (List ℕ)) × ((others : List Fact)
    → AnswersFrom most input left
    (λ F. Same F others → Extracts (λ x. x) others key old new (Ok n)) (Ok n))

-- why no object is whole in the journal: the same as in any other facts with the same values
abbrev pub ExtractFails : Limits → Option (List ℕ) → Key → CommandFault → Type 0
ExtractFails most input key fault =
    (left : Option (List ℕ)) × (old : Option (List ℕ)) × (new : Option (List ℕ))
    × ((others : List Fact)
    → AnswersFrom most input left
    (λ F. Same F others → Extracts (λ x. x) others key old new (Err fault)) (Err fault))

-- the journal of all that a journal contains and of the information was written, and the commands
-- read it
abbrev pub AddsInformation : Option (List ℕ) → Key → Information → ℕ → Option (List ℕ)
    → Option (List ℕ) → Type 0
AddsInformation input key info =
    Readable (λ n. n) (λ n old new. AddsFacts input (Info key info ∷ []) old new n)

-- why `info` fails with this input, also since commands could not read its journal
abbrev pub AddFails : Limits → Option (List ℕ) → Key → Information → CommandFault
    → Type 0
AddFails most input key info fault =
    InfoFails most input (Info key info ∷ []) fault
    ⊎ IsTooLong (λ n. n) (λ n old new. AddsFacts input (Info key info ∷ []) old new n) fault

-- the same of the facts of a list
abbrev pub AddsListRead : Option (List ℕ) → Option (List ℕ) → ℕ → Option (List ℕ)
    → Option (List ℕ) → Type 0
AddsListRead input list = Readable (λ n. n) (AddsList input list)

-- why `info --list` fails with these inputs, also since commands could not read its journal
abbrev pub AddListReadFails : Limits → Option (List ℕ) → Option (List ℕ) → CommandFault
    → Type 0
AddListReadFails most input list fault =
    AddListFails most input list fault ⊎ IsTooLong (λ n. n) (AddsList input list) fault

-- an object's datagrams, as a file that the commands read
abbrev pub SendsRead : Option (List ℕ) → Key → ℕ → ℕ → ℕ → Option (List ℕ)
    → Option (List ℕ) → Type 0
SendsRead input key symbol block = Readable (λ n. n) (SendsInput input key symbol block)

-- why `carousel` fails with this content, also since commands could not read its file
abbrev pub SendReadFails : Option (List ℕ) → Key → ℕ → ℕ → CommandFault → Type 0
SendReadFails input key symbol block fault =
    SendFails input key symbol block fault
    ⊎ IsTooLong (λ n. n) (SendsInput input key symbol block) fault
