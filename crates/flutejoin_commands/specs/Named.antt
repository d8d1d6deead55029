-- What the commands write and why they fail, stated of the names of their inputs.
use Rattle.std.specs.Prelude.{◌≡◌, ◌⊎◌, ◌+◌, ◌<◌, ℕ, List, [], ◌∷◌, length, map, slice_get}
use Rattle.std.specs.Prelude.{◌++◌, Option, Some, None, IfSome}
use Rattle.std.specs.BTreeSet.{BTreeSet}
use Rattle.std.specs.List.{AllZip}
use Rattle.flute_journal.specs.declared.fault.ReadFault.TheVariants.{Read}
use Rattle.flute_streams.specs.declared.choice.selection.Selection.{Selection}
use Rattle.flute_parts.specs.Information.{Information}
use Rattle.flute_parts.specs.declared.key.Key.{Key}
use Rattle.flutejoin.specs.Fill.{FillFails, WritesFill}
use Rattle.flute_streams.specs.Selections.{all_but}
use Rattle.flutejoin.specs.Forget.{ForgetFails, ForgetListFails, ForgetsListed}
use Rattle.flutejoin.specs.JoinFaults.{NamesOneOf}
use Rattle.flutejoin.specs.KeyLists.{KeyListFails, ListNames}
use Rattle.flutejoin.specs.declared.fill.asking.Asking.{Asking}
use Rattle.flutejoin.specs.declared.forget.ForgetCounts.{ForgetCounts}
use Rattle.flutejoin.specs.Limits.{Limits}
use Rattle.flutejoin.specs.Merge.{MergeFails}
use Rattle.flutejoin.specs.Minus.{WritesMinus}
use Rattle.flutejoin.specs.declared.join.join_counts.JoinCounts.{JoinCounts}
use Rattle.flutejoin.specs.declared.command_fault.CommandFault.{CommandFault}
use Rattle.flutejoin.specs.declared.command_fault.CommandFault.TheVariants.{CannotOpen, CannotWrite}
use Rattle.flutejoin.specs.declared.command_fault.CommandFault.TheVariants.{Input}
use Rattle.flutejoin.specs.declared.command_fault.CommandFault.TheVariants.{OutOfMemory, TooLarge}
use Rattle.flutejoin_commands.specs.Files.{Files, IfFiles, IsNoFile}
use Rattle.flutejoin_commands.specs.Outlets.{Held, FailsHeld}
use Rattle.flutejoin_commands.specs.Works.{AddsInformation, AddFails, WritesObject, ExtractFails}
use Rattle.flutejoin_commands.specs.Works.{ForgetsIn, JoinReadFails, JoinsRead, join_choice}
use Rattle.flutejoin_commands.specs.Works.{AddListReadFails, AddsListRead}
use Rattle.flutejoin_commands.specs.Works.{MergeReadFails, MergesRead, SendReadFails, SendsRead}
use Rattle.flutejoin_commands.specs.Worlds.{IsNotOverwritten}
use Rattle.flutejoin_line.specs.declared.join_line.JoinLine.{JoinLine}

-- the file of this name has these bytes
abbrev pub IsAt : Files → List ℕ → List ℕ → Type 0
IsAt files name bytes = files name ≡ Some bytes

-- P of what the files of these names have, in their order
abbrev pub OfContents : Files → List (List ℕ) → (List (List ℕ) → Type 0) → Type 0
OfContents files names P =
    (contents : List (List ℕ)) × AllZip (IsAt files) names contents × P contents

-- P of what the file of this name has
abbrev pub OfText : Files → List ℕ → (List ℕ → Type 0) → Type 0
OfText files name P = (text : List ℕ) × IsAt files name text × P text

-- P of the objects that it lists
abbrev pub OfKeys : Files → List ℕ → (BTreeSet Key → Type 0) → Type 0
OfKeys files name P =
    OfText files name (λ text. (keys : BTreeSet Key) × ListNames text keys × P keys)

-- the names of the inputs of a join
abbrev pub names_of : JoinLine → List (List ℕ)
names_of line = map (λ input. input.now) line.inputs.items

-- one of these names, with its number, cannot be opened as there is no such file, or its first
-- bytes cannot be read
pub record IsUnopened (files : Option Files) (names : List (List ℕ))
    (fault : CommandFault) : Type 0 where
  pub before : ℕ
  pub name : List ℕ
  pub here : slice_get names before ≡ Some name
  pub why : ((fault ≡ CannotOpen (before + 1)) × IsNoFile files name)
      ⊎ (fault ≡ Input (before + 1) Read)

-- why there is no output before the work: an input was not opened, OUT is not overwritten, or
-- there was no memory
abbrev pub IsBefore : Option Files → List (List ℕ) → CommandFault → Type 0
IsBefore files names fault =
    IsUnopened files names fault ⊎ IsNotOverwritten fault

-- why the number of the bytes of an input is not known: there are too many, or they cannot be read,
-- or put aside
abbrev pub MeasureFails : Option (List ℕ) → CommandFault → Type 0
MeasureFails input fault =
    ((fault ≡ TooLarge 1) × IfSome input (λ bytes. 4294967295 < length bytes))
    ⊎ ((fault ≡ Input 1 Read) ⊎ ((fault ≡ CannotWrite) ⊎ (fault ≡ OutOfMemory)))

module _ (files : Option Files) where
  -- the one journal of all that the files of these names contain of the chosen objects
  abbrev pub JoinsNames : JoinLine → JoinCounts → Option (List ℕ) → Option (List ℕ)
      → Type 0
  JoinsNames line counts old new = IfFiles files (λ f. OfContents f (names_of line)
      (λ contents. JoinsRead (join_choice line None) contents counts old new))

  -- why `join` fails, by the files of its names
  abbrev pub JoinNamesFails : JoinLine → CommandFault → Type 0
  JoinNamesFails line fault =
      IsBefore files (names_of line) fault
      ⊎ (IfFiles files (λ f. OfContents f (names_of line) (λ contents.
      JoinReadFails (join_choice line None) contents fault))
      × NamesOneOf (length (names_of line)) fault)

  -- the same without the objects that the file of another name lists
  abbrev pub JoinsWithoutNames : JoinLine → List ℕ → JoinCounts → Option (List ℕ)
      → Option (List ℕ) → Type 0
  JoinsWithoutNames line list counts old new = IfFiles files (λ f. OfKeys f list
      (λ keys. OfContents f (names_of line)
      (λ contents. JoinsRead (join_choice line (Some keys)) contents counts old new)))

  -- why `join --without` fails, by the files of its names
  abbrev pub JoinWithoutFails : JoinLine → List ℕ → CommandFault → Type 0
  JoinWithoutFails line list fault =
      IsBefore files (names_of line ++ list ∷ []) fault
      ⊎ (((fault ≡ Input (length (names_of line) + 1) Read)
      ⊎ (IfFiles files (λ f. OfText f list (λ text. KeyListFails text fault))
      ⊎ IfFiles files (λ f. OfKeys f list (λ keys. OfContents f (names_of line) (λ contents.
      JoinReadFails (join_choice line (Some keys)) contents fault)))))
      × NamesOneOf (length (names_of line) + 1) fault)

  -- the journal of all that the files of two names contain
  abbrev pub MergesNames : List ℕ → List ℕ → ℕ → Option (List ℕ) → Option (List ℕ)
      → Type 0
  MergesNames a b n old new = IfFiles files (λ f. MergesRead (f a) (f b) n old new)

  -- why `merge` fails, by the files of its names
  abbrev pub MergeNamesFails : List ℕ → List ℕ → CommandFault → Type 0
  MergeNamesFails a b fault =
      IsBefore files (a ∷ b ∷ []) fault
      ⊎ IfFiles files (λ f. MergeReadFails (f a) (f b) fault)

  -- the journal of what of the file of one name a join would change that of another by
  abbrev pub MinusOfNames : List ℕ → List ℕ → ℕ → Option (List ℕ) → Option (List ℕ)
      → Type 0
  MinusOfNames a b n old new = IfFiles files (λ f. WritesMinus (f a) (f b) n old new)

  -- why `minus` fails, by the files of its names
  abbrev pub MinusOfNamesFails : List ℕ → List ℕ → CommandFault → Type 0
  MinusOfNamesFails a b fault =
      IsBefore files (a ∷ b ∷ []) fault ⊎ IfFiles files (λ f. MergeFails (f a) (f b) fault)

  -- the journal of what of the file of one name the lines in that of another ask for
  abbrev pub FillsOfNames : Asking → List ℕ → List ℕ → ℕ → Option (List ℕ) → Option (List ℕ)
      → Type 0
  FillsOfNames asking j gaps n old new =
      IfFiles files (λ f. WritesFill asking (f j) (f gaps) n old new)

  -- why `fill` fails, by the files of its names
  abbrev pub FillOfNamesFails : List ℕ → List ℕ → CommandFault → Type 0
  FillOfNamesFails j gaps fault =
      IsBefore files (j ∷ gaps ∷ []) fault ⊎ IfFiles files (λ f. FillFails (f j) (f gaps) fault)

  -- the journal of all that the file of a name contains and of the information
  abbrev pub AddsToName : List ℕ → Key → Information → ℕ → Option (List ℕ)
      → Option (List ℕ) → Type 0
  AddsToName j key info n old new =
      IfFiles files (λ f. AddsInformation (f j) key info n old new)

  -- why `info` fails, by the file of its name
  abbrev pub AddToNameFails : Limits → List ℕ → Key → Information → CommandFault
      → Type 0
  AddToNameFails most j key info fault =
      IsBefore files (j ∷ []) fault ⊎ IfFiles files (λ f. AddFails most (f j) key info fault)

  -- the journal of what the selection leaves of the file of a name
  abbrev pub ForgetsInName : List ℕ → Selection → ForgetCounts → Option (List ℕ)
      → Option (List ℕ) → Type 0
  ForgetsInName j selection counts old new =
      IfFiles files (λ f. ForgetsIn (f j) (all_but selection) counts old new)

  -- why `forget` fails, by the file of its name
  abbrev pub ForgetInNameFails : List ℕ → CommandFault → Type 0
  ForgetInNameFails j fault =
      IsBefore files (j ∷ []) fault ⊎ IfFiles files (λ f. ForgetFails (f j) fault)

  -- the same of the objects that the file of another name lists
  abbrev pub ForgetsListOfNames : List ℕ → List ℕ → Selection → ForgetCounts
      → Option (List ℕ) → Option (List ℕ) → Type 0
  ForgetsListOfNames j list selection counts old new =
      IfFiles files (λ f. ForgetsListed selection (f list) (f j) counts old new)

  -- why `forget --list` fails, by the files of its names
  abbrev pub ForgetListOfNamesFails : List ℕ → List ℕ → CommandFault → Type 0
  ForgetListOfNamesFails j list fault =
      IsBefore files (j ∷ list ∷ []) fault
      ⊎ IfFiles files (λ f. ForgetListFails (f list) (f j) fault)

  -- the journal of all that the file of one name contains and of the list that another has
  abbrev pub AddsListOfNames : List ℕ → List ℕ → ℕ → Option (List ℕ)
      → Option (List ℕ) → Type 0
  AddsListOfNames j list n old new = IfFiles files (λ f. AddsListRead (f j) (f list) n old new)

  -- why `info --list` fails, by the files of its names
  abbrev pub AddListOfNamesFails : Limits → List ℕ → List ℕ → CommandFault → Type 0
  AddListOfNamesFails most j list fault =
      IsBefore files (j ∷ list ∷ []) fault
      ⊎ IfFiles files (λ f. AddListReadFails most (f j) (f list) fault)

  -- the object that the file of a name makes whole
  abbrev pub WritesOfName : Limits → List ℕ → Key → ℕ → Option (List ℕ)
      → Option (List ℕ) → Type 0
  WritesOfName most j key n old new = IfFiles files (λ f. WritesObject most (f j) key n old new)

  -- the same, held in memory first
  abbrev pub HoldsOfName : Limits → List ℕ → Key → ℕ → Option (List ℕ)
      → Option (List ℕ) → Type 0
  HoldsOfName most j key n old new =
      IfFiles files (λ f. Held (WritesObject most (f j) key) n old new)

  -- why `extract` fails, by the file of its name
  abbrev pub ExtractOfNameFails : Limits → List ℕ → Key → CommandFault → Type 0
  ExtractOfNameFails most j key fault =
      IsBefore files (j ∷ []) fault
      ⊎ IfFiles files (λ f. FailsHeld (ExtractFails most (f j) key) fault)

  -- the file of the datagrams of an object whose content is the file of a name
  abbrev pub SendsName : List ℕ → Key → ℕ → ℕ → ℕ → Option (List ℕ)
      → Option (List ℕ) → Type 0
  SendsName name key symbol block n old new =
      IfFiles files (λ f. SendsRead (f name) key symbol block n old new)

  -- why `carousel` fails, by the file of its name
  abbrev pub SendNameFails : List ℕ → Key → ℕ → ℕ → CommandFault → Type 0
  SendNameFails name key symbol block fault =
      IsBefore files (name ∷ []) fault
      ⊎ IfFiles files (λ f. MeasureFails (f name) fault
      ⊎ SendReadFails (f name) key symbol block fault)
