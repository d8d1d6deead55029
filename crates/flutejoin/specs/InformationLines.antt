-- The lines of a list of information, the facts they contain, and why they contain none.
use Rattle.std.specs.Prelude.{◌≡◌, ℕ, ◌<◌, ◌^◌, List, [], ◌∷◌, ◌++◌, Option, Some}
use Rattle.flute_parts.specs.Facts.{Same}
use Rattle.flute_parts.specs.Information.{Information, HasInfoFields, information, info_fault}
use Rattle.flute_parts.specs.Ranges.{IsFact, IsKey}
use Rattle.flute_parts.specs.declared.fact.Fact.{Fact}
use Rattle.flute_parts.specs.declared.fact.Fact.TheVariants.{Info}
use Rattle.flute_parts.specs.declared.info.InfoFault.{InfoFault}
use Rattle.flute_parts.specs.declared.key.Key.{Key}
use Rattle.flutejoin.specs.Lines.{fact_words}
use Rattle.flutejoin.specs.Limits.{Limits, IsOver}
use Rattle.flutejoin.specs.ListedLines.{BeginsLine, HasLine, HasRead, HasBadLine, IsPassedOver}
use Rattle.flutejoin.specs.declared.command_fault.CommandFault.{CommandFault}
use Rattle.flutejoin.specs.declared.command_fault.CommandFault.TheVariants.{ListLine}
use Rattle.flutejoin.specs.declared.command_fault.CommandFault.TheVariants.{ListInformation, Full}
use Rattle.flutejoin.specs.declared.command_fault.CommandFault.TheVariants.{OutOfMemory}
use Rattle.flutejoin.specs.declared.info.information_line.InfoNumbers.{InfoNumbers}

-- numbers that a line may contain of an object, whether or not they are valid
abbrev pub HasNumbers : Information → Type 0
HasNumbers i = (i.transfer_length < 2 ^ 64) × HasInfoFields i

-- the line that `show` prints for information of an object, of these numbers
pub record Shows (words : List ℕ) (key : Key) (info : Information) : Type 0 where
  pub key_is : IsKey key
  pub numbers : HasNumbers info
  pub words_are : words ≡ fact_words (Info key info)

-- what a line contains: nothing if it is passed over, else the information that it shows
pub data LineTells (words : List ℕ) (facts : List Fact) : Type 0 where
  passed_over : IsPassedOver words → facts ≡ [] → LineTells words facts
  shown : (key : Key) (info : Information) → IsFact (Info key info)
      → words ≡ fact_words (Info key info) → facts ≡ Info key info ∷ []
      → LineTells words facts

-- a line that is neither passed over nor the line of any information
pub record TellsNothing (words : List ℕ) : Type 0 where
  pub some : IsPassedOver words → ⊥
  pub other : (key : Key) (info : Information) → Shows words key info → ⊥

-- a line of numbers that are no information, for this reason
pub record TellsInvalid (fault : InfoFault) (words : List ℕ) : Type 0 where
  pub key : Key
  pub info : Information
  pub shows : Shows words key info
  pub invalid : info_fault info ≡ Some fault

-- its first lines are over the limits
pub record ListIsOver (most : Limits) (bytes : List ℕ) : Type 0 where
  pub number : ℕ
  pub facts : List Fact
  pub rest : List ℕ
  pub begins : BeginsLine LineTells bytes number facts rest
  pub over : IsOver most facts

-- why a list contains no facts: its first line at fault, or its facts
pub data ListFails (most : Limits) (bytes : List ℕ) (fault : CommandFault) : Type 0 where
  bad : (number : ℕ) → fault ≡ ListLine number
      → HasBadLine LineTells TellsNothing bytes number → ListFails most bytes fault
  invalid : (number : ℕ) (why : InfoFault) → fault ≡ ListInformation number why
      → HasLine LineTells (TellsInvalid why) bytes number → ListFails most bytes fault
  over : fault ≡ Full → ListIsOver most bytes → ListFails most bytes fault
  no_memory : fault ≡ OutOfMemory → ListFails most bytes fault

-- What the parts of a list's reader return.

-- the transmission information of the numbers in a line
abbrev pub numbers_of : InfoNumbers → Information
numbers_of numbers = information numbers.length numbers.symbol numbers.block

-- why the line with this number, or what it contains in addition to these facts, is not added
pub data AddingFails (most : Limits) (told : List Fact) (number : ℕ) (words : List ℕ)
    (fault : CommandFault) : Type 0 where
  no_line : fault ≡ ListLine number → TellsNothing words
      → AddingFails most told number words fault
  not_valid : (why : InfoFault) → fault ≡ ListInformation number why → TellsInvalid why words
      → AddingFails most told number words fault
  no_room : (facts : List Fact) → fault ≡ Full → LineTells words facts
      → IsOver most (told ++ facts) → AddingFails most told number words fault
  no_memory_for : fault ≡ OutOfMemory → AddingFails most told number words fault

-- these facts of a list are in a store
pub record HoldsList (all left : Option (List ℕ)) (number : ℕ) (told : List Fact) : Type 0 where
  pub facts : List Fact
  pub read : HasRead LineTells all left number facts
  pub content : Same told facts
