-- Lists of objects: the names in their lines, and why they name none.
use Rattle.std.specs.Prelude.{◌≡◌, ◌⊎◌, ◌++◌, ◌∷◌, ⊤, ℕ, List, [], Option, codes}
use Rattle.std.specs.List.{list_any}
use Rattle.std.specs.BTreeSet.{BTreeSet, contains}
use Rattle.flute_parts.specs.Order.{key_cmp, same_key}
use Rattle.flute_parts.specs.Ranges.{IsKey}
use Rattle.flute_parts.specs.declared.key.Key.{Key}
use Rattle.flutejoin.specs.Lines.{key_words}
use Rattle.flutejoin.specs.ListedLines.{HasBadLine, HasRead, IsPassedOver, ListTells}
use Rattle.flutejoin.specs.declared.command_fault.CommandFault.{CommandFault}
use Rattle.flutejoin.specs.declared.command_fault.CommandFault.TheVariants.{ListLine, OutOfMemory}

-- nothing follows a name, or a space
abbrev pub IsApart : List ℕ → Type 0
IsApart [] = ⊤
IsApart (byte ∷ words) = byte ≡ 32

-- the line begins with this name
pub record IsNamed (name words : List ℕ) : Type 0 where
  pub rest : List ℕ
  pub words_are : words ≡ name ++ rest
  pub apart : IsApart rest

-- the line begins with the name of the object
abbrev pub Names : List ℕ → Key → Type 0
Names words key = IsNamed (key_words key) words

-- the words begin with these
abbrev pub BeginsWith : List ℕ → List ℕ → Type 0
BeginsWith front words = (rest : List ℕ) × (words ≡ front ++ rest)

-- a line that names no object: it is passed over in other lists too, or is a line of `gaps` that
-- tells of the object before
abbrev pub NamesNone : List ℕ → Type 0
NamesNone words =
    IsPassedOver words ⊎ BeginsWith (codes "gap ") words ⊎ BeginsWith (codes "bytes ") words

-- the objects that a line names: none, or one
pub data LineNames (words : List ℕ) (keys : List Key) : Type 0 where
  none : NamesNone words → keys ≡ [] → LineNames words keys
  one : (key : Key) → IsKey key → Names words key → keys ≡ key ∷ []
      → LineNames words keys

-- a line that is neither
pub record IsNoName (words : List ℕ) : Type 0 where
  pub some : NamesNone words → ⊥
  pub other : (key : Key) → IsKey key → Names words key → ⊥

-- a set has these objects, and no others
abbrev pub HasKeys : BTreeSet Key → List Key → Type 0
HasKeys keys named =
    (key : Key) → contains key_cmp keys key ≡ list_any (λ one. same_key one key) named

-- the objects that a list names are these
pub record ListNames (bytes : List ℕ) (keys : BTreeSet Key) : Type 0 where
  pub named : List Key
  pub lines : ListTells LineNames bytes named
  pub keys_are : HasKeys keys named

-- why a list of objects is not read: its first line that names none, or memory
abbrev pub KeyListFails : List ℕ → CommandFault → Type 0
KeyListFails bytes (ListLine number) = HasBadLine LineNames IsNoName bytes number
KeyListFails bytes OutOfMemory = ⊤
KeyListFails bytes _ = ⊥

-- the objects of so many lines but one of a list are in a set
pub record HoldsKeys (all left : Option (List ℕ)) (number : ℕ) (keys : BTreeSet Key)
    : Type 0 where
  pub named : List Key
  pub read : HasRead LineNames all left number named
  pub keys_are : HasKeys keys named
