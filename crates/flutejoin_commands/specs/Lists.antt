-- The list of objects that a command is given, by the name of its file.
use Rattle.std.specs.Prelude.{◌≡◌, ◌⊎◌, ℕ, List, Option, Some, None, IfSome, IsSome}
use Rattle.std.specs.BTreeSet.{BTreeSet}
use Rattle.flute_journal.specs.declared.fault.ReadFault.TheVariants.{Read}
use Rattle.flute_parts.specs.declared.key.Key.{Key}
use Rattle.flutejoin.specs.KeyLists.{KeyListFails, ListNames}
use Rattle.flutejoin.specs.declared.command_fault.CommandFault.{CommandFault}
use Rattle.flutejoin.specs.declared.command_fault.CommandFault.TheVariants.{CannotOpen, Input}
use Rattle.flutejoin.specs.declared.command_fault.CommandFault.TheVariants.{ListLine, OutOfMemory}
use Rattle.flutejoin_commands.specs.Files.{Files, IfFiles, IsNoFile}

module _ (files : Option Files) where
  -- the file of this name lists these objects
  abbrev pub IsListOf : List ℕ → BTreeSet Key → Type 0
  IsListOf list keys = IfFiles files (λ f. IfSome (f list) (λ text. ListNames text keys))

  -- these objects are listed by the file of a name; or there is no name, and no list
  abbrev pub AreListed : Option (List ℕ) → Option (BTreeSet Key) → Type 0
  AreListed None listed = listed ≡ None
  AreListed (Some list) None = ⊥
  AreListed (Some list) (Some keys) = IsListOf list keys

  -- P of the objects that are listed
  abbrev pub OfListed : Option (List ℕ) → (Option (BTreeSet Key) → Type 0) → Type 0
  OfListed list P = (listed : Option (BTreeSet Key)) × AreListed list listed × P listed

  -- why the file of a name, the second input, is not read as a list
  abbrev pub IsNoListOf : List ℕ → CommandFault → Type 0
  IsNoListOf list fault =
      ((fault ≡ CannotOpen 2) × IsNoFile files list)
      ⊎ ((fault ≡ OutOfMemory) ⊎ ((fault ≡ Input 2 Read)
      ⊎ ((line : ℕ) × (fault ≡ ListLine line)
      × IfFiles files (λ f. IfSome (f list) (λ text. KeyListFails text (ListLine line))))))

  abbrev pub IsNoList : Option (List ℕ) → CommandFault → Type 0
  IsNoList None fault = ⊥
  IsNoList (Some list) fault = IsNoListOf list fault

  -- why nothing is read of the journal of a name: it is not opened; or it is there, and the list is
  -- not read
  abbrev pub IsUnread : List ℕ → Option (List ℕ) → CommandFault → Type 0
  IsUnread name list fault =
      ((fault ≡ CannotOpen 1) × IsNoFile files name)
      ⊎ ((fault ≡ OutOfMemory)
      ⊎ (IfFiles files (λ f. IsSome (f name)) × IsNoList list fault))
