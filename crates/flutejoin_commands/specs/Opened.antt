-- Inputs that were opened by their names.
use Rattle.std.specs.Prelude.{◌≡◌, ◌≤◌, ◌+◌, ◌⊎◌, ⊤, ℕ, List, length, slice_get, Option, Some}
use Rattle.std.specs.Prelude.{None, IfSome, [], ◌∷◌, ◌++◌}
use Rattle.std.specs.Borrow.{Bor}
use Rattle.flute_journal.specs.declared.fault.ReadFault.TheVariants.{Read}
use Rattle.flutejoin.specs.JoinInputs.{IsInput}
use Rattle.flutejoin.specs.declared.join.join_input.JoinInput.{JoinInput}
use Rattle.flutejoin.specs.declared.command_fault.CommandFault.{CommandFault}
use Rattle.flutejoin.specs.declared.command_fault.CommandFault.TheVariants.{CannotOpen, Input}
use Rattle.flutejoin.specs.declared.command_fault.CommandFault.TheVariants.{OutOfMemory}
use Rattle.flutejoin_commands.specs.Files.{Files, HasBytes, IsNoFile}

-- the names of the inputs of a join, and then that of its list, if there is one
abbrev pub names_with : List (List ℕ) → Option (Bor (List ℕ)) → List (List ℕ)
names_with names None = names
names_with names (Some list) = names ++ list.now ∷ []

-- why the list with this number, if there is one, is not opened
abbrev pub IsListUnopened : Option Files → ℕ → Option (Bor (List ℕ)) → CommandFault
    → Type 0
IsListUnopened files number None fault = ⊥
IsListUnopened files number (Some name) fault =
    ((fault ≡ CannotOpen number) × IsNoFile files name.now) ⊎ (fault ≡ OutOfMemory)

module _ {R : Type 0} (files : Option Files) (unread : R → Option (List ℕ)) where
  -- the name was opened, and the input is what it has
  abbrev pub IsOpened : List ℕ → JoinInput R → Type 0
  IsOpened name input =
      (source : R) × HasBytes files name (unread source)
      × IfSome (unread source) (IsInput unread input)

  -- the first so many names were opened, in their order
  pub record AreFirstOpened (count : ℕ) (names : List (List ℕ))
      (opened : List (JoinInput R)) : Type 0 where
    pub as_many : length opened ≡ count
    pub few : count ≤ length names
    pub each : (k : ℕ) (name : List ℕ) (input : JoinInput R) → slice_get names k ≡ Some name
        → slice_get opened k ≡ Some input → IsOpened name input

  -- all names were opened
  abbrev pub AreOpened : List (List ℕ) → List (JoinInput R) → Type 0
  AreOpened names opened = AreFirstOpened (length names) names opened

  -- the list was opened, if one is named
  abbrev pub IsListOpened : Option (Bor (List ℕ)) → Option R → Type 0
  IsListOpened None None = ⊤
  IsListOpened None (Some list) = ⊥
  IsListOpened (Some name) None = ⊥
  IsListOpened (Some name) (Some list) = HasBytes files name.now (unread list)

  -- the name with this number was refused, or its source failed; or there was no memory
  abbrev pub IsNotOpened : ℕ → List ℕ → CommandFault → Type 0
  IsNotOpened number name fault =
      (((fault ≡ CannotOpen number) × IsNoFile files name)
      ⊎ ((fault ≡ Input number Read) × ((source : R) × HasBytes files name (unread source))))
      ⊎ (fault ≡ OutOfMemory)

  -- one of the names was not opened; those before it were, and nothing else was to be opened
  pub record FirstNotOpened (names : List (List ℕ)) (old new : ℕ)
      (fault : CommandFault) : Type 0 where
    pub before : ℕ
    pub opened : List (JoinInput R)
    pub are_opened : AreFirstOpened before names opened
    pub name : List ℕ
    pub here : slice_get names before ≡ Some name
    pub why : IsNotOpened (before + 1) name fault
    pub asked : new ≡ old + (before + 1)
