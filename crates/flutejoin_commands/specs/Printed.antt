-- What the commands that leave no file print, and why they fail, stated of their inputs' names.
use Rattle.std.specs.Prelude.{◌≡◌, ◌≢◌, ◌⊎◌, ℕ, Bool, true, false, List, [], ◌∷◌, Option}
use Rattle.std.specs.Io.KnownBytes.{Appends, IsAtEnd}
use Rattle.std.specs.BTreeSet.{BTreeSet}
use Rattle.flute_parts.specs.declared.fact.Fact.{Fact}
use Rattle.flute_parts.specs.declared.key.Key.{Key}
use Rattle.flute_streams.specs.Selections.{selects}
use Rattle.flute_streams.specs.declared.choice.selection.Selection.{Selection}
use Rattle.flute_output.specs.NewFolders.{Places}
use Rattle.flutejoin.specs.Compare.{ComparesJournals}
use Rattle.flutejoin.specs.CompareLines as comparison
use Rattle.flutejoin.specs.ExtractAll.{picks_fact}
use Rattle.flutejoin.specs.Gaps.{ListsJournal, GapsFail}
use Rattle.flutejoin.specs.Limits.{Limits}
use Rattle.flutejoin.specs.Merge.{MergeFails}
use Rattle.flutejoin.specs.Packet.{HasLines, FailsWith}
use Rattle.flutejoin.specs.Selected.{picks_listed}
use Rattle.flutejoin.specs.Show.{ShowsAll, ShowFails}
use Rattle.flutejoin.specs.Styles.{passes_check, printed}
use Rattle.flutejoin.specs.declared.lines.compare_style.CompareStyle.{CompareStyle}
use Rattle.flutejoin.specs.declared.lines.form.Form.{Form}
use Rattle.flutejoin.specs.declared.lines.show_style.ShowStyle.{ShowStyle}
use Rattle.flutejoin.specs.declared.lines.style.Style.{Style}
use Rattle.flutejoin.specs.declared.extract.picked.Picked.{Picked}
use Rattle.flutejoin.specs.declared.command_fault.CommandFault.{CommandFault}
use Rattle.flutejoin.specs.declared.command_fault.CommandFault.TheVariants.{CannotWrite}
use Rattle.flutejoin.specs.declared.command_fault.CommandFault.TheVariants.{NotAllWhole}
use Rattle.flutejoin.specs.declared.command_fault.CommandFault.TheVariants.{OutOfMemory}
use Rattle.flutejoin.specs.declared.command_fault.CommandFault.TheVariants.{ValuesDiffer}
use Rattle.flutejoin_commands.specs.Files.{Files, IfFiles}
use Rattle.flutejoin_commands.specs.Folders.{LeavesFolder, FolderFails}
use Rattle.flutejoin_commands.specs.Lists.{IsUnread, OfListed}
use Rattle.flutejoin_commands.specs.Named.{IsUnopened}
use Rattle.flutejoin_commands.specs.Prints.{FailsToFlush}
use Rattle.flutejoin_commands.specs.Worlds.{IsNotMade}

-- the lines of the packet were printed
abbrev pub PrintsPacket : List ℕ → Form → Option (List ℕ) → Option (List ℕ) → Type 0
PrintsPacket text form old new = HasLines text form (Appends old new)

-- why not, and what was printed
abbrev pub PacketFails : List ℕ → Form → Option (List ℕ) → Option (List ℕ) → CommandFault
    → Type 0
PacketFails text form old new fault =
    FailsWith text form old new fault ⊎ FailsToFlush (PrintsPacket text form old new) fault

-- what is selected, of the objects that are listed
abbrev pub chosen : Selection → Option (BTreeSet Key) → Fact → Bool
chosen selection listed = picks_listed listed (selects selection)

-- a journal and a list of its objects, by their names
module _ (files : Option Files) (name : List ℕ) (list : Option (List ℕ)) where
  -- what is selected of the entries of the journal was printed
  abbrev pub ShowsName : ShowStyle → Selection → Option (List ℕ) → Option (List ℕ) → Type 0
  ShowsName style selection old new = OfListed files list (λ listed.
      IfFiles files (λ f. ShowsAll style (chosen selection listed) (f name) old new))

  -- why not, and what was printed
  abbrev pub ShowNameFails : ShowStyle → Selection → Option (List ℕ) → Option (List ℕ)
      → CommandFault → Type 0
  ShowNameFails style selection old new fault =
      (IsUnread files name list fault × (new ≡ old))
      ⊎ OfListed files list (λ listed. IfFiles files (λ f. (left : Option (List ℕ))
      × (ShowFails style (chosen selection listed) (f name) left old new fault
      ⊎ FailsToFlush (ShowsAll style (chosen selection listed) (f name) old new) fault)))

  -- what is missing of the selected objects of the journal was printed, and they passed their
  -- check, or did not
  abbrev pub ListsObjects : Limits → Selection → Style → Bool → Option (List ℕ)
      → Option (List ℕ) → Type 0
  ListsObjects most selection style passes old new = OfListed files list (λ listed.
      IfFiles files (λ f. ListsJournal most (chosen selection listed) (f name)
      (λ objects. Appends old new (printed style objects)
      × (passes_check style objects ≡ passes))))

  -- it was printed, and each object is whole that has to be
  abbrev pub ListsName : Limits → Selection → Style → Option (List ℕ) → Option (List ℕ)
      → Type 0
  ListsName most selection style = ListsObjects most selection style true

  -- why not: all was printed, and an object is not whole that has to be; or nothing was printed,
  -- unless the fault is that of writing
  abbrev pub ListNameFails : Limits → Selection → Style → Option (List ℕ)
      → Option (List ℕ) → CommandFault → Type 0
  ListNameFails most selection style old new fault =
      ((fault ≡ NotAllWhole) × ListsObjects most selection style false old new)
      ⊎ ((IsUnread files name list fault
      ⊎ OfListed files list (λ listed. IfFiles files (λ f. (left : Option (List ℕ))
      × (GapsFail most (f name) left fault ⊎ FailsToFlush (IsAtEnd left) fault))))
      × (fault ≢ CannotWrite → new ≡ old))

  -- the folder, which is new, has a file for each whole object of the journal that is picked
  abbrev pub LeavesFolderOfName : Limits → Picked → Option Places → Option Places
      → Option (List ℕ) → Option (List ℕ) → Type 0
  LeavesFolderOfName most picked folder after old new = OfListed files list (λ listed.
      IfFiles files (λ f. LeavesFolder most (f name)
      (picks_listed listed (picks_fact picked)) folder after old new))

  -- why not, and what became of the folder
  abbrev pub FolderOfNameFails : Limits → Picked → Option Places → Option Places
      → CommandFault → Type 0
  FolderOfNameFails most picked folder after fault =
      ((IsUnread files name list fault ⊎ IsNotMade fault) × (after ≡ folder))
      ⊎ OfListed files list (λ listed. IfFiles files (λ f. (left : Option (List ℕ))
      × FolderFails most (f name) left
      (picks_listed listed (picks_fact picked)) folder after fault))

module _ (files : Option Files) (first second : List ℕ) where
  -- how the journals of two names differ in the selected objects was printed, and they passed
  -- their check, or did not
  abbrev pub ComparesObjects : Selection → CompareStyle → Bool → Option (List ℕ)
      → Option (List ℕ) → Type 0
  ComparesObjects selection style passes old new =
      IfFiles files (λ f. ComparesJournals selection selection (f first) (f second)
      (λ rows. Appends old new (comparison.compared style rows)
      × (comparison.passes_check style rows ≡ passes)))

  -- it was printed, and nothing differs that must not
  abbrev pub ComparesNames : Selection → CompareStyle → Option (List ℕ) → Option (List ℕ)
      → Type 0
  ComparesNames selection style = ComparesObjects selection style true

  -- why not: all was printed, and something differs that must not; or nothing was printed, unless
  -- the fault is that of writing
  abbrev pub CompareNamesFail : Selection → CompareStyle → Option (List ℕ) → Option (List ℕ)
      → CommandFault → Type 0
  CompareNamesFail selection style old new fault =
      ((fault ≡ ValuesDiffer) × ComparesObjects selection style false old new)
      ⊎ (((IsUnopened files (first ∷ second ∷ []) fault ⊎ (fault ≡ OutOfMemory))
      ⊎ IfFiles files (λ f. MergeFails (f first) (f second) fault))
      × (fault ≢ CannotWrite → new ≡ old))
