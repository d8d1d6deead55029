-- When there is no line: each fault is reported only if none of those before it in the order of
-- faults is.
use Rattle.std.specs.Prelude.{◌≡◌, ◌<◌, ◌≤◌, ◌⊎◌, ⊤, ℕ, true, false, List, [], length, codes}
use Rattle.std.specs.Prelude.{◌++◌, Option, Some, None, is_some}
use Rattle.clap.specs.Kinds.{IsAmong}
use Rattle.clap.specs.Values.{kind_of}
use Rattle.clap.specs.Walk.{Row, first_of}
use Rattle.flute_parts.specs.Information.{Information, info_fault}
use Rattle.flute_parts.specs.declared.info.InfoFault.{InfoFault}
use Rattle.flute_parts.specs.declared.key.Key.{Key}
use Rattle.flute_streams.specs.declared.choice.scope.Scope.{Scope}
use Rattle.flute_streams.specs.declared.choice.selection.Selection.{Selection}
use Rattle.flutejoin.specs.declared.command_fault.CommandFault.{CommandFault}
use Rattle.flutejoin.specs.declared.command_fault.CommandFault.TheVariants.{CommandLine, BadNumber}
use Rattle.flutejoin.specs.declared.command_fault.CommandFault.TheVariants.{BadOption, BadSource}
use Rattle.flutejoin.specs.declared.command_fault.CommandFault.TheVariants.{BadInformation, BadKey}
use Rattle.flutejoin.specs.declared.command_fault.CommandFault.TheVariants.{TooManyInputs}
use Rattle.flutejoin.specs.declared.command_fault.CommandFault.TheVariants.{StandardInputTwice}
use Rattle.flutejoin.specs.declared.command_fault.CommandFault.TheVariants.{OutputIsInput}
use Rattle.flutejoin.specs.declared.command_fault.CommandFault.TheVariants.{OutOfMemory}
use Rattle.flutejoin_line.specs.CommandLine.{AreNumbersOf, IsLine, command_in, is_out_an_input}
use Rattle.flutejoin_line.specs.CommandLine.{fill_words, is_out_of_fill, list_words, pair_words}
use Rattle.flutejoin_line.specs.CommandLine.{refusals_of, without_words}
use Rattle.flutejoin_line.specs.Inputs.{IsTwice, is_standard_twice}
use Rattle.flutejoin_line.specs.Options.{HasObject, HasSessions, HasSource, IsFlag, IsFormFault}
use Rattle.flutejoin_line.specs.Options.{IsKey, IsSourceIf, IsZero, all_form, are_sessions}
use Rattle.flutejoin_line.specs.Options.{carousel_options}
use Rattle.flutejoin_line.specs.Options.{extract_form, fill_form, first_unfit, first_wrong, info_form}
use Rattle.flutejoin_line.specs.Options.{info_options, key_options, list_form, words}
use Rattle.flutejoin_line.specs.Scoping.{AreScopeNumbers, IsScope, IsWrongOfScope}
use Rattle.flutejoin_line.specs.Selecting.{IsChoiceFault, IsSelection, IsSelectionFault}
use Rattle.flutejoin_line.specs.Selecting.{NamesObject}
use Rattle.flutejoin_line.specs.Sizes.{memory_in}
use Rattle.flutejoin_line.specs.declared.line.Line.{Line}

-- of a command that names an object, and its options with their limits
abbrev pub IsKeyFault : List (List ℕ × ℕ) → (ℕ → Type 0) → List Row → CommandFault
    → Type 0
IsKeyFault options IsMeant rows (BadNumber option) = first_wrong options rows ≡ Some option.now
IsKeyFault options IsMeant rows BadSource =
    (first_wrong options rows ≡ None) × ((sender : ℕ) → IsMeant sender → ⊥)
IsKeyFault options IsMeant rows BadKey =
    (first_wrong options rows ≡ None) × ((sender : ℕ) × IsMeant sender) × HasObject rows None
IsKeyFault options IsMeant rows _ = ⊥

-- of these inputs, and of a list beside them, if there is one
abbrev pub IsInputsFault : List (List ℕ) → List (List ℕ) → CommandFault → Type 0
IsInputsFault list inputs TooManyInputs = 64 < length inputs
IsInputsFault list inputs StandardInputTwice =
    (length inputs ≤ 64) × (is_standard_twice (list ++ inputs) ≡ true)
IsInputsFault list inputs OutOfMemory =
    (length inputs ≤ 64) × (is_standard_twice (list ++ inputs) ≡ false)
IsInputsFault list inputs _ = ⊥

-- of a join each number is one of its range
abbrev pub AreJoinNumbers : List Row → Type 0
AreJoinNumbers rows = AreScopeNumbers rows × (is_some (memory_in rows) ≡ true)

-- the option with this name is the first that is none of its range
abbrev pub IsWrongOfJoin : List Row → List ℕ → Type 0
IsWrongOfJoin rows name =
    IsWrongOfScope rows name
    ⊎ (AreScopeNumbers rows × (name ≡ codes "memory") × (memory_in rows ≡ None))

-- all its options are right
pub record AreJoinOptions (rows : List Row) : Type 0 where
  pub scope : Scope
  pub is_scope : IsScope rows scope
  pub memory : is_some (memory_in rows) ≡ true
  pub sender : ℕ
  pub is_sender : HasSource rows sender

-- why words are no line of `join`
abbrev pub IsJoinFault : List Row → CommandFault → Type 0
IsJoinFault rows (BadNumber option) = IsWrongOfJoin rows option.now
IsJoinFault rows BadSource =
    AreJoinNumbers rows × ((sender : ℕ) → HasSource rows sender → ⊥)
IsJoinFault rows BadKey =
    AreJoinNumbers rows × ((sender : ℕ) × HasSource rows sender) × NamesObject rows None
IsJoinFault rows fault =
    AreJoinOptions rows
    × IsInputsFault (without_words rows) (words (codes "INPUT") rows) fault

-- of `extract --all`, which takes no `--force`
abbrev pub IsAllFault : List Row → CommandFault → Type 0
IsAllFault rows (BadOption name) =
    (first_unfit all_form rows ≡ Some name.now)
    ⊎ ((first_unfit all_form rows ≡ None) × (name.now ≡ codes "force")
    × IsFlag (codes "force") rows true)
IsAllFault rows (BadNumber option) =
    (first_unfit all_form rows ≡ None) × IsFlag (codes "force") rows false
    × (option.now ≡ codes "tsi") × (are_sessions (words (codes "tsi") rows) ≡ false)
IsAllFault rows BadSource =
    (first_unfit all_form rows ≡ None) × IsFlag (codes "force") rows false
    × ((tsis : List ℕ) × HasSessions rows tsis)
    × ((sender : ℕ) → HasSource rows sender → ⊥)
IsAllFault rows StandardInputTwice =
    (first_unfit all_form rows ≡ None) × IsFlag (codes "force") rows false
    × ((tsis : List ℕ) × HasSessions rows tsis)
    × ((sender : Option ℕ) × IsSourceIf rows sender)
    × (is_standard_twice (list_words rows) ≡ true)
IsAllFault rows _ = ⊥

-- why words are no line of `extract` for one object
abbrev pub IsOneFault : List Row → CommandFault → Type 0
IsOneFault rows =
    IsFormFault extract_form (IsKeyFault (key_options rows) (HasSource rows) rows) rows

-- why words are no line of `extract`, with `--all` or for one object
abbrev pub IsExtractFault : List Row → CommandFault → Type 0
IsExtractFault rows fault =
    (IsFlag (codes "all") rows true × IsAllFault rows fault)
    ⊎ (IsFlag (codes "all") rows false × IsOneFault rows fault)

-- why words are no line of `info --list`
abbrev pub IsListFault : List Row → CommandFault → Type 0
IsListFault rows = IsFormFault list_form (IsTwice (list_words rows)) rows

-- three numbers of their ranges are no information, of an object with a key
pub record AreNoInformation (rows : List Row) (fault : InfoFault) : Type 0 where
  pub key : Key
  pub is_key : IsKey (HasSource rows) rows key
  pub info : Information
  pub are : AreNumbersOf rows info
  pub why : info_fault info ≡ Some fault

-- why words are no line of `info` for one object
abbrev pub IsNumbersFault : List Row → CommandFault → Type 0
IsNumbersFault rows (BadInformation fault) =
    (first_unfit info_form rows ≡ None) × AreNoInformation rows fault
IsNumbersFault rows fault =
    IsFormFault info_form (IsKeyFault (info_options rows) (HasSource rows) rows) rows fault

-- why words are no line of `info`, with `--list` or for one object
abbrev pub IsInfoFault : List Row → CommandFault → Type 0
IsInfoFault rows fault =
    ((is_some (first_of (codes "list") rows) ≡ true) × IsListFault rows fault)
    ⊎ ((first_of (codes "list") rows ≡ None) × IsNumbersFault rows fault)

-- why words are no line of a command with a journal, a list of its objects, and a selection
abbrev pub IsListedFault : List Row → CommandFault → Type 0
IsListedFault rows StandardInputTwice =
    ((s : Selection) × IsSelection rows s) × (is_standard_twice (list_words rows) ≡ true)
IsListedFault rows fault = IsSelectionFault rows fault

-- why words are no line of `forget --list`
abbrev pub IsForgetListFault : List Row → CommandFault → Type 0
IsForgetListFault rows StandardInputTwice = is_standard_twice (list_words rows) ≡ true
IsForgetListFault rows fault = IsSelectionFault rows fault

-- why words are no line of `forget`
abbrev pub IsForgetFault : List Row → CommandFault → Type 0
IsForgetFault rows fault =
    ((is_some (first_of (codes "list") rows) ≡ true) × IsForgetListFault rows fault)
    ⊎ ((first_of (codes "list") rows ≡ None) × IsChoiceFault rows fault)

-- why words are no line of a command with two journals
abbrev pub IsPairFault : List Row → CommandFault → Type 0
IsPairFault rows = IsTwice (pair_words rows)

-- why words are no line of a command with two journals that writes an output
abbrev pub IsOutFault : List Row → CommandFault → Type 0
IsOutFault rows OutputIsInput =
    (is_standard_twice (pair_words rows) ≡ false) × (is_out_an_input rows ≡ true)
IsOutFault rows fault = IsPairFault rows fault

-- of `fill`
abbrev pub IsFillFault : List Row → CommandFault → Type 0
IsFillFault rows OutputIsInput =
    (first_unfit fill_form rows ≡ None) × (is_standard_twice (fill_words rows) ≡ false)
    × (is_out_of_fill rows ≡ true)
IsFillFault rows fault = IsFormFault fill_form (IsTwice (fill_words rows)) rows fault

-- of two journals, of which objects are selected
abbrev pub IsCompareFault : List Row → CommandFault → Type 0
IsCompareFault rows StandardInputTwice =
    ((s : Selection) × IsSelection rows s) × (is_standard_twice (pair_words rows) ≡ true)
IsCompareFault rows fault = IsSelectionFault rows fault

-- why these rows of the command with this name are no line
abbrev pub IsFault : List ℕ → List Row → CommandFault → Type 0
IsFault name rows fault =
    ((name ≡ codes "extract") × IsExtractFault rows fault)
    ⊎ (((name ≡ codes "info") × IsInfoFault rows fault)
    ⊎ (((name ≡ codes "carousel") × IsKeyFault (carousel_options rows) IsZero rows fault)
    ⊎ (((name ≡ codes "join") × IsJoinFault rows fault)
    ⊎ (((name ≡ codes "merge") × IsOutFault rows fault)
    ⊎ (((name ≡ codes "minus") × IsOutFault rows fault)
    ⊎ (((name ≡ codes "fill") × IsFillFault rows fault)
    ⊎ (((name ≡ codes "compare") × IsCompareFault rows fault)
    ⊎ (((name ≡ codes "forget") × IsForgetFault rows fault)
    ⊎ (((name ≡ codes "show") × IsListedFault rows fault)
    ⊎ ((name ≡ codes "gaps") × IsListedFault rows fault))))))))))

-- the line is what the parser found for its command
abbrev pub IsLineOf : Option (List ℕ × List Row) → Line → Type 0
IsLineOf None line = ⊥
IsLineOf (Some found) line = IsLine found.0 found.1 line

-- why what it found is no line
abbrev pub IsFaultOf : Option (List ℕ × List Row) → CommandFault → Type 0
IsFaultOf None fault = ⊥
IsFaultOf (Some found) fault = IsFault found.0 found.1 fault

-- ---- words

-- the parser refuses the words, by its own reasons, or for want of memory
abbrev pub IsRefusal : List (List ℕ) → CommandFault → Type 0
IsRefusal words (CommandLine error) = IsAmong (kind_of error) (refusals_of words)
IsRefusal words OutOfMemory = ⊤
IsRefusal words _ = ⊥

-- the parser takes the words, and the line is what they say
abbrev pub IsLineIn : List (List ℕ) → Line → Type 0
IsLineIn words line = (refusals_of words ≡ []) × IsLineOf (command_in words) line

-- it refuses them, or what it finds in them is no line
abbrev pub IsFaultIn : List (List ℕ) → CommandFault → Type 0
IsFaultIn words fault =
    IsRefusal words fault
    ⊎ ((refusals_of words ≡ []) × IsFaultOf (command_in words) fault)
