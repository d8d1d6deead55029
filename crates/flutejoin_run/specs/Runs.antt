-- What a line of words does, and why it fails.
use Rattle.std.specs.Prelude.{◌≡◌, ◌⊎◌, List, ℕ, Option, ⊤}
use Rattle.flutejoin.specs.declared.command_fault.CommandFault.{CommandFault}
use Rattle.flutejoin_commands.specs.Closings.{Closing, ClosesWhole}
use Rattle.flutejoin_commands.specs.Deeds.{Deed, IsDone, IsNotDone, Printing, adds, adds_list}
use Rattle.flutejoin_commands.specs.Deeds.{compares, extracts, extracts_all, fills, forgets}
use Rattle.flutejoin_commands.specs.Deeds.{forgets_list, joins, lists, merges, prints_packet}
use Rattle.flutejoin_commands.specs.Deeds.{sends, shows, subtracts}
use Rattle.flutejoin_commands.specs.Files.{Files}
use Rattle.flutejoin_commands.specs.Folders.{FolderNames}
use Rattle.flutejoin_commands.specs.Worlds.{Outside, Spares}
use Rattle.flutejoin_line.specs.LineFaults.{IsFaultIn, IsLineIn}
use Rattle.flutejoin_line.specs.declared.line.Line.{Line}
use Rattle.flutejoin_line.specs.declared.line.Line.TheVariants.{Packet, Show, Gaps, Compare}
use Rattle.flutejoin_line.specs.declared.line.Line.TheVariants.{Extract, ExtractAll, Info}
use Rattle.flutejoin_line.specs.declared.line.Line.TheVariants.{InfoList, Join, Merge, Minus}
use Rattle.flutejoin_line.specs.declared.line.Line.TheVariants.{Fill, Forget, ForgetList, Carousel}
use Rattle.flutejoin_line.specs.declared.target.Target.{Target}

-- what a line does: it leaves what a command writes at a name, or only prints
pub data Task : Type 1 where
  leaves : Target → Deed → Task
  prints : Printing → Task

-- what a line asks the program to do
abbrev pub task_of : Line → Task
task_of (Packet line) = prints (prints_packet line)
task_of (Show line) = prints (shows line)
task_of (Gaps line) = prints (lists line)
task_of (Compare line) = prints (compares line)
task_of (ExtractAll line) = prints (extracts_all line)
task_of (Extract line) = leaves line.target (extracts line)
task_of (Info line) = leaves line.target (adds line)
task_of (InfoList line) = leaves line.target (adds_list line)
task_of (Join line) = leaves line.target (joins line)
task_of (Merge line) = leaves line.target (merges line)
task_of (Minus line) = leaves line.target (subtracts line)
task_of (Fill line) = leaves line.target (fills line)
task_of (Forget line) = leaves line.target (forgets line)
task_of (ForgetList line) = leaves line.target (forgets_list line)
task_of (Carousel line) = leaves line.target (sends line)

-- only standard output changed, and as P says
abbrev pub OnlyPrints : Outside → Outside → Type 0 → Type 0
OnlyPrints old new P = (new.files ≡ old.files) × (new.errors ≡ old.errors) × P

-- the places that names of new folders led to, and lead to now
module _ (folders after : FolderNames) where
  -- a task is done, and what is outside changes so
  abbrev pub Does : Task → Outside → Outside → Type 0
  Does (leaves target deed) old new = IsDone deed target old new
  Does (prints p) old new =
      OnlyPrints old new (p.done folders after old.files old.output new.output)

  -- why a task is not done, and what changes all the same
  abbrev pub FailsToDo : Task → Outside → Outside → CommandFault → Type 0
  FailsToDo (leaves target deed) old new fault = IsNotDone deed target old new fault
  FailsToDo (prints p) old new fault =
      OnlyPrints old new (p.fails folders after old.files old.output new.output fault)

  -- its new folder, if it leaves one, was whole or not there at any moment; each other name leads
  -- to what it led to
  abbrev pub KeepsFolders : Task → Type 0
  KeepsFolders (leaves target deed) = after ≡ folders
  KeepsFolders (prints p) = p.keeps folders after

-- its output, if it leaves a file, is spared
abbrev pub SparesOut : Task → Option Files → Option Files → Type 0
SparesOut (leaves target deed) old new = Spares target.overwrites target.out.now old new
SparesOut (prints p) old new = ⊤

-- at most that output is closed, and it was whole at any moment; without one nothing is closed
abbrev pub ClosesOut : Task → Option Files → Option (List Closing) → Option (List Closing)
    → Type 0
ClosesOut (leaves target deed) files old new = ClosesWhole target.out.now files old new
ClosesOut (prints p) files old new = new ≡ old

-- the words are a line of such an output, or nothing is closed
abbrev pub ClosesOutOfWords : List (List ℕ) → Option Files → Option (List Closing)
    → Option (List Closing) → Type 0
ClosesOutOfWords words files old new =
    (new ≡ old) ⊎ ((line : Line) × IsLineIn words line
    × ClosesOut (task_of line) files old new)

-- the words are a line of such a folder, or no name of a folder changes
abbrev pub KeepsFoldersOfWords : FolderNames → FolderNames → List (List ℕ) → Type 0
KeepsFoldersOfWords folders after words =
    (after ≡ folders) ⊎ ((line : Line) × IsLineIn words line
    × KeepsFolders folders after (task_of line))

-- the words are a line, and it is done; its output was one that may be overwritten
abbrev pub DoesWords : FolderNames → FolderNames → List (List ℕ) → Outside → Outside → Type 0
DoesWords folders after words old new =
    (line : Line) × IsLineIn words line × SparesOut (task_of line) old.files new.files
    × Does folders after (task_of line) old new

-- the words are no line, and nothing changes; or they are one, and it fails
abbrev pub FailsToDoWords : FolderNames → FolderNames → List (List ℕ) → Outside → Outside
    → CommandFault → Type 0
FailsToDoWords folders after words old new fault =
    (IsFaultIn words fault × (new ≡ old))
    ⊎ ((line : Line) × IsLineIn words line × SparesOut (task_of line) old.files new.files
    × FailsToDo folders after (task_of line) old new fault)
