-- What each command does, by its line.
use Rattle.std.specs.Prelude.{◌≡◌, ℕ, List, Option, Some, None, true, not}
use Rattle.std.specs.Borrow.{Bor}
use Rattle.flute_streams.specs.Scopes.{is_all}
use Rattle.flutejoin.specs.Lines.{entries_line}
use Rattle.flutejoin.specs.declared.command_fault.CommandFault.{CommandFault}
use Rattle.flutejoin.specs.declared.forget.ForgetCounts.{ForgetCounts}
use Rattle.flutejoin.specs.declared.join.join_counts.JoinCounts.{JoinCounts}
use Rattle.flutejoin_commands.specs.Files.{Files}
use Rattle.flutejoin_commands.specs.Folders.{FolderNames, KeepsFolder}
use Rattle.flutejoin_commands.specs.Named.{AddListOfNamesFails, AddToNameFails}
use Rattle.flutejoin_commands.specs.Named.{AddsListOfNames, AddsToName, ExtractOfNameFails}
use Rattle.flutejoin_commands.specs.Named.{FillOfNamesFails, FillsOfNames}
use Rattle.flutejoin_commands.specs.Named.{ForgetsInName, ForgetInNameFails}
use Rattle.flutejoin_commands.specs.Named.{ForgetListOfNamesFails, ForgetsListOfNames}
use Rattle.flutejoin_commands.specs.Named.{HoldsOfName, JoinsNames, JoinNamesFails}
use Rattle.flutejoin_commands.specs.Named.{JoinsWithoutNames, JoinWithoutFails}
use Rattle.flutejoin_commands.specs.Named.{MergesNames, MergeNamesFails, MinusOfNames}
use Rattle.flutejoin_commands.specs.Named.{MinusOfNamesFails, SendsName, SendNameFails}
use Rattle.flutejoin_commands.specs.Named.{WritesOfName}
use Rattle.flutejoin_commands.specs.Printed.{CompareNamesFail, ComparesNames}
use Rattle.flutejoin_commands.specs.Printed.{FolderOfNameFails, LeavesFolderOfName, ListNameFails}
use Rattle.flutejoin_commands.specs.Printed.{ListsName, PacketFails, PrintsPacket, ShowNameFails}
use Rattle.flutejoin_commands.specs.Printed.{ShowsName}
use Rattle.flutejoin_commands.specs.Works.{bytes_line, datagrams_line, forget_lines, join_lines}
use Rattle.flutejoin_commands.specs.Works.{most_of}
use Rattle.flutejoin_commands.specs.Worlds.{FailsToLeave, Leaves, Outside}
use Rattle.flutejoin_line.specs.CommandLine.{list_of}
use Rattle.flutejoin_line.specs.declared.carousel_line.CarouselLine.{CarouselLine}
use Rattle.flutejoin_line.specs.declared.compare_line.CompareLine.{CompareLine}
use Rattle.flutejoin_line.specs.declared.extract_line.ExtractAllLine.{ExtractAllLine}
use Rattle.flutejoin_line.specs.declared.extract_line.ExtractLine.{ExtractLine}
use Rattle.flutejoin_line.specs.declared.fill_line.FillLine.{FillLine}
use Rattle.flutejoin_line.specs.declared.forget_line.ForgetLine.{ForgetLine}
use Rattle.flutejoin_line.specs.declared.forget_line.ForgetListLine.{ForgetListLine}
use Rattle.flutejoin_line.specs.declared.gaps_line.GapsLine.{GapsLine}
use Rattle.flutejoin_line.specs.declared.info_line.InfoLine.{InfoLine}
use Rattle.flutejoin_line.specs.declared.info_line.InfoListLine.{InfoListLine}
use Rattle.flutejoin_line.specs.declared.join_line.JoinLine.{JoinLine}
use Rattle.flutejoin_line.specs.declared.merge_line.MergeLine.{MergeLine}
use Rattle.flutejoin_line.specs.declared.minus_line.MinusLine.{MinusLine}
use Rattle.flutejoin_line.specs.declared.packet_line.PacketLine.{PacketLine}
use Rattle.flutejoin_line.specs.declared.show_line.ShowLine.{ShowLine}
use Rattle.flutejoin_line.specs.declared.target.Target.{Target}

-- ---- what is left at a name

-- What a command writes for an answer, from what its output had taken to what it has, where the
-- names lead to these files; the same where the output takes its bytes itself; why it fails; and
-- the lines that it prints.
pub record Deed : Type 1 where
  pub Answer : Type 0
  pub writes : Option Files → Answer → Option (List ℕ) → Option (List ℕ) → Type 0
  pub puts : Option Files → Answer → Option (List ℕ) → Option (List ℕ) → Type 0
  pub fails : Option Files → CommandFault → Type 0
  pub lines : Answer → List ℕ

-- one that writes the same wherever it goes
abbrev pub plain : {A : Type 0}
    → (Option Files → A → Option (List ℕ) → Option (List ℕ) → Type 0)
    → (Option Files → CommandFault → Type 0) → (A → List ℕ) → Deed
plain {A} writes fails lines = record {
  Answer = A;
  writes = writes;
  puts = writes;
  fails = fails;
  lines = lines;
}

-- the deed was done: what it writes was left at the target
abbrev pub IsDone : Deed → Target → Outside → Outside → Type 0
IsDone deed target old new =
    Leaves (deed.writes old.files) (deed.puts old.files) deed.lines target.out.now old new

-- why a deed was not done
abbrev pub IsNotDone : Deed → Target → Outside → Outside → CommandFault → Type 0
IsNotDone deed target old new fault =
    FailsToLeave (deed.writes old.files) (deed.fails old.files) target.out.now old new fault

-- of all objects of the line's scope
abbrev pub joins_all : JoinLine → Deed
joins_all line = plain {A = JoinCounts} (λ files. JoinsNames files line)
    (λ files. JoinNamesFails files line) (join_lines (not (is_all line.scope)) line.reasons)

-- without those that a file of this name lists
abbrev pub joins_without : JoinLine → List ℕ → Deed
joins_without line list = plain {A = JoinCounts} (λ files. JoinsWithoutNames files line list)
    (λ files. JoinWithoutFails files line list) (join_lines true line.reasons)

-- what `join` does, with the list of objects that it leaves out, or without one
abbrev pub joins_by : JoinLine → Option (Bor (List ℕ)) → Deed
joins_by line None = joins_all line
joins_by line (Some list) = joins_without line list.now

-- what `join` does
abbrev pub joins : JoinLine → Deed
joins line = joins_by line line.without

-- what `merge` does
abbrev pub merges : MergeLine → Deed
merges line = plain {A = ℕ} (λ files. MergesNames files line.a.now line.b.now)
    (λ files. MergeNamesFails files line.a.now line.b.now) entries_line

-- what `minus` does
abbrev pub subtracts : MinusLine → Deed
subtracts line = plain {A = ℕ} (λ files. MinusOfNames files line.first.now line.second.now)
    (λ files. MinusOfNamesFails files line.first.now line.second.now) entries_line

-- what `fill` does
abbrev pub fills : FillLine → Deed
fills line = plain {A = ℕ}
    (λ files. FillsOfNames files line.asking line.journal.now line.gaps.now)
    (λ files. FillOfNamesFails files line.journal.now line.gaps.now) entries_line

-- what `info` does
abbrev pub adds : InfoLine → Deed
adds line = plain {A = ℕ} (λ files. AddsToName files line.journal.now line.key line.info)
    (λ files. AddToNameFails files (most_of line.limit) line.journal.now line.key line.info)
    entries_line

-- what `info --list` does
abbrev pub adds_list : InfoListLine → Deed
adds_list line = plain {A = ℕ} (λ files. AddsListOfNames files line.journal.now line.list.now)
    (λ files. AddListOfNamesFails files (most_of line.limit) line.journal.now line.list.now)
    entries_line

-- what `forget` does
abbrev pub forgets : ForgetLine → Deed
forgets line = plain {A = ForgetCounts}
    (λ files. ForgetsInName files line.journal.now line.selection)
    (λ files. ForgetInNameFails files line.journal.now) forget_lines

-- what `forget --list` does
abbrev pub forgets_list : ForgetListLine → Deed
forgets_list line = plain {A = ForgetCounts}
    (λ files. ForgetsListOfNames files line.inputs.journal.now line.inputs.list.now line.selection)
    (λ files. ForgetListOfNamesFails files line.inputs.journal.now line.inputs.list.now)
    forget_lines

-- what `extract` does
abbrev pub extracts : ExtractLine → Deed
extracts line = record {
  Answer = ℕ;
  writes = λ files. WritesOfName files (most_of line.limit) line.journal.now line.key;
  puts = λ files. HoldsOfName files (most_of line.limit) line.journal.now line.key;
  fails = λ files. ExtractOfNameFails files (most_of line.limit) line.journal.now line.key;
  lines = bytes_line;
}

-- what `carousel` does
abbrev pub sends : CarouselLine → Deed
sends line = plain {A = ℕ} (λ files. SendsName files line.file.now line.key line.symbol line.block)
    (λ files. SendNameFails files line.file.now line.key line.symbol line.block) datagrams_line

-- ---- what is printed alone

-- What a command prints, from what standard output had taken to what it has, where the names lead
-- to these files, and names of new folders led, and lead now, to these places; why it fails; and
-- how names of new folders change in either case.
pub record Printing : Type 1 where
  pub done : FolderNames → FolderNames → Option Files → Option (List ℕ) → Option (List ℕ) → Type 0
  pub fails : FolderNames → FolderNames → Option Files → Option (List ℕ) → Option (List ℕ)
      → CommandFault → Type 0
  pub keeps : FolderNames → FolderNames → Type 0

-- one that leaves no folder
abbrev pub prints_only : (Option Files → Option (List ℕ) → Option (List ℕ) → Type 0)
    → (Option Files → Option (List ℕ) → Option (List ℕ) → CommandFault → Type 0) → Printing
prints_only done fails = record {
  done = λ folders after. done;
  fails = λ folders after. fails;
  keeps = λ folders after. after ≡ folders;
}

-- what `packet` prints
abbrev pub prints_packet : PacketLine → Printing
prints_packet line = prints_only (λ files. PrintsPacket line.hex.now line.form)
    (λ files. PacketFails line.hex.now line.form)

-- what `show` prints
abbrev pub shows : ShowLine → Printing
shows line = prints_only
    (λ files. ShowsName files line.inputs.journal.now (list_of line.inputs) line.style
    line.selection)
    (λ files. ShowNameFails files line.inputs.journal.now (list_of line.inputs) line.style
    line.selection)

-- what `gaps` prints
abbrev pub lists : GapsLine → Printing
lists line = prints_only
    (λ files. ListsName files line.inputs.journal.now (list_of line.inputs) (most_of line.limit)
    line.selection line.style)
    (λ files. ListNameFails files line.inputs.journal.now (list_of line.inputs)
    (most_of line.limit) line.selection line.style)

-- what `compare` prints
abbrev pub compares : CompareLine → Printing
compares line = prints_only
    (λ files. ComparesNames files line.first.now line.second.now line.selection line.style)
    (λ files. CompareNamesFail files line.first.now line.second.now line.selection line.style)

-- and leaves a new folder
abbrev pub extracts_all : ExtractAllLine → Printing
extracts_all line = record {
  done = λ folders after files. LeavesFolderOfName files line.inputs.journal.now
      (list_of line.inputs) (most_of line.limit) line.picked (folders line.out.now)
      (after line.out.now);
  fails = λ folders after files old new. FolderOfNameFails files line.inputs.journal.now
      (list_of line.inputs) (most_of line.limit) line.picked (folders line.out.now)
      (after line.out.now);
  keeps = KeepsFolder line.out.now;
}
