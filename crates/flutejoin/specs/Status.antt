-- The program's status after a fault.
use Rattle.std.specs.Prelude.{ℕ, zero, suc}
use Rattle.flutejoin.specs.declared.command_fault.CommandFault.{CommandFault}
use Rattle.flutejoin.specs.declared.command_fault.CommandFault.TheVariants.{CommandLine, NotText}
use Rattle.flutejoin.specs.declared.command_fault.CommandFault.TheVariants.{BadNumber, BadSource}
use Rattle.flutejoin.specs.declared.command_fault.CommandFault.TheVariants.{BadOption, BadKey}
use Rattle.flutejoin.specs.declared.command_fault.CommandFault.TheVariants.{MissingChoice}
use Rattle.flutejoin.specs.declared.command_fault.CommandFault.TheVariants.{MissingOption}
use Rattle.flutejoin.specs.declared.command_fault.CommandFault.TheVariants.{StandardInputTwice}
use Rattle.flutejoin.specs.declared.command_fault.CommandFault.TheVariants.{TooManyInputs}
use Rattle.flutejoin.specs.declared.command_fault.CommandFault.TheVariants.{OutputIsInput}
use Rattle.flutejoin.specs.declared.command_fault.CommandFault.TheVariants.{OutputIsDatagrams}
use Rattle.flutejoin.specs.declared.command_fault.CommandFault.TheVariants.{OutputIsJournal}
use Rattle.flutejoin.specs.declared.command_fault.CommandFault.TheVariants.{BadInformation, BadHex}
use Rattle.flutejoin.specs.declared.command_fault.CommandFault.TheVariants.{Refused, CannotSend}
use Rattle.flutejoin.specs.declared.command_fault.CommandFault.TheVariants.{TooLarge, ListLine}
use Rattle.flutejoin.specs.declared.command_fault.CommandFault.TheVariants.{ListInformation}
use Rattle.flutejoin.specs.declared.command_fault.CommandFault.TheVariants.{CannotOpen, Input}
use Rattle.flutejoin.specs.declared.command_fault.CommandFault.TheVariants.{UnknownKind, Full}
use Rattle.flutejoin.specs.declared.command_fault.CommandFault.TheVariants.{NoObject, NoInformation}
use Rattle.flutejoin.specs.declared.command_fault.CommandFault.TheVariants.{ConflictingInformation}
use Rattle.flutejoin.specs.declared.command_fault.CommandFault.TheVariants.{NotWhole, OutOfMemory}
use Rattle.flutejoin.specs.declared.command_fault.CommandFault.TheVariants.{CannotCreate}
use Rattle.flutejoin.specs.declared.command_fault.CommandFault.TheVariants.{CannotWrite, NotOnDisk}
use Rattle.flutejoin.specs.declared.command_fault.CommandFault.TheVariants.{NotAllWhole, ValuesDiffer}
use Rattle.flutejoin.specs.declared.command_fault.CommandFault.TheVariants.{CannotPutAside, BadLine}
use Rattle.flute_journal.specs.declared.fault.ReadFault.{ReadFault}
use Rattle.flute_journal.specs.declared.fault.ReadFault.TheVariants as faults
use Rattle.flute_journal.specs.declared.fault.LoadFault.{LoadFault}
use Rattle.flute_journal.specs.declared.fault.LoadFault.TheVariants as loads

-- a journal at fault is wrong, and a failed device or want of memory is not its fault
abbrev pub read_status : ReadFault → ℕ
read_status faults.Read = 3
read_status faults.OutOfMemory = 3
read_status fault = 1

-- 1 for what is wrong in the input, 2 for the command line, and 3 for memory and devices
abbrev pub exit_status : CommandFault → ℕ
exit_status (CommandLine text) = 2
exit_status NotText = 2
exit_status (BadNumber option) = 2
exit_status (BadOption option) = 2
exit_status (MissingOption option) = 2
exit_status MissingChoice = 2
exit_status BadSource = 2
exit_status BadKey = 2
exit_status TooManyInputs = 2
exit_status StandardInputTwice = 2
exit_status OutputIsInput = 2
exit_status OutputIsDatagrams = 2
exit_status OutputIsJournal = 2
exit_status (BadInformation fault) = 1
exit_status (CannotSend fault) = 1
exit_status (TooLarge number) = 1
exit_status (ListLine number) = 1
exit_status (ListInformation number fault) = 1
exit_status (BadLine number) = 1
exit_status BadHex = 1
exit_status (Refused refusal) = 1
exit_status (CannotOpen number) = 3
exit_status (Input number fault) = read_status fault
exit_status (UnknownKind number) = 1
exit_status Full = 1
exit_status NoObject = 1
exit_status NoInformation = 1
exit_status ConflictingInformation = 1
exit_status (NotWhole sbn esi) = 1
exit_status OutOfMemory = 3
exit_status CannotCreate = 3
exit_status CannotWrite = 3
exit_status CannotPutAside = 3
exit_status NotOnDisk = 3
exit_status NotAllWhole = 1
exit_status ValuesDiffer = 1

-- what the fault of a journal with this number, read into a store, is
abbrev pub of_load : ℕ → LoadFault → CommandFault
of_load number (loads.Read fault) = Input number fault
of_load number loads.Full = Full
of_load number loads.OutOfMemory = OutOfMemory

-- why a join stopped at a stream: the first, 0, is that of what is held, and the others are inputs
abbrev pub of_stop : ℕ → LoadFault → CommandFault
of_stop zero fault = CannotPutAside
of_stop (suc number) fault = of_load (suc number) fault
