-- The numbers of faults.
use Rattle.std.specs.Prelude.{ℕ, ◌+◌, ◌*◌}
use Rattle.flute_wire.specs.declared.refusal.Refusal.{Refusal}
use Rattle.flute_wire.specs.declared.refusal.Refusal.TheVariants as refusals
use Rattle.flutejoin.specs.declared.command_fault.CommandFault.{CommandFault}
use Rattle.flutejoin.specs.declared.command_fault.CommandFault.TheVariants as faults

-- Of a fault that the calls return. A device in memory fails only for want of memory. 1 is left to
-- what stands before the calls, and no call returns 14.
abbrev pub code_of : CommandFault → ℕ
code_of faults.BadKey = 2
code_of faults.TooManyInputs = 3
code_of (faults.Refused refusal) = 4
code_of (faults.Input number fault) = 5
code_of (faults.UnknownKind number) = 6
code_of (faults.BadLine number) = 7
code_of faults.Full = 8
code_of faults.NoObject = 9
code_of faults.NoInformation = 10
code_of faults.ConflictingInformation = 11
code_of (faults.NotWhole sbn esi) = 12
code_of faults.OutOfMemory = 13
code_of faults.CannotWrite = 13
code_of faults.CannotPutAside = 13
code_of fault = 14

-- of a refusal, as it is shown
abbrev pub refusal_number : Refusal → ℕ
refusal_number refusals.TooLong = 1
refusal_number refusals.TooShort = 2
refusal_number refusals.LctVersion = 3
refusal_number refusals.HeaderLength = 4
refusal_number refusals.HeaderCut = 5
refusal_number refusals.NoTsi = 6
refusal_number refusals.NoToi = 7
refusal_number refusals.Codepoint = 8
refusal_number refusals.ExtensionLength = 9
refusal_number refusals.Repeated = 10
refusal_number refusals.FtiLength = 11
refusal_number (refusals.Information fault) = 12
refusal_number refusals.NoInstance = 13
refusal_number refusals.FluteVersion = 14
refusal_number refusals.ContentEncoded = 15
refusal_number refusals.PayloadIdCut = 16

-- the input, refusal, line or symbol that a fault names
abbrev pub number_of : CommandFault → ℕ
number_of (faults.Refused refusal) = refusal_number refusal
number_of (faults.Input number fault) = number
number_of (faults.UnknownKind number) = number
number_of (faults.BadLine number) = number
number_of (faults.NotWhole sbn esi) = sbn * 65536 + esi
number_of fault = 0
