-- The fault of a step, from that of a journal's reader or of a join.
use Rattle.flute_join.specs.declared.refusal.JoinRefusal.{JoinRefusal}
use Rattle.flute_join.specs.declared.refusal.JoinRefusal.TheVariants as join
use Rattle.flute_journal.specs.declared.fault.ReadFault.{ReadFault}
use Rattle.flute_journal.specs.declared.fault.ReadFault.TheVariants as read
use Rattle.flute_journal.specs.declared.fault.LoadFault.{LoadFault}
use Rattle.flute_journal.specs.declared.fault.LoadFault.TheVariants as load
use Rattle.flutejoin_replicas.specs.declared.steps.StepFault.{StepFault}
use Rattle.flutejoin_replicas.specs.declared.steps.StepFault.TheVariants.{Journal, Full}
use Rattle.flutejoin_replicas.specs.declared.steps.StepFault.TheVariants.{OutOfMemory}

-- the fault of a step whose join was refused
abbrev pub fault_of_join : JoinRefusal → StepFault
fault_of_join join.Full = Full
fault_of_join join.OutOfMemory = OutOfMemory

-- a reader's lack of memory is the step's
abbrev pub fault_of_read : ReadFault → StepFault
fault_of_read read.OutOfMemory = OutOfMemory
fault_of_read fault = Journal fault

-- the fault of a step whose journal could not be read
abbrev pub fault_of_load : LoadFault → StepFault
fault_of_load (load.Read fault) = fault_of_read fault
fault_of_load load.Full = Full
fault_of_load load.OutOfMemory = OutOfMemory
