-- The faults of a merge of two streams, by those of a merge of any number.
use Rattle.std.specs.Prelude.{◌≡◌, ℕ, zero, suc}
use Rattle.flute_journal.specs.declared.fault.ReadFault.{ReadFault}
use Rattle.flute_journal.specs.declared.fault.LoadFault.{LoadFault}
use Rattle.flute_journal.specs.declared.fault.LoadFault.TheVariants.{Read, Full, OutOfMemory}
use Rattle.flute_streams.specs.declared.merge.streams_fault.StreamsFault.{StreamsFault}
use Rattle.flute_streams.specs.declared.merge.streams_fault.StreamsFault.TheVariants as of_any
use Rattle.flute_streams.specs.declared.merge.two_streams.MergeFault.{MergeFault}
use Rattle.flute_streams.specs.declared.merge.two_streams.MergeFault.TheVariants.{First, Second}
use Rattle.flute_streams.specs.declared.merge.two_streams.MergeFault.TheVariants.{Write}

-- the fault of a merge of two inputs, by the number of the one that could not be read
abbrev pub fault_at : ℕ → ReadFault → MergeFault
fault_at zero fault = First fault
fault_at (suc number) fault = Second fault

-- the fault of a merge of two inputs, by that of the stream with this number: only reading fails
abbrev pub IsFaultAt : ℕ → LoadFault → MergeFault → Type 0
IsFaultAt number (Read fault) merge = merge ≡ fault_at number fault
IsFaultAt number Full merge = ⊥
IsFaultAt number OutOfMemory merge = ⊥

-- the fault of a merge of two inputs, by that of a merge of any number of streams
abbrev pub IsFaultOfTwo : StreamsFault → MergeFault → Type 0
IsFaultOfTwo (of_any.Input fault) merge = IsFaultAt fault.number fault.fault merge
IsFaultOfTwo of_any.Write merge = merge ≡ Write

-- an input stopped only if it could not be read
abbrev pub IsOfReading : StreamsFault → Type 0
IsOfReading (of_any.Input fault) = IsRead fault.fault
  where
    IsRead : LoadFault → Type 0
    IsRead (Read fault) = Unit {0}
    IsRead _ = ⊥
IsOfReading of_any.Write = Unit {0}
