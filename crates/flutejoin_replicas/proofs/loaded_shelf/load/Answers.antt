-- load: why a journal was not read into a store, as a fault of the command.
use Rattle.std.proofs.Common.{ℕ, false, List, Option, refl}
use Rattle.flute_journal.specs.declared.fault.LoadFault.{LoadFault}
use Rattle.flute_journal.specs.declared.fault.LoadFault.TheVariants as load
use Rattle.flute_journal.specs.Stores.{IsLoadFault}
use Rattle.flutejoin.specs.Limits.{Limits, limits_of}
use Rattle.flutejoin.specs.Load.{LoadFails}
use Rattle.flutejoin.specs.Status.{of_load}
use Rattle.flutejoin.specs.declared.limits.TheConstants.{MAX_ENTRIES}
use Rattle.flutejoin_replicas.proofs.loaded_shelf.load.Goals as goal

load_fails : (most : Limits) (number : ℕ) (input left : Option (List ℕ)) (f : LoadFault)
    → IsLoadFault most.sessions most.objects most.symbols MAX_ENTRIES input left f
    → LoadFails most number input left (of_load number f)
load_fails most number input left (load.Read f) h = (refl, h)
load_fails most number input left load.Full h = h
load_fails most number input left load.OutOfMemory h = h

pub returns-in-Err-clause-failed : goal.returns-in-Err-clause-failed
returns-in-Err-clause-failed g c =
    rw c.load_fault.ensures
    (load_fails (limits_of false) 1 (g.R.Source.unread c.args.source.now)
    (g.R.Source.unread c.read_store.new.source) c.in-Err.fault c.in-Err.ensures.fault)
