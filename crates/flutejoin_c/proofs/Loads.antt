-- status: why a journal was not read into a store, as a fault of the call (specs/Statuses).
use Rattle.std.proofs.Common.{ℕ, List, Option, Some, inr, refl}
use Rattle.flute_parts.specs.declared.key.Key.{Key}
use Rattle.flute_journal.specs.declared.fault.LoadFault.{LoadFault}
use Rattle.flute_journal.specs.declared.fault.LoadFault.TheVariants as load
use Rattle.flute_journal.specs.Stores.{IsLoadFault}
use Rattle.flutejoin.specs.Limits.{Limits}
use Rattle.flutejoin.specs.Status.{of_load}
use Rattle.flutejoin.specs.declared.limits.TheConstants.{MAX_ENTRIES}
use Rattle.flutejoin_c.specs.Statuses.{StatusFails}

pub not_loaded : (most : Limits) (journal : List ℕ) (left : Option (List ℕ)) (key : Key)
    (fault : LoadFault)
    → IsLoadFault most.sessions most.objects most.symbols MAX_ENTRIES (Some journal) left fault
    → StatusFails most journal key (of_load 1 fault)
not_loaded most journal left key (load.Read fault) h = inr (left, (refl, h))
not_loaded most journal left key load.Full h = inr (left, h)
not_loaded most journal left key load.OutOfMemory h = inr (left, h)
