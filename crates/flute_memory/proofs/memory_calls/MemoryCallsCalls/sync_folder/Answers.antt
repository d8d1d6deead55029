use Rattle.std.proofs.Common.{ap, ◌∙◌, ◌++◌, ◌∷◌, [], true}
use Rattle.flute_calls.specs.Disks.{Confirms}
use Rattle.flute_memory.specs.declared.changes.Change.TheVariants.{Confirmed}
use Rattle.flute_memory.proofs.Logs.{does-push, confirms}
use Rattle.flute_memory.proofs.memory_calls.MemoryCallsCalls.sync_folder.Goals as goal

pub returns-clause-synced : goal.returns-clause-synced
returns-clause-synced c t =
    does-push (Confirms (λ name. true)) c.args.self.now.changes.items _ Confirmed
    (c.in_ok-note.ensures.noted ∙ ap (λ l. l.items ++ Confirmed ∷ []) c.in_ok-turn.ensures.same) (confirms _ 0)
