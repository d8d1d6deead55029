use Rattle.std.proofs.Common.{ap, ◌∙◌, ◌++◌, ◌∷◌, []}
use Rattle.flute_calls.specs.Disks.{Syncs}
use Rattle.flute_memory.specs.declared.changes.Change.TheVariants.{Synced}
use Rattle.flute_memory.proofs.Logs.{does-push, syncs}
use Rattle.flute_memory.proofs.memory_calls.folders.MemoryCallsFolderCalls.sync_names.Goals as goal

pub returns-clause-synced : goal.returns-clause-synced
returns-clause-synced c t =
    let change = Synced c.args.folder.now.number in
    does-push (Syncs c.args.folder.now.number) c.args.self.now.changes.items _ change
    (c.in_ok-note.ensures.noted ∙ ap (λ l. l.items ++ change ∷ []) c.in_ok-turn.ensures.same) (syncs _ 0 _)
