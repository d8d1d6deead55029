use Rattle.std.proofs.Common.{ap, ◌∙◌, ◌++◌, ◌∷◌, []}
use Rattle.flute_calls.specs.Disks.{UnlinksWithin}
use Rattle.flute_memory.specs.declared.changes.Change.TheVariants.{RemovedWithin}
use Rattle.flute_memory.proofs.Logs.{does-push, unlinks-within}
use Rattle.flute_memory.proofs.memory_calls.folders.MemoryCallsFolderCalls.unlink_within.Goals as goal

pub returns-clause-removed : goal.returns-clause-removed
returns-clause-removed c t =
    let f = c.args.folder.now.number in
    let change = RemovedWithin f c.in_ok-name-2.name in
    does-push (UnlinksWithin f) c.args.self.now.changes.items _ change
    (c.in_ok-note.ensures.noted ∙ ap (λ l. l.items ++ change ∷ []) c.in_ok-turn.ensures.same) (unlinks-within _ f)
