use Rattle.std.proofs.Common.{ap, ◌∙◌, ◌++◌, ◌∷◌, []}
use Rattle.flute_calls.specs.Disks.{Touches}
use Rattle.flute_memory.specs.declared.changes.Change.TheVariants.{Emptied}
use Rattle.flute_memory.proofs.Logs.{does-push, unlinks-within, passes}
use Rattle.flute_memory.proofs.memory_calls.folders.MemoryCallsFolderCalls.empty_folder.Goals as goal

pub returns : goal.returns
returns c =
    let f = c.args.folder.now.number in
    let change = Emptied f in
    let does = does-push (Touches f) c.args.self.now.changes.items _ change
    (c.in_ok-note.ensures.noted ∙ ap (λ l. l.items ++ change ∷ []) c.in_ok-turn.ensures.same)
    (unlinks-within _ f).touches in
    record { touches = λ t. passes f (Touches f) _ _ does does.made }
