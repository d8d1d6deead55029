use Rattle.std.proofs.Common.{ap, ◌∙◌, ◌++◌, ◌∷◌, []}
use Rattle.flute_asides.specs.Asides.{Empties}
use Rattle.flute_memory.specs.declared.changes.Change.TheVariants.{Truncated}
use Rattle.flute_memory.proofs.Logs.{does-push, empties}
use Rattle.flute_memory.proofs.memory_calls.asides.MemoryCallsAsideCalls.truncate.Goals as goal

pub returns-clause-emptied : goal.returns-clause-emptied
returns-clause-emptied c t =
    let change = Truncated c.args.file.now.number in
    does-push (Empties c.args.file.now.number) c.args.self.now.changes.items _ change
    (c.in_ok-note.ensures.noted ∙ ap (λ l. l.items ++ change ∷ []) c.in_ok-turn.ensures.same) (empties _ 0 _)
