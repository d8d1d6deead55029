use Rattle.std.proofs.Common.{ap, ◌∙◌, subst, ◌++◌, ◌∷◌, []}
use Rattle.flute_calls.specs.Disks.{Unlinks}
use Rattle.flute_calls.specs.Moments.{Does}
use Rattle.flute_memory.specs.MemoryDisk.{run_of}
use Rattle.flute_memory.specs.declared.changes.Change.TheVariants.{Removed}
use Rattle.flute_memory.proofs.Logs.{does-push, unlinks}
use Rattle.flute_memory.proofs.memory_calls.MemoryCalls.take_away.Goals as goal

pub returns-clause-removed : goal.returns-clause-removed
returns-clause-removed c =
    let cs = c.args.self.now.changes.items in
    let change = Removed c.in_ok-name.name in
    let is = c.in_ok-note.ensures.noted ∙ ap (λ l. l.items ++ change ∷ []) c.in_ok-turn.ensures.same in
    subst (λ name. Does (Unlinks name) (run_of cs) (run_of c.note.new.self.changes.items))
    (c.in_ok-name.ensures ∙ c.as_bytes.ensures.value)
    (does-push (Unlinks c.in_ok-name.name.items) cs _ change is (unlinks _ _))
