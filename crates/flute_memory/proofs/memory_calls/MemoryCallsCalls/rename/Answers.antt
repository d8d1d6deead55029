use Rattle.std.proofs.Common.{ap, sym, ◌∙◌, subst, ◌++◌, ◌∷◌, []}
use Rattle.flute_calls.specs.Disks.{Renames}
use Rattle.flute_calls.specs.Moments.{Does}
use Rattle.flute_memory.specs.MemoryDisk.{run_of}
use Rattle.flute_memory.specs.declared.changes.Change.TheVariants.{Renamed}
use Rattle.flute_memory.proofs.Logs.{does-push, renames}
use Rattle.flute_memory.proofs.memory_calls.MemoryCallsCalls.rename.Goals as goal

pub returns-clause-renamed : goal.returns-clause-renamed
returns-clause-renamed c t =
    let cs = c.args.self.now.changes.items in
    let new = c.note.new.self.changes.items in
    let source = c.in_ok-source.source in
    let target = c.in_ok-target.target in
    let change = Renamed source target in
    let is = c.in_ok-note.ensures.noted ∙ ap (λ l. l.items ++ change ∷ []) c.in_ok-turn.ensures.same in
    let from = c.in_ok-source.ensures ∙ c.as_bytes.ensures.value in
    let to = c.in_ok-target.ensures ∙ c.as_bytes-2.ensures.value in
    subst (λ s. Does (Renames s c.args.target.now) (run_of cs) (run_of new)) from
    (subst (λ d. Does (Renames source.items d) (run_of cs) (run_of new)) to
    (does-push (Renames source.items target.items) cs _ change is
    (renames _ _ _ (λ e. c.requires (sym from ∙ e ∙ to)))))
