use Rattle.std.proofs.Common.{ap, ◌∙◌, subst, ◌++◌, ◌∷◌, []}
use Rattle.flute_calls.specs.Disks.{Grows}
use Rattle.flute_calls.specs.Moments.{Does}
use Rattle.flute_memory.specs.MemoryDisk.{run_of}
use Rattle.flute_memory.specs.declared.changes.Change.TheVariants.{Written}
use Rattle.flute_memory.proofs.Logs.{does-push, writes, passes}
use Rattle.flute_memory.proofs.memory_calls.asides.MemoryCallsAsideCalls.write.Goals as goal

pub returns-clause-written : goal.returns-clause-written
returns-clause-written c t end =
    let k = c.args.file.now.number in
    let cs = c.args.self.now.changes.items in
    let change = Written k c.in_ok-bytes.bytes in
    let is = c.in_ok-note.ensures.noted ∙ ap (λ l. l.items ++ change ∷ []) c.in_ok-turn.ensures.same in
    let does = subst (λ bytes. Does (Grows k bytes) (run_of cs) (run_of c.note.new.self.changes.items))
    c.in_ok-bytes.ensures (does-push (Grows k c.in_ok-bytes.bytes.items) cs _ change is (writes _ _ _)) in
    passes k _ _ _ does does.made.touches
