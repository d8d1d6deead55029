use Rattle.std.proofs.lemmas.Grind.{common_steps}
use Rattle.std.proofs.Common.{◌≡◌, arith, ap, ◌∙◌, subst, length, ◌++◌, ◌∷◌, []}
use Rattle.flute_calls.specs.Disks.{CreatesWithin}
use Rattle.flute_calls.specs.Moments.{Does}
use Rattle.flute_memory.specs.MemoryDisk.{run_of}
use Rattle.flute_memory.specs.declared.changes.Change.TheVariants.{MadeWithin}
use Rattle.flute_memory.proofs.Logs.{does-push, makes-within, length-of}
use Rattle.flute_memory.proofs.memory_calls.folders.MemoryCallsFolderCalls.create_within.Goals as goal

pub returns-clause-made : goal.returns-clause-made
returns-clause-made c t =
    let cs = c.args.self.now.changes.items in
    let f = c.args.folder.now.number in
    let change = MadeWithin f c.in_ok-name-2.name in
    let is = c.in_ok-note.ensures.noted ∙ ap (λ l. l.items ++ change ∷ []) c.in_ok-turn.ensures.same in
    let number : length (run_of cs).past ≡ c.len-number.result =
    grind (
      arith,
      common_steps,
      length-of cs,
      ap (λ l. l.items) c.in_ok-turn.ensures.same,
      c.len-number.ensures,
      c.turn.new.self.changes.ok,
    ) in
    subst (λ k. Does (CreatesWithin f k) (run_of cs) (run_of c.note.new.self.changes.items)) number
    (does-push (CreatesWithin f (length (run_of cs).past)) cs _ change is (makes-within cs f c.args.self.now.unused))
