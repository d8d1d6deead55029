use Rattle.std.proofs.lemmas.Grind.{common_steps}
use Rattle.std.proofs.Common.{◌≡◌, arith, None, ap, sym, ◌∙◌, subst, length, ◌++◌, ◌∷◌, []}
use Rattle.flute_calls.specs.Disks.{Creates}
use Rattle.flute_calls.specs.Moments.{Does}
use Rattle.flute_memory.specs.MemoryDisk.{run_of, leads}
use Rattle.flute_memory.specs.declared.changes.Change.TheVariants.{Made}
use Rattle.flute_memory.proofs.Logs.{does-push, makes, length-of}
use Rattle.flute_memory.proofs.memory_calls.asides.MemoryCallsAsideCalls.create_new.Goals as goal

pub returns-clause-made : goal.returns-clause-made
returns-clause-made c t =
    let cs = c.args.self.now.changes.items in
    let name = c.in_ok-name.name in
    let is = c.in_ok-note.ensures.noted ∙ ap (λ l. l.items ++ Made name ∷ []) c.in_ok-turn.ensures.same in
    let text : name.items ≡ c.args.name.now = c.in_ok-name.ensures ∙ c.as_bytes.ensures.value in
    let none : c.find.result ≡ None = grind (arith, common_steps) in
    let free = ap (λ l. leads (run_of l.items) c.args.name.now) (sym c.in_ok-turn.ensures.same)
    ∙ sym c.find.ensures ∙ none in
    let number : length (run_of cs).past ≡ c.len-number.result =
    grind (
      arith,
      common_steps,
      length-of cs,
      ap (λ l. l.items) c.in_ok-turn.ensures.same,
      c.len-number.ensures,
      c.turn.new.self.changes.ok,
    ) in
    subst (λ n. Does (Creates n c.len-number.result) (run_of cs) (run_of c.note.new.self.changes.items)) text
    (subst (λ k. Does (Creates name.items k) (run_of cs) (run_of c.note.new.self.changes.items)) number
    (does-push (Creates name.items (length (run_of cs).past)) cs _ (Made name) is
    (makes cs name.items c.args.self.now.unused (subst (λ n. leads (run_of cs) n ≡ None) (sym text) free))))
