use Rattle.std.proofs.lemmas.Grind.{common_steps}
use Rattle.std.proofs.Common.{◌≡◌, ◌≤◌, ◌<◌, ◌+◌, ◌++◌, ℕ, List, [], ap, ◌∙◌, subst, arith, length, take, drop}
use Rattle.flute_memory.specs.MemoryDisk.{run_of}
use Rattle.flute_memory.proofs.FileReads.{reads}
use Rattle.flute_memory.proofs.memory_calls.asides.MemoryCallsAsideCalls.read.Goals as goal

pub returns-clause-bytes : goal.returns-clause-bytes
returns-clause-bytes c t =
    let n = c.min-count.result in
    let at = c.args.file.now.at in
    let k = c.args.file.now.number in
    let all = c.in-Ok.bytes.items in
    let given = c.copy_from_slice.new.self in
    let buffer = c.args.buffer.now in
    let is : given ≡ take n (drop at all) = grind (arith, common_steps) in
    let within : n ≤ length (drop at all) = grind (arith, common_steps) in
    let none : n ≡ 0 → length buffer ≡ 0 = λ z. grind (arith, common_steps, z) in
    let there = λ (xs ys : List ℕ). (drop at xs ≡ take n (given ++ drop n buffer) ++ drop (at + n) ys)
    × (n ≡ 0 → 0 < length (given ++ drop n buffer) → drop (at + n) ys ≡ []) in
    let seen : c.deref.result.now ≡ c.turn.new.self.changes.items = grind (arith, common_steps) in
    let new = c.in-Ok.ensures ∙ ap (λ l. ((run_of l).now.files k).bytes) seen in
    let old = new ∙ ap (λ l. ((run_of l.items).now.files k).bytes) c.in_ok-turn.ensures.same in
    subst (λ xs. there xs ((run_of c.turn.new.self.changes.items).now.files k).bytes) old
    (subst (λ ys. there all ys) new (reads all given buffer at n is within none))
