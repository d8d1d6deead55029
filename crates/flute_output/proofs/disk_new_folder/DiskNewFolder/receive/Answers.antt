use Rattle.std.proofs.Common.{◌∙◌, ◌≡◌, ◌++◌, take, subst, arith, length-drop, option_map, IfSome, ℕ}
use Rattle.std.proofs.lemmas.Grind.{common_steps}
use Rattle.flute_output.specs.DiskWrites.{taken_for}
use Rattle.flute_output.proofs.Runs.{taken-more, rest-all}
use Rattle.flute_output.proofs.disk_new_folder.DiskNewFolder.receive.Goals as goal

pub loop-taken-preserved : goal.loop-taken-preserved
loop-taken-preserved g c =
    let inv = c.loop-taken.invariant in
    let before = λ (k : ℕ). taken_for k c.args.self.now.writer.waiting.items (g.C.Calls.run c.args.self.now.calls).now in
    let now = λ (k : ℕ). taken_for k c.loop-taken.self.writer.waiting.items (g.C.Calls.run c.loop-taken.self.calls).now in
    let next = λ (k : ℕ). taken_for k c.receive.new.self.waiting.items (g.C.Calls.run c.receive.new.calls).now in
    record {
      within = grind (arith, common_steps, rest-all c.loop-taken.taken c.args.bytes.now, length-drop c.loop-taken.taken c.args.bytes.now, c.in_ok-taken.ensures.bound, inv.within);
      file = c.receive.ensures.same_file ∙ inv.file;
      bytes = λ t. taken-more c.args.bytes.now before now next c.loop-taken.taken c.in_ok-taken.field-0 _ _ inv.file (inv.bytes t)
          (subst (λ rest. IfSome (option_map g.C.Calls.number c.loop-taken.self.writer.file) (λ k. next k ≡ now k ++ take c.in_ok-taken.field-0 rest))
          (rest-all c.loop-taken.taken c.args.bytes.now) (c.in_ok-taken.ensures.received t));
      whole = inv.whole;
      quiet = c.receive.ensures.failures ∙ inv.quiet;
    }
