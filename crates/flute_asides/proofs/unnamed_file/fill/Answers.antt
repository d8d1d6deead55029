use Rattle.std.proofs.Common.{take, subst, arith, ◌∙◌, length-drop}
use Rattle.std.proofs.lemmas.Grind.{common_steps}
use Rattle.flute_calls.specs.Disks.{Grows}
use Rattle.flute_asides.proofs.Fills.{fills-more, fills-end, fills-fails, rest-all, on_err}
use Rattle.flute_asides.proofs.unnamed_file.fill.Goals as goal

pub loop-written-preserved : goal.loop-written-preserved
loop-written-preserved g c =
    let inv = c.loop-written.invariant in
    record {
      within = grind (
        arith,
        common_steps,
        rest-all c.loop-written.written c.args.bytes.now,
        length-drop c.loop-written.written c.args.bytes.now,
        c.in_ok-written.ensures.bound,
        inv.within,
      );
      file = c.write.ensures.same_file ∙ inv.file;
      stuck = c.write.ensures.stuck ∙ inv.stuck;
      so_far = λ t start.
          let so = inv.so_far t start in
          let end = fills-end _ _ _ _ _ _ start inv.within so in
          fills-more _ _ _ _ _ _ start inv.within so _ _ _ (c.in_ok-written.ensures.moved t end)
          (subst (λ rest. Grows (g.C.AsideCalls.opened c.loop-written.file).number
          (take c.in_ok-written.field-0 rest) (g.C.AsideCalls.run c.loop-written.calls).now
          (g.C.AsideCalls.run c.write.new.self).now)
          (rest-all c.loop-written.written c.args.bytes.now) (c.in_ok-written.ensures.written t end).made);
    }

pub returns-in_err-written-clause-refused : goal.returns-in_err-written-clause-refused
returns-in_err-written-clause-refused g c t start =
    let inv = c.loop-written.invariant in
    let so = inv.so_far t start in
    on_err _ _ (fills-fails _ _ _ _ _ _ start inv.within so _
    (c.in_err-written.ensures.refused t (fills-end _ _ _ _ _ _ start inv.within so)).made)
