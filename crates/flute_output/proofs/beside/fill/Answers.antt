use Rattle.std.proofs.Common.{take, drop, subst, arith, ◌∙◌, length-drop}
use Rattle.std.proofs.lemmas.Grind.{common_steps}
use Rattle.flute_calls.specs.Disks.{Touches, Grows, Spoils}
use Rattle.flute_calls.specs.Moments.{Passes}
use Rattle.flute_output.proofs.Runs.{touched-more, extends-more, spoils-more, on_err, rest-all}
use Rattle.flute_output.proofs.beside.fill.Goals as goal

pub returns-in_err-written-clause-refused : goal.returns-in_err-written-clause-refused
returns-in_err-written-clause-refused g c t =
    let inv = c.loop-written.invariant in
    on_err _ _ (touched-more _ _ _ _ _ _ _ (inv.so_far.runs t)
    (subst (λ k. Passes (Touches k) (Spoils k) (g.C.Calls.run c.loop-written.calls) (g.C.Calls.run c.write.new.self)) inv.file (c.in_err-written.ensures.refused t))
    (λ r. r.touches) (λ r s. spoils-more _ _ _ _ _ r s))

pub loop-written-preserved : goal.loop-written-preserved
loop-written-preserved g c =
    let inv = c.loop-written.invariant in
    record {
      file = c.write.ensures.same_file ∙ inv.file;
      so_far = record {
        within = grind (arith, common_steps, rest-all c.loop-written.written c.args.bytes.now, length-drop c.loop-written.written c.args.bytes.now, c.in_ok-written.ensures.bound, inv.so_far.within);
        runs = λ t. touched-more _ _ _ _ _ _ _ (inv.so_far.runs t)
            (subst (λ k. Passes (Touches k) (Grows k (take c.in_ok-written.field-0 (drop c.loop-written.written c.args.bytes.now))) (g.C.Calls.run c.loop-written.calls) (g.C.Calls.run c.write.new.self)) inv.file
            (subst (λ rest. Passes (Touches (g.C.Calls.number c.loop-written.file)) (Grows (g.C.Calls.number c.loop-written.file) (take c.in_ok-written.field-0 rest)) (g.C.Calls.run c.loop-written.calls) (g.C.Calls.run c.write.new.self))
            (rest-all c.loop-written.written c.args.bytes.now) (c.in_ok-written.ensures.written t)))
            (λ r. r.touches) (λ r s. extends-more _ _ _ _ _ _ _ r s);
      };
    }
