use Rattle.std.proofs.Common.{◌∙◌, sym, ap, arith, ◌-◌}
use Rattle.flute_memory.specs.MemoryDisk.{leads}
use Rattle.flute_memory.proofs.Logs.{one-earlier, length-earlier}
use Rattle.flute_memory.proofs.changes.target.Goals as goal

pub loop-left-preserved : goal.loop-left-preserved
loop-left-preserved c =
    let inv = c.loop-left.invariant in
    record {
      within = omega (arith, inv.within);
      follows = inv.follows
          ∙ ap (λ r. leads r c.loop-left.wanted.now)
          (one-earlier c.args.changes.now c.loop-left.left c.index-changes-left.result c.loop-left-test.true
          inv.within c.index-changes-left.is)
          ∙ c.in-Ok.ensures.earlier _;
    }

pub returns-in-Err : goal.returns-in-Err
returns-in-Err c =
    let inv = c.loop-left.invariant in
    let cs = c.args.changes.now in
    sym (inv.follows
    ∙ ap (λ r. leads r c.loop-left.wanted.now)
    (one-earlier cs c.loop-left.left c.index-changes-left.result c.loop-left-test.true inv.within c.index-changes-left.is)
    ∙ c.in-Err.ensures.found _ (length-earlier cs (c.loop-left.left - 1) (omega (arith, inv.within))))
