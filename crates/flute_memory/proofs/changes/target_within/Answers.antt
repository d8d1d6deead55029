use Rattle.std.proofs.Common.{◌∙◌, sym, refl, arith}
use Rattle.flute_memory.proofs.Logs.{within-earlier}
use Rattle.flute_memory.proofs.changes.target_within.Goals as goal

pub returns-in-Some : goal.returns-in-Some
returns-in-Some c =
    let inv = c.loop-left.invariant in
    sym (inv.follows
    ∙ within-earlier c.args.folder c.args.name.now c.args.changes.now c.loop-left.left
    c.index-changes-left.result c.loop-left-test.true inv.inside c.index-changes-left.is
    ∙ c.in-Some.ensures.decides _)

pub loop-left-preserved : goal.loop-left-preserved
loop-left-preserved c =
    let inv = c.loop-left.invariant in
    record {
      inside = omega (arith, inv.inside);
      follows = inv.follows
          ∙ within-earlier c.args.folder c.args.name.now c.args.changes.now c.loop-left.left
          c.index-changes-left.result c.loop-left-test.true inv.inside c.index-changes-left.is
          ∙ c.in_default.ensures.passes refl _;
    }
