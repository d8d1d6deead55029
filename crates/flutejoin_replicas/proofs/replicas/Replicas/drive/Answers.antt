-- Replicas::drive: steps in turn, refused or not.
use Rattle.std.proofs.Common.{refl, arith, sym, ◌∙◌}
use Rattle.std.proofs.lemmas.Option.{slice_get_read}
use Rattle.flutejoin_replicas.proofs.DriveSteps.{IsNext, drive_start, drive_more, drive_done}
use Rattle.flutejoin_replicas.proofs.replicas.Replicas.drive.Goals as goal

pub loop-k-init : goal.loop-k-init
loop-k-init g c = drive_start c.args.self.now c.args.steps.now c.args.done.now

pub loop-k-preserved : goal.loop-k-preserved
loop-k-preserved g c =
    let next : IsNext c.args.steps.now c.loop-k.done c.loop-k.k c.index-steps-k.result = record {
      is =
          slice_get_read c.args.steps.now _ c.loop-k.k c.index-steps-k.result refl
          c.loop-k-test.true c.index-steps-k.is;
      within = omega (arith, c.requires.aligned, c.loop-k.auto.done, c.loop-k-test.true);
    } in
    rw c.is_ok.ensures.value
    (drive_more _ c.step.new.self c.step.result c.loop-k.invariant next c.step.ensures.done
    c.step.ensures.refused c.step.ensures.sure)

pub returns : goal.returns
returns g c =
    drive_done c.loop-k.invariant (c.requires.aligned ∙ sym c.loop-k.auto.done) c.loop-k-test.false
    (omega arith)
