-- gaps_to: its loop over the store's objects, and a failed write.
use Rattle.std.proofs.Common.{◌∙◌, sym}
use Rattle.flutejoin.specs.Objects.{object_lines}
use Rattle.flutejoin_replicas.proofs.Listed.{listed-at, listed-next, listed-part, listed-all}
use Rattle.flutejoin_replicas.proofs.Listed.{listed-contains}
use Rattle.flutejoin_replicas.proofs.Listed.{all_written, part_written, no_write_failure}
use Rattle.flutejoin_replicas.proofs.gaps.gaps_to.Goals as goal

pub write_object-requires : goal.write_object-requires
write_object-requires g c =
    let here = listed-at c.loop-key.invariant.listed c.in-Some.ensures.steps in
    record { held = (c.objects-keys.ensures.held c.in-Some.key).0 (listed-contains here) }

pub returns-then-is_err-clause-failed : goal.returns-then-is_err-clause-failed
returns-then-is_err-clause-failed g c =
    let f = object_lines c.args.shelf.now in
    let t = g.W.Sink.written c.loop-key.sink in
    let t' = g.W.Sink.written c.write_object.new.sink in
    let here = listed-at c.loop-key.invariant.listed c.in-Some.ensures.steps in
    let failed = sym c.is_err.ensures.value ∙ c.if-is_err.true in
    record {
      keys = c.objects-keys.result;
      rising = c.objects-keys.ensures.rising;
      held = c.objects-keys.ensures.held;
      lines =
          listed-part t' here
          (part_written t t' (f c.in-Some.key) c.write_object.result failed
          c.write_object.ensures.lines);
    }

pub loop-key-preserved : goal.loop-key-preserved
loop-key-preserved g c =
    let f = object_lines c.args.shelf.now in
    let t = g.W.Sink.written c.loop-key.sink in
    let t' = g.W.Sink.written c.write_object.new.sink in
    let here = listed-at c.loop-key.invariant.listed c.in-Some.ensures.steps in
    let well = sym c.is_err.ensures.value ∙ c.if-is_err.false in
    record {
      listed =
          listed-next here
          (all_written t t' (f c.in-Some.key) c.write_object.result well
          c.write_object.ensures.lines);
      failures =
          no_write_failure c.write_object.result _ _ _ well c.write_object.ensures.failures
          c.loop-key.invariant.failures;
    }

pub returns-clause-printed : goal.returns-clause-printed
returns-clause-printed g c = record {
  keys = c.objects-keys.result;
  rising = c.objects-keys.ensures.rising;
  held = c.objects-keys.ensures.held;
  lines = listed-all c.loop-key.invariant.listed c.in_default.ensures.steps.0;
}
