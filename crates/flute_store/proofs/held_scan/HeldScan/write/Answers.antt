use Rattle.std.proofs.Common.{arith, take, ap, ◌∙◌}
use Rattle.std.proofs.lemmas.List.{take_min}
use Rattle.std.proofs.lemmas.Result.{err_from_is_err_and}
use Rattle.flute_store.proofs.BytesSteps.{writing-more, writing-fails}
use Rattle.flute_store.proofs.held_scan.HeldScan.write.Goals as goal

pub returns-in_err-write_all-clause-bytes : goal.returns-in_err-write_all-clause-bytes
returns-in_err-write_all-clause-bytes g c = rw
    (err_from_is_err_and c.from_residual.result c.from_residual.ensures.1).1 (writing-fails _
    c.loop-bytes.invariant.2 (record {
      left_is = c.in-Some.ensures.first;
      bytes_are = ap (λ n. take n c.in-Some.bytes.now) c.min.ensures ∙ take_min _ _;
    }) c.in_err-write_all.ensures.bytes)

pub loop-bytes-preserved : goal.loop-bytes-preserved
loop-bytes-preserved g c = (
  c.in-Some.ensures.walk,
  c.in-Some.ensures.whole,
  writing-more
      c.loop-bytes.invariant.2 (record {
        left_is = c.in-Some.ensures.first;
        bytes_are = ap (λ n. take n c.in-Some.bytes.now) c.min.ensures ∙ take_min _ _;
      }) c.in_ok-write_all.ensures.bytes,
  omega (arith, c.in_ok-write_all.ensures.failures),
)
