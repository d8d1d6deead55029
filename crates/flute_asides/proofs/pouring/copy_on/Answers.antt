use Rattle.std.proofs.Common.{arith, ◌≡◌, ◌≤◌, ◌<◌, length, ◌∙◌}
use Rattle.std.proofs.lemmas.Grind.{common_steps}
use Rattle.flute_asides.proofs.Copies.{copied-part, copied-failed, copied-more}
use Rattle.flute_asides.proofs.Fills.{on_err}
use Rattle.flute_asides.proofs.pouring.copy_on.Goals as goal

pub returns-in_default-clause-part : goal.returns-in_default-clause-part
returns-in_default-clause-part g c all is within _ =
    let some : 0 < c.loop-left.left = grind (arith, common_steps) in
    copied-part _ _ _ _ _ _ c.loop-left.invariant.copied all is some within

pub returns-in_err-write_all-clause-failed : goal.returns-in_err-write_all-clause-failed
returns-in_err-write_all-clause-failed g c all is within =
    let short : length c.read_exact.new.buf ≤ c.loop-left.left = grind (arith, common_steps) in
    on_err _ _ (copied-failed _ _ _ _ _ _ _ _ c.loop-left.invariant.copied c.read_exact.new.buf all
    c.in-Ok.ensures.bytes is short c.in_err-write_all.ensures.bytes)

pub loop-left-preserved : goal.loop-left-preserved
loop-left-preserved g c =
    let count : length c.read_exact.new.buf ≡ c.min-part.result = grind (arith, common_steps) in
    let le : c.min-part.result ≤ c.loop-left.left = grind (arith, common_steps) in
    let same : g.W.Sink.failures c.write_all.new.self ≡ g.W.Sink.failures c.loop-left.sink =
    grind (arith, common_steps) in
    record {
      failures = same ∙ c.loop-left.invariant.failures;
      copied = copied-more _ _ _ _ _ _ _ _ c.loop-left.invariant.copied c.read_exact.new.buf
          c.in-Ok.ensures.bytes _ count le c.in_ok-write_all.ensures.bytes;
    }
