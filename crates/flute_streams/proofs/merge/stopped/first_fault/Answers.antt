use Rattle.std.proofs.Common.{rules}
use Rattle.flute_streams.proofs.Common.{arith}
use Rattle.flute_streams.proofs.merge_lemmas.Finished.{reached-more, reached-stop}
use Rattle.flute_streams.proofs.merge.stopped.first_fault.Goals as goal

pub returns-in-Err-clause-stopped : goal.returns-in-Err-clause-stopped
returns-in-Err-clause-stopped g c = λ start before h.
    reached-stop g.G.Streams.behaviour (omega (arith, c.loop-number-test.true))
    c.loop-number.invariant.reached c.in-Err.ensures.stops start before

pub loop-number-preserved : goal.loop-number-preserved
loop-number-preserved g c = record {
  reached = reached-more g.G.Streams.behaviour (omega (arith, c.loop-number-test.true))
      c.loop-number.invariant.reached c.finish.ensures.as_many c.finish.ensures.others
      c.in_default.ensures.told;
  within = omega (arith, c.loop-number-test.true);
  names = search rules;
}
