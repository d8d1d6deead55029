use Rattle.std.proofs.Common.{[], ap}
use Rattle.flute_store.{proofs.ScanTurns.{new-scan, new-within}}
use Rattle.flute_store.proofs.scan.ObjectScan.new.Goals as goal

pub invariant_of-result : goal.invariant_of-result
invariant_of-result c = record {
  place = c.new.ensures.place;
  within = new-within c.new.result _ c.none.ensures (ap (λ y. y.run) (c.new.ensures.start []));
  partition = ap (λ y. y.partition) (c.new.ensures.start []);
}

pub returns : goal.returns
returns c = new-scan _ _ _ _ c.new.ensures.start c.none.ensures
