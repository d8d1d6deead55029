use Rattle.std.proofs.Common.{rules}
use Rattle.flute_streams.proofs.merge_lemmas.Finished.{read-more, read-falls, read-told, some_held}
use Rattle.flute_streams.proofs.merge_lemmas.Finished.{none_held}
use Rattle.flute_streams.proofs.merge.stopped.finish.Goals as goal

pub loop-alloc-preserved : goal.loop-alloc-preserved
loop-alloc-preserved g c = record {
  on = read-more g.G.Streams.behaviour c.loop-alloc.invariant.on
      c.in_ok-advance.ensures.advances;
  names = search rules;
}

pub loop-alloc-smaller : goal.loop-alloc-smaller
loop-alloc-smaller g c = read-falls _ _ _ _ _ c.head.ensures
    (some_held _ _ c.is_some.ensures c.loop-alloc-test.true) c.in_ok-advance.ensures.advances

pub returns-clause-told : goal.returns-clause-told
returns-clause-told g c = read-told g.G.Streams.behaviour c.loop-alloc.invariant.on c.head.ensures
    (none_held c.head.result c.is_some.result c.is_some.ensures c.loop-alloc-test.false)
