-- Chosen::advance: its loop passes over facts that are not taken, up to the next that is.
use Rattle.flute_streams.proofs.Common.{refl}
use Rattle.flute_streams.proofs.streams_lemmas.ChosenFacts.{answered, counts_first, counts_other}
use Rattle.flute_streams.proofs.streams_lemmas.ChosenFacts.{chosen_goes_on}
use Rattle.flute_streams.proofs.streams.chosen.ChosenStream.advance.Goals as goal

pub loop-alloc-init : goal.loop-alloc-init
loop-alloc-init g c = (
  refl,
  counts_first g.C.Choice.takes c.args.self.now.choice
      g.S.Stream.behaviour c.args.self.now.stream c.advance.new.self c.args.self.now.others
      c.in_ok-advance.ensures.goes_on,
)

pub loop-alloc-preserved : goal.loop-alloc-preserved
loop-alloc-preserved g c = (
  c.loop-alloc.invariant.0,
  counts_other g.C.Choice.takes
      c.args.self.now.choice g.S.Stream.behaviour c.loop-alloc.invariant.1 (answered g.C.Choice.takes
      _ c.passes_over.ensures c.loop-alloc.invariant.0 c.loop-alloc-test.true)
      c.in_ok-advance-2.ensures.goes_on c.saturating_add-self.ensures,
)

pub returns-clause-goes_on : goal.returns-clause-goes_on
returns-clause-goes_on g c = chosen_goes_on g.C.Choice.takes c.args.self.now.choice
    g.S.Stream.behaviour c.args.self.now c.loop-alloc.self refl c.loop-alloc.invariant.0
    c.loop-alloc.invariant.1 (answered g.C.Choice.takes _ c.passes_over.ensures
    c.loop-alloc.invariant.0 c.loop-alloc-test.false)
