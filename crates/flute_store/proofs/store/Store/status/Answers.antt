-- Store::status: its loop adds up the symbols of the gaps, by reason.
use Rattle.flute_store.proofs.{Common.{flat_map}, Runs.{runs-are}}
use Rattle.flute_store.proofs.HowMany
use HowMany.{counts-all, counts-few, counts-more, counts-none, few-wanted, first-gap, store-status}
use Rattle.flute_store.proofs.store.Store.status.Goals as goal

pub loop-gap-init : goal.loop-gap-init
loop-gap-init g c = (rw c.new-gaps.ensures.gaps (runs-are _), counts-none _ _ c.none-wanted.ensures)

pub add-requires-clause-order : goal.add-requires-clause-order
add-requires-clause-order g c =
    (first-gap _ _ _ _ _ c.in-Some-next.ensures.steps c.loop-gap.invariant.0
    c.loop-gap.invariant.1).order

pub add-requires-clause-missing : goal.add-requires-clause-missing
add-requires-clause-missing g c = (counts-few _ _ _ c.loop-gap.invariant.1
    (few-wanted _ _ _ c.new-gaps.ensures.gaps c.new-gaps.ensures.few)).0

pub add-requires-clause-conflicting : goal.add-requires-clause-conflicting
add-requires-clause-conflicting g c = (counts-few _ _ _ c.loop-gap.invariant.1
    (few-wanted _ _ _ c.new-gaps.ensures.gaps c.new-gaps.ensures.few)).1

pub add-requires-clause-misfit : goal.add-requires-clause-misfit
add-requires-clause-misfit g c = (counts-few _ _ _ c.loop-gap.invariant.1
    (few-wanted _ _ _ c.new-gaps.ensures.gaps c.new-gaps.ensures.few)).2

pub loop-gap-preserved : goal.loop-gap-preserved
loop-gap-preserved g c =
    let f = first-gap _ _ _ _ _ c.in-Some-next.ensures.steps c.loop-gap.invariant.0
    c.loop-gap.invariant.1 in (
      f.runs_are,
      counts-more _ c.loop-gap.wanted _ _
          (flat_map _ c.next.new.self.gaps) f.counted c.add.ensures,
    )

pub returns : goal.returns
returns g c = rw c.status.ensures (store-status (record {
  told = c.in-Some.ensures;
  info_is = c.in-One.is;
  held_is = c.iter.ensures.rest;
  gaps_are = c.new-gaps.ensures.gaps;
}) c.loop-gap.wanted
    (counts-all _ _ (rw c.in_default-next.ensures.steps.0 at c.loop-gap.invariant.1)) _
    c.length.ensures.value)
