-- PartitionScan::turn: each branch makes the turn that specs/PartitionScan says.
use Rattle.std.proofs.Common.{rules}
use Rattle.std.proofs.Common.{Some, sym, ap, ◌∙◌}
use Rattle.flute_store.proofs.Common
use Common.{End, BlockEnd, Passed, Fitting, Wanted, ended_run}
use Rattle.flute_store.proofs.Turns.{turn-ended, turn-at}
use Rattle.flute_store.proofs.Places.{until-within, block-next, wanted-small, placed}
use Rattle.flute_store.specs.declared.turn.Turn.TheVariants as Turn
use Rattle.flute_store.proofs.partition_scan.PartitionScan.turn.Goals as goal

pub returns-in-Some-clause-turn : goal.returns-in-Some-clause-turn
returns-in-Some-clause-turn c = turn-ended _ _ _
    (ap (ended_run _) (sym c.upcoming-upcoming.ensures) ∙ sym c.ended_run.ensures ∙ c.in-Some.is)

pub begin-requires : goal.begin-requires
begin-requires c = block-next _ _ c.requires (sym c.upcoming-upcoming.ensures ∙ c.in-BlockEnd.is)

pub want-requires : goal.want-requires
want-requires c = wanted-small _ _ c.requires _ (sym c.upcoming-upcoming.ensures ∙ c.in-Wanted.is)

pub missing-requires-clause-some : goal.missing-requires-clause-some
missing-requires-clause-some c = (until-within _ _ c.requires (search rules)).0

pub returns-in-End-clause-turn : goal.returns-in-End-clause-turn
returns-in-End-clause-turn c = turn-at _ _ End (search rules) (search rules)

pub returns-in-BlockEnd-clause-turn : goal.returns-in-BlockEnd-clause-turn
returns-in-BlockEnd-clause-turn c = rw (
  c.begin.ensures.block,
  turn-at _ _ BlockEnd
      (sym c.upcoming-upcoming.ensures ∙ c.in-BlockEnd.is) (search rules),
)

pub returns-in-BlockEnd-clause-place : goal.returns-in-BlockEnd-clause-place
returns-in-BlockEnd-clause-place c =
    placed _ _ c.requires _ _ (returns-in-BlockEnd-clause-turn c) c.begin.ensures.longest

pub returns-in-Passed-clause-turn : goal.returns-in-Passed-clause-turn
returns-in-Passed-clause-turn c = turn-at _ _ Passed (search rules) (search rules)

pub returns-in-Fitting-clause-turn : goal.returns-in-Fitting-clause-turn
returns-in-Fitting-clause-turn c = turn-at _ _ Fitting (search rules)
    (ap (ended_run _) (sym c.upcoming-upcoming.ensures) ∙ sym c.ended_run.ensures ∙ c.in_default.is)

pub returns-in-Fitting-clause-place : goal.returns-in-Fitting-clause-place
returns-in-Fitting-clause-place c =
    placed _ _ c.requires _ _ (returns-in-Fitting-clause-turn c) c.requires.longest

pub returns-in-Wanted-clause-turn : goal.returns-in-Wanted-clause-turn
returns-in-Wanted-clause-turn c = rw (
  c.want.ensures,
  turn-at _ _ (Wanted _)
      (sym c.upcoming-upcoming.ensures ∙ c.in-Wanted.is) (search rules),
)

pub returns-in-Wanted-clause-place : goal.returns-in-Wanted-clause-place
returns-in-Wanted-clause-place c = placed _ _ c.requires _ _ (returns-in-Wanted-clause-turn c)
    (rw c.want.ensures c.requires.longest)

pub returns-in-NotHeld-clause-turn : goal.returns-in-NotHeld-clause-turn
returns-in-NotHeld-clause-turn c =
    (λ i. (Some (Turn.Gap (c.missing.ensures.gap i)), c.missing.ensures.walk i))
    ∙ turn-at _ _ _ (sym c.upcoming-upcoming.ensures ∙ c.in-NotHeld.is)
    (ap (ended_run _) (sym c.upcoming-upcoming.ensures) ∙ sym c.ended_run.ensures ∙ c.in_default.is)

pub returns-in-NotHeld-clause-place : goal.returns-in-NotHeld-clause-place
returns-in-NotHeld-clause-place = search rules
