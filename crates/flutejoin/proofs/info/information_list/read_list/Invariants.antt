-- read_list: the facts of the lines that were read.
use Rattle.std.proofs.Common.{◌≡◌, ◌-◌, ◌^◌}
use Rattle.flutejoin.specs.InformationLines.{HoldsList}
use Rattle.flutejoin.proofs.info.information_list.read_list.Given as goal

abbrev pub invariant-loop-told : goal.invariant-loop-told
invariant-loop-told g l = record {
  so_far : HoldsList (g.R.Source.unread l.fn.source) (g.R.Source.unread l.source) l.number l.told;
  failures : g.R.Source.failures l.source ≡ g.R.Source.failures l.fn.source;
}

abbrev pub decreases-loop-told : goal.decreases-loop-told
decreases-loop-told g l = 2 ^ 64 - l.number
