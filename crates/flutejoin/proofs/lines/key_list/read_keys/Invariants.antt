-- read_keys: the objects of the lines that were read.
use Rattle.std.proofs.Common.{◌≡◌, ◌-◌, ◌^◌}
use Rattle.flutejoin.specs.KeyLists.{HoldsKeys}
use Rattle.flutejoin.proofs.lines.key_list.read_keys.Given as goal

abbrev pub invariant-loop-keys : goal.invariant-loop-keys
invariant-loop-keys g l = record {
  so_far : HoldsKeys (g.R.Source.unread l.fn.source) (g.R.Source.unread l.source) l.number l.keys;
  failures : g.R.Source.failures l.source ≡ g.R.Source.failures l.fn.source;
}

abbrev pub decreases-loop-keys : goal.decreases-loop-keys
decreases-loop-keys g l = 2 ^ 64 - l.number
