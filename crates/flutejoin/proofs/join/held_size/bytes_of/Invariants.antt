-- bytes_of: what was counted and what is left are together what is counted of the store.
use Rattle.std.proofs.Common.{◌≡◌, ◌+◌, ◌-◌, ◌^◌, ◌<◌, min}
use Rattle.flutejoin.specs.HeldSizes.{held_size, size_after}
use Rattle.flutejoin.proofs.join.held_size.bytes_of.Given as goal

abbrev pub invariant-loop-fact : goal.invariant-loop-fact
invariant-loop-fact g l = record {
  counted : min (l.bytes + size_after l.last l.fact-iterator) (2 ^ 64 - 1)
      ≡ min (held_size l.fn.store) (2 ^ 64 - 1);
  within : l.bytes < 2 ^ 64;
}
