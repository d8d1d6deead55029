-- list_block: so far the first symbols of the block are listed.
use Rattle.std.proofs.Common.{◌≡◌, ◌++◌, map}
use Rattle.std.specs.List.{range_with_len}
use Rattle.flute_parts.specs.Partition.{symbol_id}
use Rattle.flute_tests.proofs.parts.listing.list_block.Given as goal

abbrev pub invariant-loop-esi : goal.invariant-loop-esi
invariant-loop-esi l =
    l.found.items ≡ l.initial.found.items ++ map (symbol_id l.sbn) (range_with_len 0 l.esi)
