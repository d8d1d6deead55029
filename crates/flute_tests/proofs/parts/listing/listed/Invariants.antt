-- What is listed so far, and the symbols of the blocks to come, are all of them.
use Rattle.std.proofs.Common.{◌≡◌, ◌++◌, drop, flat_map}
use Rattle.std.specs.List.{enumerate_from}
use Rattle.flute_parts.specs.Partition.{block_ids}
use Rattle.flute_tests.proofs.parts.listing.listed.Given as goal

abbrev pub invariant-loop-sbn : goal.invariant-loop-sbn
invariant-loop-sbn l =
    l.found.items ++ flat_map block_ids (enumerate_from l.sbn (drop l.sbn l.length-items))
    ≡ flat_map block_ids (enumerate_from 0 l.length-items)
