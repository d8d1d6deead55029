-- others_of: what the inputs so far have passed over was added.
use Rattle.std.proofs.Common.{◌≡◌, ◌+◌, ◌-◌, ◌^◌, take}
use Rattle.std.specs.Prelude.{min, sum_by}
use Rattle.flutejoin.specs.InputStreams.{passed_over}
use Rattle.flutejoin.proofs.join.others_of.Given as goal

abbrev pub invariant-loop-input : goal.invariant-loop-input
invariant-loop-input g l =
    l.others ≡ min (l.fn.of_files + sum_by passed_over (take l.input-index l.inputs)) (2 ^ 64 - 1)
