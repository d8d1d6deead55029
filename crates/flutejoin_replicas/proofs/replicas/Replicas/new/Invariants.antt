-- Replicas::new: as many empty replicas as turns.
use Rattle.std.proofs.Common.{◌≡◌, [], map}
use Rattle.std.specs.Prelude.{replicate}
use Rattle.flutejoin_replicas.proofs.replicas.Replicas.new.Given as goal

abbrev pub invariant-loop : goal.invariant-loop
invariant-loop g l =
    (map (λ x. x.store) l.replicas.items ≡ replicate l.counter [])
    × (map (λ x. x.refused) l.replicas.items ≡ replicate l.counter 0)
