-- The bytes of an entry, written part by part.
use Rattle.std.proofs.Common.{arith}
use Rattle.std.proofs.lemmas.Grind.{common_steps}
use Rattle.std.proofs.Common.{rules}
use Rattle.flute_journal.proofs.Common.{◌≡◌, ℕ, List, ◌∷◌, ◌++◌, Some, None}
use Rattle.flute_journal.proofs.Common.{refl, append_assoc, toi_of, instance_of}
use Rattle.flute_journal.proofs.Common.{ObjectName, in_bytes, object_bytes}

pub regroup : (h a b c : List ℕ) → ((h ++ a) ++ b) ++ c ≡ h ++ (a ++ (b ++ c))
regroup h a b c = grind (arith, common_steps)

pub regroup_more : (h a b c d e f : List ℕ)
    → (((((h ++ a) ++ b) ++ c) ++ d) ++ e) ++ f ≡ h ++ ((a ++ b) ++ (c ++ (d ++ (e ++ f))))
regroup_more h a b c d e f = simp append_assoc refl

-- the tag and the number of an object

pub instance_bytes : (o : ObjectName) (m n : ℕ) → Some m ≡ instance_of o → n ≡ m
    → 0 ∷ in_bytes 14 n ≡ object_bytes o
instance_bytes x0 x1 x2 x3 x4 = search rules

pub file_bytes : (o : ObjectName) (n : ℕ) → None ≡ instance_of o → n ≡ toi_of o
    → 1 ∷ in_bytes 14 n ≡ object_bytes o
file_bytes x0 x1 x2 x3 = search rules
