-- Lists of which each element is something.
use Rattle.std.proofs.Common.{arith}
use Rattle.std.proofs.lemmas.Grind.{common_steps}
use Rattle.flute_journal.proofs.Common.{List, [], ◌∷◌, ◌++◌, AllByRecursion}

module _ {X : Type 0} (P : X → Type 0) where
  pub all_append : (xs ys : List X) → AllByRecursion P xs → AllByRecursion P ys
      → AllByRecursion P (xs ++ ys)
  all_append x0 x1 x2 x3 = grind (arith, common_steps)

  pub all_more : (xs : List X) (x : X) → AllByRecursion P xs → P x → AllByRecursion P (xs ++ x ∷ [])
  all_more xs x p q = all_append xs (x ∷ []) p (q, tt)

  pub all_split : (xs ys : List X) → AllByRecursion P (xs ++ ys)
      → AllByRecursion P xs × AllByRecursion P ys
  all_split [] ys h = (tt, h)
  all_split (x ∷ xs) ys h = let r = all_split xs ys h.1 in ((h.0, r.0), r.1)

  pub all_map : (Q : X → Type 0) (xs : List X) → ((x : X) → P x → Q x)
      → AllByRecursion P xs → AllByRecursion Q xs
  all_map Q [] h p = tt
  all_map Q (x ∷ xs) h p = (h x p.0, all_map Q xs h p.1)
