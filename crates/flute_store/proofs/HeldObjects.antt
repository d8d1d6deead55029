-- The objects of a store, one after another (specs/HeldObjects).
use Rattle.flute_store.proofs.Maps.{Objects, Sessions}
use Rattle.std.proofs.Common.{◌≡◌, ℕ, [], ◌∷◌, ◌++◌, refl, ◌∙◌}
use Rattle.std.proofs.lemmas.Grind.{flat_map-append}
use Rattle.flute_store.{specs.HeldObjects.{keyed, keyed_objects, HaveObjects}}
use Rattle.flute_store.{specs.Walk.{facts_in}}
use Rattle.flute_store.proofs.FactEntries.{each-append}
use Rattle.flute_store.proofs.Common
use Common.{EachValue, Session, Key, Object}
use Common.{object_facts, session_facts, content, IsObject, IsSession}

each-keyed : {n : ℕ} (s : Session) (os : Objects n) → EachValue IsObject os
    → EachValue IsObject (keyed s os)
each-keyed s [] p = tt
each-keyed s (e ∷ os) p = (p.0, each-keyed s os p.1)

facts-keyed : {n : ℕ} (s : Session) (os : Objects n)
    → facts_in object_facts (keyed s os) ≡ session_facts s os
facts-keyed s [] = refl
facts-keyed s (e ∷ os) = rw (facts-keyed s os)

module _ {n : ℕ} where
  -- each of them is known
  pub known-objects : (o : ℕ) (m : Sessions n)
      → EachValue (IsSession o) m → EachValue IsObject (keyed_objects (λ os. os) m)
  known-objects o [] p = tt
  known-objects o (e ∷ m) p = each-append (λ (x : Key × Object n). IsObject _) _
      _ (each-keyed _ _ p.0.each) (known-objects o m p.1)

  pub have-objects : (o : ℕ) (m : Sessions n) → EachValue (IsSession o) m → HaveObjects (λ os. os) m
  have-objects o [] p = tt
  have-objects o (e ∷ m) p = (p.0.some, have-objects o m p.1)

  -- their facts are those of the store
  pub facts-objects : (m : Sessions n)
      → facts_in object_facts (keyed_objects (λ os. os) m) ≡ content m
  facts-objects [] = refl
  facts-objects (e ∷ m) =
      flat_map-append (λ (x : Key × Object n). object_facts x.0 x.1) (keyed e.0 e.1)
      (keyed_objects (λ os. os) m) ∙ (λ i. facts-keyed e.0 e.1 i ++ facts-objects m i)
