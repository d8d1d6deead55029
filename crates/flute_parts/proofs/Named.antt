-- The names in facts, and how many there are (specs/Limits).
use Rattle.std.proofs.Common.{rules}
use Rattle.std.proofs.Common.{◌≡◌, ℕ, ◌≤◌, Bool, true, List, [], ◌∷◌}
use Rattle.std.proofs.Common.{length, Option, Some, refl, inl, inr}
use Rattle.std.proofs.Common.{◌⊎◌, arith}
use Rattle.std.specs.List.{cons_option}
use Rattle.std.proofs.lemmas.Bool.{false≢true}
use Rattle.flute_parts.specs.declared.address.Address.{Address}
use Rattle.flute_parts.specs.declared.fact.Fact.{Fact}
use Rattle.flute_parts.specs.Order.{same_session, same_object, same_symbol_id}
use Rattle.flute_parts.specs.Addresses.{address}
use Rattle.flute_parts.specs.Facts.{Below}
use Rattle.flute_parts.specs.Limits.{firsts, named, session_of, object_of, symbol_of, sessions}
use Rattle.flute_parts.specs.Limits.{objects, symbols, Over, more_sessions, more_objects}
use Rattle.flute_parts.specs.Limits.{more_symbols}
use Rattle.flute_parts.proofs.Counted.{Tells, has, length-firsts}
use Rattle.flute_parts.proofs.Facts.{Member, Names-below}

module _ {X : Type 0} (same : X → X → Bool) (t : Tells same) (part : Address → Option X) where
  pub named-member : (g : Fact) (G : List Fact) (x : X) → Member g G
      → part (address g) ≡ Some x → has same t x (named part G) ≡ true
  unfolding Member
  named-member g [] x m e = absurd m
  named-member g (f ∷ G) x (inl p) e = search rules
  named-member g (f ∷ G) x (inr m) e = search (rules, named-member g G x m e)

  has-split : (x : X) (o : Option X) (xs : List X) → has same t x (cons_option o xs) ≡ true
      → (o ≡ Some x) ⊎ (has same t x xs ≡ true)
  has-split x0 x1 x2 x3 = search rules

  pub named-names : (F : List Fact) (x : X) → has same t x (named part F) ≡ true
      → (f : Fact) × Member f F × (part (address f) ≡ Some x)
  unfolding Member
  named-names [] x h = absurd (false≢true h)
  named-names (f ∷ F) x h = elim (has-split x (part (address f)) (named part F) h) [
    | inl e ↦ (f, inl refl, e)
    | inr k ↦ let n = named-names F x k in (n.0, inr n.1, n.2)
  ]

  pub length-named : (F G : List Fact) → Below F G
      → length (firsts same (named part F)) ≤ length (firsts same (named part G))
  length-named F G h = search (rules, length-firsts, named, named-names, Names-below, named-member)

pub session_tells : Tells same_session
session_tells = search rules

pub object_tells : Tells same_object
object_tells = search rules

pub symbol_id_tells : Tells same_symbol_id
symbol_id_tells = search rules

pub Over-below : (F G : List Fact) (s o y : ℕ) → Below F G → Over F s o y → Over G s o y
unfolding sessions objects symbols
Over-below F G s o y h (more_sessions l) =
    more_sessions (omega (arith, l, length-named same_session session_tells session_of F G h))
Over-below F G s o y h (more_objects session l) = more_objects session
    (omega (arith, l, length-named same_object object_tells (object_of session) F G h))
Over-below F G s o y h (more_symbols key l) = more_symbols key
    (omega (arith, l, length-named same_symbol_id symbol_id_tells (symbol_of key) F G h))
