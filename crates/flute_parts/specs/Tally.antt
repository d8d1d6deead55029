-- How far facts at rising addresses are counted.
use Rattle.std.specs.Prelude.{◌≡◌, ℕ, ◌≤◌, List, [], ◌∷◌, ◌++◌, length, map, Option, Some, None}
use Rattle.std.specs.List.{last_or}
use Rattle.flute_parts.specs.declared.key.Key.{Key}
use Rattle.flute_parts.specs.declared.fact.Fact.{Fact}
use Rattle.flute_parts.specs.declared.tally.Tally.{Tally}
use Rattle.flute_parts.specs.Addresses.{address}
use Rattle.flute_parts.specs.Limits.{sessions, objects, symbols, Over}

-- the object of the last fact
abbrev pub last_key : List Fact → Option Key
last_key facts = last_or None (map (λ f. (address f).key) facts)

-- the tally has counted the facts, which are within the limits: the sessions that they name,
-- the objects of the last session and the symbols of the last object
pub record Counts (s o y : ℕ) (F : List Fact) (tally : Tally s o y) : Type 0 where
  pub last : tally.last ≡ last_key F
  pub session_count : tally.sessions ≡ length (sessions F)
  pub object_count : (key : Key) → tally.last ≡ Some key
      → tally.objects ≡ length (objects F key.session)
  pub symbol_count : (key : Key) → tally.last ≡ Some key → tally.symbols ≡ length (symbols F key)
  pub within : Over F s o y → ⊥

-- it has counted those facts and then the object of one more, but not yet its symbol
pub record CountsKey (s o y : ℕ) (F : List Fact) (f : Fact) (tally : Tally s o y) : Type 0 where
  pub last : tally.last ≡ Some (address f).key
  pub session_count : tally.sessions ≡ length (sessions (F ++ f ∷ []))
  pub object_count : tally.objects ≡ length (objects (F ++ f ∷ []) (address f).key.session)
  pub symbol_count : tally.symbols ≡ length (symbols F (address f).key)
  pub few_sessions : length (sessions (F ++ f ∷ [])) ≤ s
  pub few_objects : length (objects (F ++ f ∷ []) (address f).key.session) ≤ o
  pub within : Over F s o y → ⊥
