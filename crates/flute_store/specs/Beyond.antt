-- Nested maps that pass the limits.
use Rattle.std.specs.Prelude.{ℕ, ◌<◌, ◌⊎◌, List, [], ◌∷◌, length}
use Rattle.flute_parts.specs.Session.{Session}
use Rattle.flute_parts.specs.declared.object_key.ObjectName.{ObjectName}
use Rattle.flute_store.specs.declared.object.Object.{Object}

-- P holds of some value
abbrev pub AnyValue : {K X : Type 0} → (X → Type 0) → List (K × X) → Type 0
AnyValue P [] = ⊥
AnyValue P (e ∷ es) = P e.1 ⊎ AnyValue P es

module _ {symbols : ℕ} where
  -- the object has too many symbols
  abbrev pub ObjectBeyond : Object symbols → Type 0
  ObjectBeyond x = symbols < length x.symbols

  -- the session has too many objects, or one of them has too many symbols
  abbrev pub SessionBeyond : ℕ → List (ObjectName × Object symbols) → Type 0
  SessionBeyond objects os = (objects < length os) ⊎ AnyValue ObjectBeyond os

  -- there are too many sessions, or one of them is beyond its limits
  abbrev pub StoreBeyond : ℕ → ℕ → List (Session × List (ObjectName × Object symbols)) → Type 0
  StoreBeyond sessions objects m = (sessions < length m) ⊎ AnyValue (SessionBeyond objects) m
