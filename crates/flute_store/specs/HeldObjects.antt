-- The objects of a store, each with its key, in the order of their keys.
use Rattle.std.specs.Prelude.{◌≢◌, List, [], ◌++◌, map, flat_map, Option, Some, None}
use Rattle.flute_join.specs.JoinMap.{EachValue}
use Rattle.flute_parts.specs.Session.{Session}
use Rattle.flute_parts.specs.declared.object_key.ObjectName.{ObjectName}
use Rattle.flute_parts.specs.declared.key.Key.{Key}
use Rattle.flute_store.specs.Content.{key_in}

-- the objects of a session, each with its whole key
abbrev pub keyed : {X : Type 0} → Session → List (ObjectName × X) → List (Key × X)
keyed session objects = map (λ e. (key_in session e.0, e.1)) objects

module _ {S X : Type 0} (objects_of : S → List (ObjectName × X)) where
  -- the objects of all sessions, each with its whole key
  abbrev pub keyed_objects : List (Session × S) → List (Key × X)
  keyed_objects sessions = flat_map (λ e. keyed e.0 (objects_of e.1)) sessions

  -- the objects that are still to be given: first those of the session that was begun
  abbrev pub objects_left : Option (Session × List (ObjectName × X)) → List (Session × S)
      → List (Key × X)
  objects_left None sessions = keyed_objects sessions
  objects_left (Some begun) sessions = keyed begun.0 begun.1 ++ keyed_objects sessions

  -- each session has an object
  abbrev pub HaveObjects : List (Session × S) → Type 0
  HaveObjects sessions = EachValue (λ session. objects_of session ≢ []) sessions
