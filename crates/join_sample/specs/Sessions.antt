-- Sessions of objects.
use Rattle.std.specs.Prelude.{ℕ, List}
use Rattle.std.specs.Ordering.{nat_cmp}
use Rattle.flute_join.specs.JoinMap.{map_join, MapOver, IsSound}
use Rattle.join_sample.specs.declared.Object.{Object}
use Rattle.join_sample.specs.Object.{object_join, ObjectOver, IsSoundObject}

module _ {n : ℕ} where
  -- the objects of two sessions joined, and the sessions of two stores
  abbrev pub objects_join : List (ℕ × Object n) → List (ℕ × Object n) → List (ℕ × Object n)
  objects_join = map_join nat_cmp object_join

  abbrev pub sessions_join : List (ℕ × List (ℕ × Object n)) → List (ℕ × List (ℕ × Object n))
      → List (ℕ × List (ℕ × Object n))
  sessions_join = map_join nat_cmp objects_join

  -- together they have more sessions, objects of one session or symbols of one object
  -- than the limits
  abbrev pub SessionsOver : ℕ → ℕ → List (ℕ × List (ℕ × Object n)) → List (ℕ × List (ℕ × Object n))
      → Type 0
  SessionsOver sessions objects =
      MapOver nat_cmp objects_join sessions (MapOver nat_cmp object_join objects ObjectOver)

  -- a session has an object, and something is known of each of its objects
  abbrev pub IsSoundObjects : ℕ → List (ℕ × Object n) → Type 0
  IsSoundObjects objects = IsSound nat_cmp objects IsSoundObject
