-- Where a refused join of maps stopped.
use Rattle.std.specs.Prelude.{◌≡◌, ◌↔◌, ℕ, List, [], ◌∷◌, ◌++◌, length, IsNone}
use Rattle.std.specs.Option.{ForSome}
use Rattle.std.specs.declared.cmp.Ordering.{Ordering}
use Rattle.flute_join.specs.Semilattice.{IsBelow}
use Rattle.flute_join.specs.JoinMap.{map_join, value_at}
use Rattle.flute_join.specs.declared.refusal.JoinRefusal.{JoinRefusal}
use Rattle.flute_join.specs.declared.refusal.JoinRefusal.TheVariants.{Full, OutOfMemory}

module _ {K X : Type 0} (cmp : K → K → Ordering) (join : X → X → X) (limit : ℕ)
    (over needs_memory : X → X → Type 0) where
  -- the join of fs into es stopped at one entry of fs, with es become ds: the entries before it are
  -- joined, it perhaps in part, and those after it are not
  pub record StopsJoining (es fs ds : List (K × X)) (why : JoinRefusal) : Type 0 where
    pub before : List (K × X)
    pub entry : K × X
    pub after : List (K × X)
    pub parts : fs ≡ before ++ entry ∷ after
    pub above : IsBelow (map_join cmp join) (map_join cmp join es before) ds
    pub below : IsBelow (map_join cmp join) ds (map_join cmp join es (before ++ entry ∷ []))
    -- a new key is not joined, and it is `Full` exactly if there is no room for it
    pub new_unchanged : IsNone (value_at cmp es entry.0) → ds ≡ map_join cmp join es before
    pub new_full : IsNone (value_at cmp es entry.0) → ((why ≡ Full) ↔ (length ds ≡ limit))
    -- at a held key the join of the two values is refused
    pub held_full : ForSome (value_at cmp es entry.0) (λ held. why ≡ Full → over held entry.1)
    pub held_memory :
        ForSome (value_at cmp es entry.0) (λ held. why ≡ OutOfMemory → needs_memory held entry.1)
