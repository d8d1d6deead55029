-- The join of two maps, each seen as its entries in the order of the keys.
use Rattle.std.specs.Prelude.{◌≡◌, ℕ, ◌<◌, ◌≤◌, ◌≢◌, List, [], ◌∷◌, length, Option, Some, None, ◌⊎◌}
use Rattle.std.specs.declared.cmp.Ordering.{Ordering}
use Rattle.std.specs.Ordering.{match_ordering}
use Rattle.std.specs.Map.{keys_of, lookup}
use Rattle.std.specs.BTreeMap.{is_at}
use Rattle.std.specs.Option.{ForSome}
use Rattle.std.specs.List.Sorted.{IsStrictlySortedBy}

-- the values that two maps have at one key, joined if both have one
abbrev pub join_values : {X : Type 0} → (X → X → X) → Option X → Option X → Option X
join_values join None d = d
join_values join (Some v) None = Some v
join_values join (Some v) (Some w) = Some (join v w)

-- P holds of each value
abbrev pub EachValue : {K X : Type 0} → (X → Type 0) → List (K × X) → Type 0
EachValue P [] = Unit {0}
EachValue P (e ∷ es) = P e.1 × EachValue P es

module _ {K X : Type 0} (cmp : K → K → Ordering) where
  -- the keys ascend
  abbrev pub IsOrdered : List (K × X) → Type 0
  IsOrdered es = IsStrictlySortedBy cmp (keys_of es)

  -- the value at the key q
  abbrev pub value_at : List (K × X) → K → Option X
  value_at es q = lookup (is_at (cmp q)) es

  -- the keys ascend, there is at least one and at most `limit` of them, and P holds of each value
  pub record IsSound (limit : ℕ) (P : X → Type 0) (es : List (K × X)) : Type 0 where
    pub ordered : IsOrdered es
    pub within : length es ≤ limit
    pub some : es ≢ []
    pub each : EachValue P es

  -- joining fs into es may ask for memory: some key of fs is not in es, or joining the values
  -- at it may ask
  abbrev pub MapNeedsMemory : (X → X → Type 0) → List (K × X) → List (K × X) → Type 0
  MapNeedsMemory needs_memory es fs =
      (q : K) × (w : X) × (value_at fs q ≡ Some w) × ForSome (value_at es q) (λ v. needs_memory v w)

  module _ (join : X → X → X) where
    -- e before es, joined with the last argument, where `on` joins es with a list
    unfoldable pub join_entry : K × X → List (K × X) → (List (K × X) → List (K × X)) → List (K × X)
        → List (K × X)
    join_entry e es on [] = e ∷ es
    join_entry e es on (f ∷ fs) =
        match_ordering (cmp e.0 f.0) (e ∷ on (f ∷ fs)) ((e.0, join e.1 f.1) ∷ on fs)
        (f ∷ join_entry e es on fs)

    -- the entries of both in the order of the keys, with the values at a shared key joined
    unfoldable pub map_join : List (K × X) → List (K × X) → List (K × X)
    map_join [] fs = fs
    map_join (e ∷ es) fs = join_entry e es (map_join es) fs

    -- two maps have more than `limit` keys together, or the limits forbid the join of their
    -- values at a shared key
    abbrev pub MapOver : ℕ → (X → X → Type 0) → List (K × X) → List (K × X) → Type 0
    MapOver limit over es fs =
        (limit < length (map_join es fs))
        ⊎ ((q : K) × (v : X) × (w : X) × (value_at es q ≡ Some v) × (value_at fs q ≡ Some w)
        × over v w)
