-- One pair joined into a map: the joined map is sound, or beyond a limit (specs/WellFormed).
use Rattle.std.proofs.Common.{rules}
use Rattle.std.proofs.Common.{◌≡◌, ◌≢◌, ℕ, ◌+◌, ◌<◌, ◌≤◌, List, [], ◌∷◌, length, Bool, Option, Some}
use Rattle.std.proofs.Common.{None, sym, ap, ◌∙◌, subst, inl, inr, arith, bytes_eq}
use Rattle.std.proofs.lemmas.Map.{length-set_value}
use Rattle.flute_join.proofs.Public.{ordered_one}
use Rattle.flute_store.proofs.FactEntries.{AreKeys, session_keys, object_keys}
use Rattle.flute_store.proofs.Common
use Common.{cases_Bool, same_Some, Ordering, is_at, none-some, IsJoin, IsBelow, map_join, value_at}
use Common.{IsOrdered, EachValue, IsSound, map_join_laws, below_join, ordered-map_join}
use Common.{each-value_at, each-set_value, each-insert_entry, some_above, single_held}
use Common.{single_new, length_new}
use Common.{cell_join, IsKnown, Cell, Absent, SymbolId, SymbolUpdate, update_cell, update_symbols}
use Common.{AnyValue, value_at-map_join, join_values, tied_itself, object_cmp, session_cmp}
use Common.{symbol_id_cmp, object_join, session_join, object_join_laws, session_laws}

module _ {K X : Type 0} (cmp : K → K → Ordering) (B : X → Type 0) where
  pub any-value_at : (es : List (K × X)) (k : K) (v : X) → value_at cmp es k ≡ Some v → B v
      → AnyValue B es
  any-value_at [] k v f p = absurd (none-some v f)
  any-value_at (e ∷ es) k v f p = elim (cases_Bool (is_at (cmp k) e.0)) [
    | inl b ↦ inl (subst B (sym (same_Some e.1 v (rw b at f))) p)
    | inr b ↦ inr (any-value_at es k v (rw b at f) p)
  ]

-- keys in their order, and a join of what they lead to
pub record AreJoined {K X : Type 0} (cmp : K → K → Ordering) (join : X → X → X) : Type 0 where
  pub keys : AreKeys cmp
  pub laws : IsJoin join

pub symbols_joined : AreJoined symbol_id_cmp (cell_join bytes_eq)
symbols_joined = search rules

pub objects_joined : (n : ℕ) → AreJoined object_cmp (object_join {n = n})
objects_joined n = record { keys = object_keys; laws = object_join_laws n }

pub sessions_joined : (n : ℕ) → AreJoined session_cmp (session_join {n = n})
sessions_joined n = record { keys = session_keys; laws = session_laws n }

-- a map within a limit, in the order of its keys, of all whose values this holds
pub record IsMap {K X : Type 0} (cmp : K → K → Ordering) (limit : ℕ) (P : X → Type 0)
    (es : List (K × X)) : Type 0 where
  pub ordered : IsOrdered cmp es
  pub within : length es ≤ limit
  pub each : EachValue P es

pub has-room : {K X : Type 0} {cmp : K → K → Ordering} {limit : ℕ} {P : X → Type 0}
    (es : List (K × X)) → IsOrdered cmp es → EachValue P es → length es < limit
    → IsMap cmp limit P es
has-room = search rules

module _ {K X : Type 0} {cmp : K → K → Ordering} {join : X → X → X} (all : AreJoined cmp join) where
  pub some-right : (es fs : List (K × X)) → fs ≢ [] → map_join cmp join es fs ≢ []
  some-right es fs h =
      let laws = map_join_laws all.keys.order all.keys.same all.laws in
      some_above all.keys.order _ _ _
      (subst (IsBelow (map_join _ join) _) (laws.commutative _ _) (below_join laws _ es)) h

  -- one pair is joined into a map
  abbrev pub with_pair : List (K × X) → K → X → List (K × X)
  with_pair es k w = map_join cmp join es ((k, w) ∷ [])

  pair-ordered : (es : List (K × X)) (k : K) (w : X) → IsOrdered cmp es
      → IsOrdered cmp (with_pair es k w)
  pair-ordered es k w s = search (rules, ordered-map_join, ordered_one)

  pair-some : (es : List (K × X)) (k : K) (w : X) → with_pair es k w ≢ []
  pair-some es k w = some-right _ _ (λ e. cc)

  pair-longer : (es : List (K × X)) (k : K) (w : X) (limit : ℕ) → value_at cmp es k ≡ None
      → length (with_pair es k w) ≡ length es + 1
  pair-longer es k w limit f = ap length (single_new all.keys.order all.laws es k w f) ∙ length_new
      all.keys.order all.laws all.keys.same limit (λ _ _. ⊥) es k w f

  module _ {limit : ℕ} {P : X → Type 0} {es : List (K × X)} (m : IsMap cmp limit P es) (k : K)
      (w : X) where
    -- at a held key the joined map is sound
    pub held-sound : {v : X} → value_at cmp es k ≡ Some v → P (join v w)
        → IsSound cmp limit P (with_pair es k w)
    held-sound {v} f p =
        let is = single_held all.keys.order all.laws _ k v w m.ordered f in
        let same_length : length (with_pair es k w) ≡ length es = ap length is ∙ length-set_value
        _ es (join v w) in record {
          ordered = pair-ordered _ k w m.ordered;
          within = (omega (arith, m.within));
          some = pair-some es k w;
          each = search (rules, each-set_value);
        }

    -- at a new key with room it is sound
    pub new-sound : value_at cmp es k ≡ None → length es < limit → P w
        → IsSound cmp limit P (with_pair es k w)
    new-sound f room p =
        let longer = pair-longer _ k w limit f in
        record {
          ordered = pair-ordered _ k w m.ordered;
          within = omega (arith, room);
          some = pair-some _ k w;
          each = search (rules, single_new, each-insert_entry);
        }

    -- so it is if there is room, where a join keeps what holds of each value
    pub joined-sound : (found : Option X) → value_at cmp es k ≡ found →
        ((v : X) → P v → P (join v w)) → P w → (value_at cmp es k ≡ None → length es < limit) →
        IsSound cmp limit P (with_pair es k w)
    joined-sound None f kept p room = new-sound f (room f) p
    joined-sound (Some v) f kept p room =
        held-sound f (kept v (each-value_at cmp P es k v m.each f))

  module _ (es : List (K × X)) (k : K) (w : X) where
    joined_there : (found : Option X) → IsOrdered cmp es → value_at cmp es k ≡ found
        → value_at cmp (with_pair es k w) k ≡ join_values join found (Some w)
    joined_there found s f = value_at-map_join all.keys.order _ _ ((k, w) ∷ []) k s
        (search (rules, ordered_one)) ∙ rw (f, tied_itself all.keys.order k)

    -- beyond a limit: at a held key, at a new one, and at a new key of a full map
    pub held-beyond : (B : X → Type 0) {v : X} → IsOrdered cmp es → value_at cmp es k ≡ Some v
        → B (join v w) → AnyValue B (with_pair es k w)
    held-beyond B {v} s f p = any-value_at cmp B _ k _ (joined_there _ s f) p

    pub new-beyond : (B : X → Type 0) → IsOrdered cmp es → value_at cmp es k ≡ None → B w
        → AnyValue B (with_pair es k w)
    new-beyond B s f p = any-value_at cmp B _ k w (joined_there _ s f) p

    pub full-beyond : (limit : ℕ) → value_at cmp es k ≡ None → length es ≡ limit
        → limit < length (with_pair es k w)
    full-beyond limit f full = omega (arith, pair-longer _ k w limit f)

-- ---- cells
pub update-some : (o : Option (SymbolId × SymbolUpdate)) → o ≢ None → update_symbols o ≢ []
update-some = search rules

pub known-join : {T : Type 0} (eq : T → T → Bool) (c d : Cell T) → IsKnown c
    → IsKnown (cell_join eq c d)
known-join = grind arith

pub absent-right : {T : Type 0} (eq : T → T → Bool) (c d : Cell T) → cell_join eq c d ≡ Absent
    → d ≡ Absent
absent-right = grind arith

pub known-update : (t : SymbolUpdate) → IsKnown (update_cell t)
known-update = grind arith
