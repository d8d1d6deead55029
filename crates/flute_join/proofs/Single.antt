-- A map joined with a map of one pair, and a map joined with itself after a change at one key.
use Rattle.std.proofs.lemmas.Grind.{common_steps}
use Rattle.std.proofs.Common.{rules}
use Rattle.std.proofs.Common.{◌≡◌, Option, IsNone, ℕ, ◌+◌, ◌<◌, ◌≤◌, List, []}
use Rattle.std.proofs.Common.{◌∷◌, length, Bool, true, false, cond, Some, None, unwrap_or}
use Rattle.std.proofs.Common.{Result, OnOk, refl, sym, ap, ◌∙◌, subst, arith, inl, inr}
use Rattle.std.specs.declared.cmp.Ordering.{Ordering}
use Rattle.std.specs.declared.cmp.Ordering.TheVariants.{Less, Equal, Greater}
use Rattle.std.specs.Ordering.{ordering_reverse}
use Rattle.std.specs.Cmp.{IsTotalOrder, Equal-is}
use Rattle.std.proofs.lemmas.Cmp.{tied_itself}
use Rattle.std.specs.Map.{set_value, keys_of}
use Rattle.std.specs.BTreeMap.{is_at, insert_entry}
use Rattle.std.proofs.lemmas.Map.{lookup-none, length-set_value}
use Rattle.std.proofs.lemmas.Map.Entries.{none_below_head}
use Rattle.std.proofs.lemmas.Map.Keys.{sorted_tail}
use Rattle.std.proofs.lemmas.Map.Steps.{set_value_same}
use Rattle.std.proofs.lemmas.Result.{on_ok_weaker}
use Rattle.std.proofs.lemmas.Option.{none-some}
use Rattle.flute_join.specs.MapLaws.{join_nothing}
use Rattle.flute_join.specs.Semilattice.{IsJoin, IsBelow}
use Rattle.flute_join.specs.JoinMap.{map_join, join_entry, value_at, IsOrdered, MapOver}

pub none_from_IsNone : {X : Type 0} (o : Option X) → IsNone o → o ≡ None
none_from_IsNone x0 x1 = search rules

module _ {K X : Type 0} {cmp : K → K → Ordering} (order : IsTotalOrder cmp)
    {join : X → X → X} (laws : IsJoin join) where
  -- at a key that es has
  single_held_at : (e : K × X) (es : List (K × X)) {k : K} {v : X} (w : X) (r : Ordering) → cmp e.0
      k ≡ r → IsOrdered cmp (e ∷ es) → value_at cmp (e ∷ es) k ≡ Some v → (value_at cmp es k ≡ Some
      v → map_join cmp join es ((k, w) ∷ []) ≡ set_value (is_at (cmp k)) es (join v w)) → map_join
      cmp join (e ∷ es) ((k, w) ∷ []) ≡ set_value (is_at (cmp k)) (e ∷ es) (join v w)
  unfolding map_join join_entry
  single_held_at e es {k = k} w Less p s f ih =
      let t = order.antisymm k e.0 ∙ ap ordering_reverse p in
      rw (p, t) (ap (λ l. e ∷ l) (ih (rw t at f)))
  single_held_at e es {k = k} {v = v} w Equal p s f ih =
      let t = order.antisymm k e.0 ∙ ap ordering_reverse p in
      let held = ap (λ o. unwrap_or o v) (rw t at f) in
      rw (p, t) (ap (λ x. (e.0, join x w) ∷ map_join cmp join es []) held
      ∙ ap (λ l. (e.0, join v w) ∷ l) (join_nothing cmp _ es))
  single_held_at e es {k = k} {v = v} w Greater p s f ih =
      let t = order.antisymm k e.0 ∙ ap ordering_reverse p in
      let n = lookup-none _ (e ∷ es)
      (none_below_head order k e es s t) in absurd (none-some v (sym n ∙ f))

  pub single_held : (es : List (K × X)) (k : K) (v w : X) → IsOrdered cmp es → value_at cmp es k ≡
      Some v → map_join cmp join es ((k, w) ∷ []) ≡ set_value (is_at (cmp k)) es (join v w)
  unfolding map_join join_entry
  single_held [] k v w s f = absurd (none-some v f)
  single_held (e ∷ es) k v w s f = single_held_at e es w _ refl s f
      (single_held es k v w (sorted_tail cmp e.0 _ s))

  -- at a key that es lacks
  single_new_at : (e : K × X) (es : List (K × X)) (k : K) (w : X) (r : Ordering)
      → cmp k e.0 ≡ r → value_at cmp (e ∷ es) k ≡ None
      → (value_at cmp es k ≡ None → map_join cmp join es ((k, w) ∷ []) ≡ insert_entry cmp es k w)
      → map_join cmp join (e ∷ es) ((k, w) ∷ []) ≡ insert_entry cmp (e ∷ es) k w
  unfolding map_join join_entry
  single_new_at x0 x1 x2 x3 x4 x5 x6 x7 = search rules

  pub single_new : (es : List (K × X)) (k : K) (w : X) → value_at cmp es k ≡ None
      → map_join cmp join es ((k, w) ∷ []) ≡ insert_entry cmp es k w
  unfolding map_join join_entry
  single_new [] k w f = refl
  single_new (e ∷ es) k w f = single_new_at e es k w _ refl f (single_new es k w)

  -- a value put at a key that es has
  put_held_at : (e : K × X) (es : List (K × X)) {k : K} {v : X} (x : X) (r : Ordering) → cmp k e.0 ≡
      r → IsOrdered cmp (e ∷ es) → value_at cmp (e ∷ es) k ≡ Some v →
      (value_at cmp es k ≡ Some v → insert_entry cmp es k x ≡ set_value (is_at (cmp k)) es x) →
      insert_entry cmp (e ∷ es) k x ≡ set_value (is_at (cmp k)) (e ∷ es) x
  put_held_at e es {k = k} {v = v} x Less p s f ih =
      let n = lookup-none _ (e ∷ es)
      (none_below_head order k e es s p) in absurd (none-some v (sym n ∙ f))
  put_held_at e es x Equal p s f ih = rw p refl
  put_held_at e es x Greater p s f ih = rw p (ap (λ l. e ∷ l) (ih (rw p at f)))

  put_held : (es : List (K × X)) (k : K) (v x : X) → IsOrdered cmp es → value_at cmp es k ≡ Some v →
      insert_entry cmp es k x ≡ set_value (is_at (cmp k)) es x
  put_held [] k v x s f = absurd (none-some v f)
  put_held (e ∷ es) k v x s f = put_held_at e es x _ refl s f
      (put_held es k v x (sorted_tail cmp e.0 _ s))

  -- the joined value, put at a key that es has
  pub put_joins : {m : List (K × X)} (es : List (K × X)) (k : K) (v : X) {w x : X}
      → IsOrdered cmp es → value_at cmp es k ≡ Some v → x ≡ join v w
      → m ≡ insert_entry cmp es k x → m ≡ map_join cmp join es ((k, w) ∷ [])
  put_joins es k v {w} {x} s f e h = search (rules, put_held, is_at, single_held)

  -- a value, put at a key that es lacks
  pub put_new : {m : List (K × X)} (es : List (K × X)) (k : K) (x : X) {w : X} → value_at cmp es k ≡
      None → x ≡ w → m ≡ insert_entry cmp es k x → m ≡ map_join cmp join es ((k, w) ∷ [])
  put_new es k x {w} f e h = search (rules, single_new)

  -- two changes at one place
  same_key : (e f : K × X) (es fs : List (K × X)) → e.0 ≡ f.0 → map_join cmp join (e ∷ es) (f ∷ fs)
      ≡ (e.0, join e.1 f.1) ∷ map_join cmp join es fs
  unfolding map_join join_entry
  same_key e f es fs p = search rules

  repeated : (es : List (K × X)) → map_join cmp join es es ≡ es
  unfolding map_join join_entry
  repeated [] = refl
  repeated (e ∷ es) = same_key e e es es refl ∙ ap (λ v. (e.0, v) ∷ map_join cmp join es es)
      (laws.idempotent e.1) ∙ ap (λ l. e ∷ l) (repeated es)

  join_set_at : (test : K → Bool) (e : K × X) (es : List (K × X)) (v w : X) (b : Bool) → map_join
      cmp join (set_value test es v) (set_value test es w) ≡ set_value test es (join v w) → map_join
      cmp join (cond b ((e.0, v) ∷ es) (e ∷ set_value test es v))
      (cond b ((e.0, w) ∷ es) (e ∷ set_value test es w)) ≡ cond b ((e.0, join v w) ∷ es)
      (e ∷ set_value test es (join v w))
  join_set_at x0 x1 x2 x3 x4 x5 x6 = search (rules, same_key, repeated)

  pub join_set : (test : K → Bool) (es : List (K × X)) (v w : X) → map_join cmp join
      (set_value test es v) (set_value test es w) ≡ set_value test es (join v w)
  unfolding map_join join_entry
  join_set test [] v w = refl
  join_set test (e ∷ es) v w = join_set_at _ e es v w _ (join_set _ es v w)

  -- ---- what a change of the value at a held key leaves
  pub held_above : (es : List (K × X)) (k : K) (v u : X) → value_at cmp es k ≡ Some v
      → IsBelow join v u → IsBelow (map_join cmp join) es (set_value (is_at (cmp k)) es u)
  held_above es k v u f b =
      let test = is_at _ in
      ap (λ l. map_join cmp join l (set_value test es u)) (sym (set_value_same _ es v f))
      ∙ join_set _ es v u ∙ ap (set_value _ es) b

  pub held_below : (es : List (K × X)) (k : K) (v u w : X) → IsOrdered cmp es → value_at cmp es k ≡
      Some v → IsBelow join u (join v w) → IsBelow (map_join cmp join)
      (set_value (is_at (cmp k)) es u) (map_join cmp join es ((k, w) ∷ []))
  held_below es k v u w s f b =
      let test = is_at _ in
      let joined = single_held es k v w s f in
      ap (map_join cmp _ (set_value test es u)) joined ∙ join_set test es u _
      ∙ ap (set_value test es) b ∙ sym joined

  -- ---- what `add_new` leaves
  module _ {T E : Type 0} (es ds : List (K × X)) (k : K) (w : X)
      (absent : value_at cmp es k ≡ None) (r : Result T E)
      (added : OnOk r (ds ≡ insert_entry cmp es k w)) where
    pub added_joins : OnOk r (ds ≡ map_join cmp join es ((k, w) ∷ []))
    added_joins = search (rules, single_new)

  -- ---- the limits, for one pair
  module _ (same : (x y : K) → cmp x y ≡ Equal → x ≡ y) (limit : ℕ) (over : X → X → Type 0) where
    single_value : (k q : K) (w u : X) (b : Bool) → is_at (cmp q) k ≡ b
        → cond b (Some w) None ≡ Some u → (q ≡ k) × (w ≡ u)
    single_value x0 x1 x2 x3 x4 x5 x6 = search rules

    pub not_over_held : (es : List (K × X)) (k : K) (v w : X) → IsOrdered cmp es → length es ≤ limit
        → value_at cmp es k ≡ Some v → ¬ over v w → ¬ MapOver cmp join limit over es ((k, w) ∷ [])
    not_over_held es k v w s within f free (inl long) =
        let e = length-set_value _ es _ in
        let p = ap length (single_held es k v w s f) in
        omega (arith, p ∙ e)
    not_over_held es k v w s within f free (inr (q, a, b, left, right, o)) =
        let found = single_value k q w b _ refl right in
        let held = ap (λ o. unwrap_or o v) (sym left ∙ ap (value_at cmp es) found.0 ∙ f) in
        free (subst (λ x. over x w) held (rw found.1 o))

    length_new_at : (e : K × X) (es : List (K × X)) (k : K) (w : X) (r : Ordering)
        → cmp k e.0 ≡ r → value_at cmp (e ∷ es) k ≡ None
        → (value_at cmp es k ≡ None → length (insert_entry cmp es k w) ≡ length es + 1)
        → length (insert_entry cmp (e ∷ es) k w) ≡ length (e ∷ es) + 1
    length_new_at x0 x1 x2 x3 x4 x5 x6 x7 = search rules

    pub length_new : (es : List (K × X)) (k : K) (w : X) → value_at cmp es k ≡ None
        → length (insert_entry cmp es k w) ≡ length es + 1
    length_new [] k w f = refl
    length_new (e ∷ es) k w f = length_new_at e es k w _ refl f (length_new es k w)

    pub over_new : (es : List (K × X)) (k : K) (w : X) → length es ≡ limit
        → value_at cmp es k ≡ None → MapOver cmp join limit over es ((k, w) ∷ [])
    over_new es k w full f = search (rules, single_new, length_new)

    pub not_over_new : (es : List (K × X)) (k : K) (w : X) → length es < limit
        → value_at cmp es k ≡ None → ¬ MapOver cmp join limit over es ((k, w) ∷ [])
    not_over_new x0 x1 x2 x3 x4 x5 = search
        (rules, single_new, length_new, single_value, is_at, none-some, value_at)
