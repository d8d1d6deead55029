-- Store::objects: the keys of a store rise, and are those of the objects it holds.
use Rattle.flute_store.proofs.Maps.{Objects, Sessions}
use Rattle.std.proofs.Common.{rules}
use Rattle.std.proofs.Common.{◌≡◌, ℕ, List, [], ◌∷◌, ◌++◌, Some, refl, sym, ap, ◌∙◌}
use Rattle.std.proofs.Common.{subst, inl, inr, ◌↔◌, arith}
use Rattle.std.proofs.Common.{map}
use Rattle.std.proofs.lemmas.List.{map-append}
use Rattle.flute_store.{specs.HeldObjects.{keyed, keyed_objects}, proofs.Found.{object_held}}
use Rattle.flute_store.proofs.FactEntries.{each-append}
use Rattle.flute_store.proofs.StoreJoin.{OrderedSession, OrderedStore, ordered-store}
use Rattle.flute_store.proofs.Exceeding.{first_value, later_value, solid-store, object_stands}
use Rattle.flute_store.proofs.Common
use Common.{Contains, flat_map, Less, is_eq, Equal-is, keys_of, AllByRecursion, cases_Bool}
use Common.{IsStrictlySortedBy, Contains-append_left, Contains-append_right, same_Some}
use Common.{Contains-append_cases, sorted_tail, none-some, value_at, IsOrdered, EachValue, Session}
use Common.{ObjectName, Key, session_cmp, object_cmp, key_cmp, session_total, object_total}
use Common.{session_place, object_place, session_tells, object_tells, Object, key_in, content}
use Common.{HoldsObject, IsStore}

abbrev session_keys : {X : Type 0} → Session → List (ObjectName × X) → List Key
session_keys session objects = map (λ e. key_in session e.0) objects

abbrev store_keys : {X : Type 0} → List (Session × List (ObjectName × X)) → List Key
store_keys sessions = flat_map (λ e. session_keys e.0 e.1) sessions

-- ---- the keys rise
abbrev Before : Key → List Key → Type 0
Before k ks = AllByRecursion (λ y. key_cmp k y ≡ Less) ks

rise-append : (xs ys : List Key) → IsStrictlySortedBy key_cmp xs → IsStrictlySortedBy key_cmp ys
    → AllByRecursion (λ k. Before k ys) xs → IsStrictlySortedBy key_cmp (xs ++ ys)
unfolding IsStrictlySortedBy
rise-append [] ys p q b = q
rise-append (x ∷ xs) ys p q b = (search (rules, each-append), rise-append xs _ p.1 q b.1)

pub one_is : {X : Type 0} (y x : X) → Contains (y ∷ []) x → y ≡ x
one_is = search rules

pub first_is : {X : Type 0} (x : X) (xs : List X) → Contains (x ∷ xs) x
first_is x xs = (0, omega arith, refl)

pub none_in : {X : Type 0} (x : X) → Contains [] x → ⊥
none_in x c = omega (arith, c.1)

module _ {X : Type 0} where
  session-keys-are : (s : Session) (es : List (ObjectName × X))
      → keys_of (keyed s es) ≡ session_keys s es
  session-keys-are s [] = refl
  session-keys-are s (e ∷ es) = rw (session-keys-are s es)

  keys-are : (m : List (Session × List (ObjectName × X)))
      → keys_of (keyed_objects (λ os. os) m) ≡ store_keys m
  keys-are [] = refl
  keys-are (e ∷ m) = map-append (λ (x : Key × X). x.0) (keyed _ _) _
      ∙ (λ i. session-keys-are e.0 e.1 i ++ keys-are m i)

  object_before : (s : Session) (o : ObjectName) (es : List (ObjectName × X)) → AllByRecursion
      (λ y. object_cmp o y ≡ Less) (keys_of es) → Before (key_in s o) (session_keys s es)
  object_before s o [] p = tt
  object_before s o (e ∷ es) p = (search rules, object_before s o es p.1)

  session_rises : (s : Session) (es : List (ObjectName × X)) → IsOrdered object_cmp es
      → IsStrictlySortedBy key_cmp (session_keys s es)
  unfolding IsStrictlySortedBy
  session_rises s [] p = tt
  session_rises s (e ∷ es) p = (object_before s _ _ p.0, session_rises s es p.1)

  session_before : (k : Key) (s : Session) (es : List (ObjectName × X))
      → session_cmp k.session s ≡ Less → Before k (session_keys s es)
  session_before k s [] l = tt
  session_before k s (e ∷ es) l = (rw l, session_before k s es l)

  sessions_before : (k : Key) (m : List (Session × List (ObjectName × X)))
      → AllByRecursion (λ y. session_cmp k.session y ≡ Less) (keys_of m) → Before k (store_keys m)
  sessions_before k [] p = tt
  sessions_before k (e ∷ m) p = each-append (λ y. key_cmp k y ≡ Less) (session_keys _ _)
      _ (session_before k _ _ p.0) (sessions_before k m p.1)

  all_before : (s : Session) (es : List (ObjectName × X))
      (m : List (Session × List (ObjectName × X))) → AllByRecursion (λ y. session_cmp s y ≡ Less)
      (keys_of m) → AllByRecursion (λ k. Before k (store_keys m)) (session_keys s es)
  all_before s [] m p = tt
  all_before s (e ∷ es) m p = (sessions_before _ m p, all_before s es m p)

  -- ---- a key of the list is looked up
  in_session : (s : Session) (es : List (ObjectName × X)) (k : Key) → IsOrdered object_cmp es
      → Contains (session_keys s es) k
      → (k.session ≡ s) × ((v : X) × (value_at object_cmp es k.object ≡ Some v))
  in_session s [] k p c = absurd (none_in k c)
  in_session s (e ∷ es) k p c = elim (Contains-append_cases (key_in s _ ∷ []) _ k c) [
    | inl h ↦ let q = one_is (key_in s _) k h in (
      sym (ap (λ z. z.session) q),
      (
        e.1,
        subst
            (λ (z : Key). value_at object_cmp (e ∷ es) z.object ≡ Some e.1) q
            (first_value object_total object_tells e _),
      ),
    )
    | inr h ↦ let r = in_session s es k (sorted_tail _ _ _ p) h in
        (r.0, (r.1.0, later_value object_total object_tells e _ _ _ p r.1.1))
  ]

  session_has : (s : Session) (es : List (ObjectName × X)) (o : ObjectName) (v : X)
      → value_at object_cmp es o ≡ Some v → Contains (session_keys s es) (key_in s o)
  session_has s [] o v f = absurd (none-some v f)
  session_has s (e ∷ es) o v f = elim (cases_Bool (is_eq _)) [
    | inl t ↦ rw (object_place o _ ((Equal-is (object_cmp o e.0)).0 t)) (first_is _ _)
    | inr t ↦ Contains-append_right (key_in s e.0 ∷ []) _ _ (session_has s es o v (rw t at f))
  ]

module _ {n : ℕ} where
  -- the keys of a store rise
  sessions_rise : (m : Sessions n) → IsOrdered session_cmp m
      → EachValue OrderedSession m → IsStrictlySortedBy key_cmp (store_keys m)
  unfolding IsStrictlySortedBy
  sessions_rise [] p q = tt
  sessions_rise (e ∷ m) p q = rise-append (session_keys _ _) _
      (session_rises _ _ q.0.ordered) (sessions_rise m p.1 q.1) (all_before _ _ m p.0)

  pub keys_rise : (m : Sessions n) → OrderedStore m
      → IsStrictlySortedBy key_cmp (keys_of (keyed_objects (λ os. os) m))
  keys_rise m p = rw (keys-are m) (sessions_rise m p.ordered p.each)

  in_store : (m : Sessions n) (k : Key) → IsOrdered session_cmp m → EachValue OrderedSession m →
      Contains (store_keys m) k → (os : Objects n) × (x : Object n) ×
      (value_at session_cmp m k.session ≡ Some os) × (value_at object_cmp os k.object ≡ Some x)
  in_store [] k p q c = absurd (none_in k c)
  in_store (e ∷ m) k p q c = elim (Contains-append_cases _ _ k c) [
    | inl h ↦ let r = in_session _ _ k q.0.ordered h in (
      e.1,
      r.1.0,
      subst
          (λ z. value_at session_cmp (e ∷ m) z ≡ Some e.1) (sym r.0)
          (first_value session_total session_tells e m),
      r.1.1,
    )
    | inr h ↦ let r = in_store m k (sorted_tail _ _ _ p) q.1 h in
        (r.0, r.1, later_value session_total session_tells e m _ _ p r.2, r.3)
  ]

  store_has : (m : Sessions n) (s : Session) (o : ObjectName)
      (os : Objects n) (x : Object n) → value_at session_cmp m s ≡ Some os →
      value_at object_cmp os o ≡ Some x → Contains (store_keys m) (key_in s o)
  store_has [] s o os x f h = absurd (none-some _ f)
  store_has (e ∷ m) s o os x f h = elim (cases_Bool _) [
    | inl t ↦ let same = session_place s e.0 ((Equal-is (session_cmp s e.0)).0 t) in
        Contains-append_left (session_keys _ e.1) (store_keys m) _
        (rw (same_Some _ os (rw t at f), ← same) (session_has s os o x h))
    | inr t ↦ Contains-append_right (session_keys _ e.1) _ _
        (store_has m s o _ x (rw t at f) h)
  ]

  -- they are those of the objects of which something is held
  pub keys_held : (s o : ℕ) (m : Sessions n) → IsStore s o m → (key : Key) → Contains
      (keys_of (keyed_objects (λ os. os) m)) key ↔ HoldsObject (content m) key
  keys_held s o m p key =
      let ordered = ordered-store s o m p in
      rw (keys-are m) (
        (λ c. let r = in_store m key ordered.ordered ordered.each c in object_stands
            (solid-store s o m p) key.session r.2 key.object r.3),
        (λ h. let r = object_held p key h in store_has m key.session key.object r.0 r.1 r.2 r.3),
      )
