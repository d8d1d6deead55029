-- A store beyond the limits names more sessions, objects or symbols than they allow (specs/Beyond).
use Rattle.flute_store.proofs.Maps.{Entry, Objects, Sessions}
use Rattle.std.proofs.Common.{rules}
use Rattle.std.proofs.Common.{◌≡◌, ◌≢◌, ℕ, ◌<◌, ◌≤◌, List, [], ◌∷◌, ◌++◌, length, true, false}
use Rattle.std.proofs.Common.{Some, None, refl, sym, ◌∙◌, subst, inl, inr, ◌⊎◌}
use Rattle.std.proofs.Common.{arith}
use Rattle.flute_store.proofs.FactEntries.{AreMaps, at-one_here}
use Rattle.flute_store.proofs.OnePair.{symbols_joined, objects_joined, any-value_at}
use Rattle.flute_store.proofs.OnePair.{some-right}
use Rattle.flute_store.proofs.StoreJoin.{one_object, EachValue-weaker}
use Rattle.flute_store.proofs.StoreJoin.{OrderedSession, OrderedStore, content-join}
use Rattle.flute_store.proofs.Counting.{count-ge, at-info, at-symbol}
use Rattle.flute_store.proofs.Common
use Common.{Ordering, Less, is_eq, IsTotalOrder, keys_of, IsStrictlySortedBy, IsKnown}
use Common.{map_join, join_values, value_at, IsOrdered, EachValue, MapOver, ordered-map_join}
use Common.{EachValue-map_join, Cell, Absent, Session, ObjectName, Key, SymbolId}
use Common.{session_cmp, object_cmp, symbol_id_cmp}
use Common.{info_address, symbol_address, session_total, object_total, symbol_id_total, fact_at}
use Common.{same_information, key_itself, session_itself, Over, more_objects}
use Common.{more_symbols, session_of, object_of, symbol_of, sessions, objects, symbols, Information}
use Common.{Part, InfoPart, cases_Bool}
use Common.{false≢true, Tells, has, Distinct, session_tells, object_tells, symbol_id_tells}
use Common.{AllByRecursion, length-keys_of, sorted_tail, none-some, each-value_at}
use Common.{value_at-map_join, absent_past, Object, Update, object_join, ObjectOver}
use Common.{session_join, store_join, key_in, info_cell_facts, symbol_cell_facts, content}
use Common.{IsUpdate, IsObject, IsSession, IsStore, AnyValue, ObjectBeyond}
use Common.{SessionBeyond, StoreBeyond, Over-below, Below-from_Same}

-- something is known at each level, whatever the limits
module _ {n : ℕ} where
  pub record SolidObject (x : Object n) : Type 0 where
    pub ordered : IsOrdered symbol_id_cmp x.symbols
    pub each : EachValue IsKnown x.symbols
    pub some : x.info ≡ Absent → x.symbols ≢ []

  pub record SolidSession (os : Objects n) : Type 0 where
    pub ordered : IsOrdered object_cmp os
    pub each : EachValue SolidObject os
    pub some : os ≢ []

  pub record SolidStore (m : Sessions n) : Type 0 where
    pub ordered : IsOrdered session_cmp m
    pub each : EachValue SolidSession m

  solid_object : (x : Object n) → IsObject x → SolidObject x
  solid_object = search rules

  solid_session : (o : ℕ) (os : Objects n) → IsSession o os → SolidSession os
  solid_session = search (rules, EachValue-weaker, solid_object)

  pub solid-store : (s o : ℕ) (m : Sessions n) → IsStore s o m → SolidStore m
  solid-store = search (rules, EachValue-weaker, solid_session)

  -- joins of solid objects, sessions and stores are solid
  object-solid : (v w : Object n) → SolidObject v → SolidObject w → SolidObject (object_join v w)
  object-solid = search
      (rules, ordered-map_join, EachValue-map_join, some-right, symbols_joined, same_information)

  session-solid : (v w : Objects n) → SolidSession v → SolidSession w
      → SolidSession (session_join v w)
  session-solid v w p q = record {
    ordered = ordered-map_join object_total _ v w p.ordered q.ordered;
    each = EachValue-map_join _ _ _ object-solid v w p.each q.each;
    some = some-right (objects_joined n) v w q.some;
  }

  pub solid-join : (v w : Sessions n) → SolidStore v → SolidStore w → SolidStore (store_join v w)
  solid-join v w p q = record {
    ordered = ordered-map_join session_total _ v w p.ordered q.ordered;
    each = EachValue-map_join _ _ _ session-solid v w p.each q.each;
  }

pub solid-one : (n : ℕ) (key : Key) (update : Update) → IsUpdate update
    → SolidStore (one_object n key update)
unfolding IsStrictlySortedBy
solid-one = search rules

-- ---- looking up
module _ {K : Type 0} (cmp : K → K → Ordering) (t : Tells (λ a b. is_eq (cmp a b))) where
  not_below : (k : K) (ks : List K) → AllByRecursion (λ y. cmp k y ≡ Less) ks
      → has (λ a b. is_eq (cmp a b)) t k ks ≡ false
  not_below k [] a = refl
  not_below k (y ∷ ks) a = search (rules, not_below k ks a.1)

  -- keys in order are distinct
  pub distinct : (ks : List K) → IsStrictlySortedBy cmp ks → Distinct (λ a b. is_eq (cmp a b)) t ks
  unfolding IsStrictlySortedBy
  distinct [] s = tt
  distinct (k ∷ ks) s = (not_below k _ s.0, distinct ks s.1)

module _ {K X : Type 0} {cmp : K → K → Ordering} (order : IsTotalOrder cmp)
    (t : Tells (λ a b. is_eq (cmp a b))) where
  pub first_value : (e : K × X) (es : List (K × X)) → value_at cmp (e ∷ es) e.0 ≡ Some e.1
  first_value = search rules

  -- a key has a value just if it is among the keys
  pub has-value_at : (es : List (K × X)) (k : K) → has (λ a b. is_eq (cmp a b)) t k (keys_of es) ≡
      true → (v : X) × (value_at cmp es k ≡ Some v)
  has-value_at [] k h = absurd (false≢true h)
  has-value_at (e ∷ es) k h = elim (cases_Bool (is_eq (cmp k e.0))) [
    | inl b ↦ (e.1, rw b)
    | inr b ↦ let f = has-value_at es k (rw b at h) in (f.0, rw b f.1)
  ]

  -- what is looked up past the first entry
  pub later_value : (e : K × X) (es : List (K × X)) (k : K) (v : X) → IsOrdered cmp (e ∷ es)
      → value_at cmp es k ≡ Some v → value_at cmp (e ∷ es) k ≡ Some v
  later_value e es k v s f = grind (arith, absent_past order e es k s)

  -- if some value is such, there is a key with one
  pub any-value : (B : X → Type 0) (es : List (K × X)) → IsOrdered cmp es → AnyValue B es
      → (k : K) × (v : X) × (value_at cmp es k ≡ Some v) × B v
  any-value B [] s a = absurd a
  any-value B (e ∷ es) s (inl b) = (e.0, e.1, first_value e _, b)
  any-value B (e ∷ es) s (inr a) = search
      (rules, sorted_tail, later_value, any-value B es (sorted_tail cmp e.0 (keys_of es) s) a)

-- ---- addresses that have a value
pub info_stands : (key : Key) (c : Cell Information) → IsKnown c
    → fact_at (info_cell_facts key c) (info_address key) ≢ None
info_stands = search (rules, none-some, at-one_here)

cell_stands : (key : Key) (id : SymbolId) (c : Cell (List ℕ)) → IsKnown c
    → fact_at (symbol_cell_facts key id c) (symbol_address key id) ≢ None
cell_stands = search (rules, none-some, at-one_here)

known_or_absent : {T : Type 0} (c : Cell T) → (c ≡ Absent) ⊎ IsKnown c
known_or_absent = grind arith

ordered_session : {n : ℕ} (os : Objects n) → SolidSession os → OrderedSession os
ordered_session = search (rules, EachValue-weaker)

-- The content of a solid store names at least as many as its maps hold.
module _ {n : ℕ} {m : Sessions n} (p : SolidStore m) where
  pub ordered_store : OrderedStore m
  ordered_store = search (rules, EachValue-weaker, ordered_session)

  module _ (s : Session) {os : Objects n}
      (f : value_at session_cmp m s ≡ Some os) where
    q : SolidSession os
    q = each-value_at session_cmp SolidSession m s _ p.each f

    module _ (o : ObjectName) {x : Object n} (h : value_at object_cmp os o ≡ Some x) where
      r : SolidObject x
      r = each-value_at object_cmp SolidObject _ o x q.each h

      pub symbol_stands : (id : SymbolId) {c : Cell (List ℕ)} → value_at symbol_id_cmp x.symbols id
          ≡ Some c → IsKnown c → fact_at (content m) (symbol_address (key_in s o) id) ≢ None
      symbol_stands id {c} g k e =
          cell_stands (key_in s o) id c k (sym (at-symbol ordered_store _ f h _ _ g) ∙ e)

      first_stands : (es : List Entry) → es ≡ x.symbols → es ≢ []
          → (part : Part) × (fact_at (content m) (record { key = key_in s o; part = part }) ≢ None)
      first_stands [] e h = absurd (h refl)
      first_stands (d ∷ es) e h =
          let found = subst (λ l. value_at symbol_id_cmp l d.0 ≡ Some d.1) e
          (first_value symbol_id_total symbol_id_tells d es) in
          (_, symbol_stands d.0 found (each-value_at symbol_id_cmp _ _ d.0 d.1 r.each found))

      pub object_stands : (part : Part) ×
          (fact_at (content m) (record { key = key_in s o; part = part }) ≢ None)
      object_stands = elim (known_or_absent x.info) [
        | inl e ↦ first_stands _ refl (r.some e)
        | inr k ↦ (InfoPart, λ e. info_stands _ _ k (sym (at-info ordered_store _ f h) ∙ e))
      ]

      pub symbols_named : length x.symbols ≤ length (symbols (content m) (key_in s o))
      unfolding symbols
      symbols_named =
          let key = key_in s o in
          let c = count-ge _ symbol_id_tells (symbol_of key) (content m) (keys_of x.symbols)
          (distinct _ symbol_id_tells _ r.ordered) (λ id k. let found = has-value_at symbol_id_total
          symbol_id_tells x.symbols id k in (
            _,
            symbol_stands id found.1
                (each-value_at symbol_id_cmp _ _ id found.0 r.each found.1),
            rw (key_itself key),
          )) in
          omega (arith, c, length-keys_of x.symbols)

    -- a session with an object has an address with a value
    pub first_object : (es : Objects n) → es ≡ os → es ≢ [] → (key : Key) × (part : Part) ×
        (key.session ≡ s) × (fact_at (content m) (record { key = key; part = part }) ≢ None)
    first_object [] e h = absurd (h refl)
    first_object (d ∷ es) e h =
        let stands = object_stands d.0 (subst (λ l. value_at object_cmp l d.0 ≡ Some d.1) e
        (first_value object_total object_tells d es)) in (_, stands.0, refl, stands.1)

    -- there are at least as many object names as held objects
    objects_named : length os ≤ length (objects (content m) s)
    unfolding objects
    objects_named =
        let c = count-ge _ object_tells (object_of s) (content m) (keys_of os)
        (distinct _ object_tells _ q.ordered) (λ k h. let stands = object_stands k
        (has-value_at object_total object_tells os k h).1 in (_, stands.1, rw (session_itself s)))
        in omega (arith, c, length-keys_of os)

  -- and at least as many session names as held sessions
  sessions_named : length m ≤ length (sessions (content m))
  unfolding sessions
  sessions_named =
      let c = count-ge _ session_tells session_of (content m) (keys_of m)
      (distinct _ session_tells _ p.ordered) (λ k h. let found = has-value_at session_total
      session_tells m k h in
      let stands = first_object k found.1 found.0 refl (q k found.1).some in
      (_, stands.3, rw stands.2)) in omega (arith, c, length-keys_of m)

  -- a session beyond the limits of objects or symbols: its facts are over them
  in_object : (s o : ℕ) (session : Session) (os : Objects n)
      → value_at session_cmp m session ≡ Some os → SessionBeyond o os → Over (content m) s o n
  in_object s o session os f (inl l) =
      more_objects session (omega (arith, objects_named session f, l))
  in_object s o session os f (inr a) =
      let found = any-value object_total object_tells ObjectBeyond os (q session f).ordered a in
      more_symbols (key_in session found.0)
      (omega (arith, symbols_named session f found.0 found.2, found.3))

  pub beyond-over_at : (s o : ℕ) → StoreBeyond s o m → Over (content m) s o n
  beyond-over_at s o (inl l) = search (rules, sessions_named)
  beyond-over_at s o (inr a) =
      let found = any-value session_total session_tells (SessionBeyond o) m p.ordered a in
      in_object s o found.0 found.1 found.2 found.3

-- ---- a join that the limits forbid passes them
module _ {K X : Type 0} {cmp : K → K → Ordering} (order : IsTotalOrder cmp) (join : X → X → X)
    (limit : ℕ) (over : X → X → Type 0) {P : X → Type 0} (B : X → Type 0)
    (beyond : (v w : X) → P v → P w → over v w → B (join v w)) where
  pub map_over-beyond : {es fs : List (K × X)} → AreMaps cmp P es fs → MapOver cmp join limit over
      es fs → (limit < length (map_join cmp join es fs)) ⊎ AnyValue B (map_join cmp join es fs)
  map_over-beyond m (inl l) = inl l
  map_over-beyond {es} {fs} m (inr (q, v, w, f, g, o)) =
      inr (any-value_at cmp B _ q _
      (value_at-map_join order _ _ _ q m.first m.second ∙ (λ i. join_values join (f i) (g i)))
      (beyond v w (each-value_at cmp P es q v m.first_each f)
      (each-value_at cmp P _ q w m.second_each g) o))

module _ {n : ℕ} where
  object_over : (v w : Object n) → SolidObject v → SolidObject w → ObjectOver v w
      → ObjectBeyond (object_join v w)
  object_over = search rules

  session_over : (o : ℕ) (v w : Objects n) → SolidSession v → SolidSession w
      → MapOver object_cmp object_join o ObjectOver v w → SessionBeyond o (session_join v w)
  session_over o v w p q h = map_over-beyond object_total _ o _ _ object_over (search rules) h

  pub over-beyond : (s o : ℕ) (v w : Sessions n) → SolidStore v →
      SolidStore w → MapOver session_cmp session_join s
      (MapOver object_cmp object_join o ObjectOver) v w → StoreBeyond s o (store_join v w)
  over-beyond s o v w p q h = map_over-beyond session_total _ s _ _ (session_over o) (search rules)
      h

  -- a join beyond the limits is of facts over them
  pub beyond-joined : (s o : ℕ) (v w : Sessions n) → SolidStore v
      → SolidStore w → StoreBeyond s o (store_join v w) → Over (content v ++ content w) s o n
  beyond-joined s o v w p q b = Over-below (content (store_join v w)) (content v ++ content w) s o n
      (Below-from_Same _ _ (content-join v w (ordered_store p) (ordered_store q)))
      (beyond-over_at (solid-join v w p q) s o b)
