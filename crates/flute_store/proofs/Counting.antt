-- How many sessions, objects and symbols the content of a store names (specs/Content).
use Rattle.flute_store.proofs.Maps.{Objects, Sessions}
use Rattle.std.proofs.Common.{rules}
use Rattle.std.proofs.Common.{append-nil, ◌≡◌, ◌≢◌, ℕ, ◌≤◌, List, [], ◌∷◌, ◌++◌, length, Bool, true}
use Rattle.std.proofs.Common.{Option, Some, None, refl, sym, ap, ◌∙◌, subst, arith}
use Rattle.flute_store.proofs.FactEntries.{session_keys, object_keys, symbol_keys, at-entries}
use Rattle.flute_store.proofs.StoreJoin.{OrderedObject, OrderedSession, OrderedStore, ordered-store}
use Rattle.flute_store.proofs.StoreJoin.{symbols_apart}
use Rattle.flute_store.proofs.StoreJoin.{objects_apart, sessions_apart, object-symbol, object-info}
use Rattle.flute_parts.proofs.Public.{object_of-some}
use Rattle.flute_store.proofs.Common
use Common.{Ordering, is_eq, option_map_or, keys_of, length-keys_of, none-some, same_Some, Session}
use Common.{Key, SymbolId, Address, Fact, session_cmp, object_cmp, symbol_id_cmp}
use Common.{same_symbol_id, same_session, same_object, symbol_address, address, fact_at, firsts}
use Common.{named, object_of, symbol_of, sessions, objects, symbols, Over}
use Common.{Tells, has, has-firsts, Distinct}
use Common.{Distinct-firsts, length-Distinct, Member, fact_at-member_some, named-member}
use Common.{named-names, session_tells, object_tells, symbol_id_tells, value_at, each-value_at}
use Common.{Object, key_in, symbol_cell_facts, object_facts, session_facts, content, IsObject}
use Common.{IsSession, IsStore, fact_at-some_named, Part, SymbolPart, info_address, Cell}
use Common.{info_cell_facts}

-- ---- what is looked up

pub some-value : {X : Type 0} (o : Option X) → o ≢ None → (v : X) × (o ≡ Some v)
some-value = search rules

pub a_fact : (F : List Fact) (a : Address) → fact_at F a ≢ None
    → (f : Fact) × Member f F × (address f ≡ a)
a_fact = search (rules, fact_at-some_named)

module _ {K X : Type 0} (cmp : K → K → Ordering) (t : Tells (λ a b. is_eq (cmp a b))) where
  abbrev is_key : K → List (K × X) → Bool
  is_key k es = has (λ a b. is_eq (cmp a b)) t k (keys_of es)

  pub value_at-has : (es : List (K × X)) (k : K) (v : X) → value_at cmp es k ≡ Some v
      → is_key k es ≡ true
  value_at-has [] k v f = absurd (none-some v f)
  value_at-has (e ∷ es) k v f = grind (arith, value_at-has es k v)

-- ---- counting

module _ {X : Type 0} (same : X → X → Bool) (t : Tells same) (part : Address → Option X)
    (F : List Fact) where
  pub count-Below : (ks : List X)
      → ((x : X) (a : Address) → fact_at F a ≢ None → part a ≡ Some x → has same t x ks ≡ true)
      → length (firsts same (named part F)) ≤ length ks
  count-Below ks h = length-Distinct _ t _ _ (Distinct-firsts _ t _) (λ x k. let n = named-names _ t
      part F x (sym (has-firsts _ t x _) ∙ k) in h x (address n.0) (fact_at-member_some n.0 F n.1)
      n.2)

  none-named : ((x : X) (a : Address) → part a ≡ Some x → fact_at F a ≡ None)
      → length (firsts same (named part F)) ≤ 0
  none-named h = count-Below [] (λ x a k e. absurd (k (h x a e)))

  -- if each of these distinct names has a value, there are at least as many names
  pub count-ge : (ks : List X) → Distinct same t ks →
      ((x : X) → has same t x ks ≡ true → (a : Address) × (fact_at F a ≢ None) × (part a ≡ Some x))
      → length ks ≤ length (firsts same (named part F))
  count-ge ks d h = length-Distinct _ t _ _ d (λ x k. let n = h x k in
      let f = a_fact F n.0 n.1 in
      has-firsts _ t x _ ∙ named-member _ t part _ F x f.1 (ap part f.2 ∙ n.2))

-- ---- what addresses name

pub named_symbol : (key : Key) (a : Address) (x : SymbolId) → symbol_of key a ≡ Some x
    → a ≡ symbol_address key x
named_symbol key a x e = search rules

module _ {n : ℕ} where
  -- ---- the value at an address
  pub at-content : (m : Sessions n) (a : Address) → OrderedStore
      m → fact_at (content m) a ≡ option_map_or (λ os. fact_at (session_facts a.key.session os) a)
      (value_at session_cmp m a.key.session) None
  at-content m a p = at-entries session_keys _ a _ (sessions_apart a) m p.ordered

  pub at-session : (os : Objects n) (a : Address) → OrderedSession os
      → fact_at (session_facts a.key.session os) a
      ≡ option_map_or (λ x. fact_at (object_facts (key_in a.key.session a.key.object) x) a)
      (value_at object_cmp os a.key.object) None
  at-session os a p = search (rules, at-entries, object_keys, objects_apart)

  pub at-object : (x : Object n) (key : Key) (id : SymbolId) → OrderedObject x
      → fact_at (object_facts key x) (symbol_address key id)
      ≡ option_map_or (λ c. fact_at (symbol_cell_facts key id c) (symbol_address key id))
      (value_at symbol_id_cmp x.symbols id) None
  at-object = search (rules, object-symbol, at-entries, symbol_keys, symbols_apart)

  -- the content has no value at an address of a session that is not held; at an address of a held
  -- object it has the object's value
  module _ {m : Sessions n} (q : OrderedStore m) where
    pub at-unheard : (a : Address) → value_at session_cmp m a.key.session ≡ None
        → fact_at (content m) a ≡ None
    at-unheard = search (rules, at-content)

    module _ (key : Key) {os : Objects n}
        (f : value_at session_cmp m key.session ≡ Some os) where
      pub at-found : (part : Part) (found : Option (Object n)) → value_at object_cmp os key.object ≡
          found → fact_at (content m) (record { key = key; part = part }) ≡ option_map_or
          (λ x. fact_at (object_facts key x) (record { key = key; part = part })) found None
      at-found part found h =
          let a : Address = search rules in
          rw (
            at-content m a q,
            f,
            at-session os a
                (each-value_at session_cmp OrderedSession m key.session os q.each f),
            h,
          )

      module _ {x : Object n} (h : value_at object_cmp os key.object ≡ Some x) where
        pub at-info : fact_at (content m) (info_address key)
            ≡ fact_at (info_cell_facts key x.info) (info_address key)
        at-info = at-found _ _ h ∙ object-info _ x

        pub at-symbol : (id : SymbolId) (found : Option (Cell (List ℕ))) → value_at symbol_id_cmp
            x.symbols id ≡ found → fact_at (content m) (symbol_address key id) ≡ option_map_or
            (λ c. fact_at (symbol_cell_facts key id c) (symbol_address key id)) found None
        at-symbol id found g = at-found _ _ h ∙ at-object x _ _ (each-value_at object_cmp
            OrderedObject os key.object x
            (each-value_at session_cmp OrderedSession m key.session _ q.each f).each h) ∙ ap (λ z.
            option_map_or (λ c. fact_at (symbol_cell_facts key id c) (symbol_address key id)) z
            None)
            g

        -- no more symbols are named than are held
        pub symbols-held : length (symbols (content m) key) ≤ length x.symbols
        unfolding symbols
        symbols-held =
            let c = count-Below same_symbol_id symbol_id_tells (symbol_of _) (content m)
            (keys_of _) (λ id a k e. let found = some-value
            (value_at symbol_id_cmp _ id)
            (λ z. k (ap (fact_at _) (named_symbol _ a _ e) ∙ at-symbol _ _ z)) in
            value_at-has symbol_id_cmp symbol_id_tells x.symbols id found.0 found.1) in omega
            (arith, c, length-keys_of x.symbols)

  -- ---- a store within its limits names no more
  module _ (s o : ℕ) (m : Sessions n) (p : IsStore s o m) where
    q : OrderedStore m
    q = ordered-store s o m p

    few_sessions : length (sessions (content m)) ≤ s
    unfolding sessions
    few_sessions =
        let c =
        count-Below same_session session_tells _ (content m) (keys_of m) (λ x a k e.
        let found = some-value _ (λ z. k (at-unheard q a z)) in
        value_at-has session_cmp session_tells m x _
        (subst (λ q. value_at session_cmp m q ≡ Some found.0) (same_Some a.key.session x e)
        found.1)) in
        omega (arith, length-keys_of m)

    few_objects_of : (session : Session) (found : Option (Objects n))
        → value_at session_cmp m session ≡ found → length (objects (content m) session) ≤ o
    unfolding objects
    few_objects_of session None f = omega (
      arith,
      none-named same_object object_tells
          (object_of session) (content m)
          (λ x a e. at-unheard q a (ap (value_at session_cmp m) (object_of-some session a x e).0 ∙
          f)),
    )
    few_objects_of session (Some os) f =
        let c = count-Below same_object object_tells (object_of session) (content m) (keys_of os) (λ
        x a k e. let r = object_of-some session a x e in
        let found = some-value _
        (λ z. k (at-found q a.key (ap (value_at session_cmp m) r.0 ∙ f) a.part None z)) in
        value_at-has object_cmp object_tells os x found.0
        (subst (λ z. value_at object_cmp os z ≡ Some found.0) r.1 found.1)) in
        let sound = each-value_at session_cmp (IsSession o) m session os p.each f in
        omega (arith, c, length-keys_of os)

    few_in : (key : Key) (os : Objects n) → value_at session_cmp m key.session ≡
        Some os → IsSession o os → (found : Option (Object n)) → value_at object_cmp os key.object ≡
        found → length (symbols (content m) key) ≤ n
    unfolding symbols
    few_in key os f sound None h =
        let c = none-named same_symbol_id symbol_id_tells (symbol_of _) (content m) (λ x a e. ap
        (fact_at (content m)) (named_symbol key a x e) ∙ at-found q key f (SymbolPart x) None h) in
        omega (arith, c)
    few_in key os f sound (Some v) h = omega (
      arith,
      symbols-held q key f h,
      (each-value_at object_cmp IsObject os key.object v sound.each h).symbols_are.within,
    )

    -- no object names more symbols than the limit
    few_symbols_of : (key : Key) (found : Option (Objects n))
        → value_at session_cmp m key.session ≡ found → length (symbols (content m) key) ≤ n
    unfolding symbols
    few_symbols_of key None f =
        let c = none-named same_symbol_id symbol_id_tells _ (content m) (λ x a e. ap
        (fact_at _) (named_symbol key a x e) ∙ at-unheard q (symbol_address _ x) f) in
        omega (arith)
    few_symbols_of key (Some os) f = few_in _ _ f
        (each-value_at session_cmp _ m key.session _ p.each f) _ refl

    pub not_over : Over (content m) s o n → ⊥
    not_over = search (rules, few_sessions, few_objects_of, value_at, few_symbols_of)

    -- nor does it with an empty list appended
    pub not_over_more : (G : List Fact) → G ≡ [] → Over (content m ++ G) s o n → ⊥
    not_over_more G e over = not_over
        (rw (← (ap (λ H. content m ++ H) e ∙ append-nil (content m))) over)
