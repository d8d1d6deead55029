-- The content of the join of two stores is the join of their contents (specs/ObjectJoin).
use Rattle.flute_store.proofs.Maps.{Entry, Objects, Sessions}
use Rattle.std.proofs.Common.{rules}
use Rattle.flute_store.proofs.FactEntries.{Apart, Elsewhere, elsewhere-none, each-append}
use Rattle.flute_store.proofs.FactEntries.{each-flat_map, at-cell_join, session_keys}
use Rattle.flute_store.proofs.FactEntries.{object_keys, symbol_keys, at-map_join}
use Rattle.std.proofs.Common.{◌≡◌, List, [], ◌∷◌, ◌++◌, None, refl, sym, ap, ℕ}
use Rattle.std.specs.Prelude.{bytes_eq}
use Rattle.flute_store.proofs.Common
use Common.{Address, Fact, fact_at, joined, fact_at-append, cell_join, IsOrdered}
use Common.{EachValue, ordered-map_join, Cell, session_total, object_total, symbol_id_total}
use Common.{Session, ObjectName, Key, SymbolId, Part, InfoPart, SymbolPart}
use Common.{Information, session_cmp, object_cmp, symbol_id_cmp, info_address}
use Common.{symbol_address, Same, Below, same_information, key_itself, symbol_id_itself}
use Common.{Below-trans, Below-from_Same, Same-sym, IsBelow, EachValue-map_join, Object}
use Common.{object_join, symbols_join, session_join, store_join, key_in, info_cell_facts}
use Common.{symbol_cell_facts, symbols_facts, object_facts, session_facts, content}
use Common.{IsSession, IsStore, IsStrictlySortedBy, Update}
use Common.{update_object, update_facts}

-- ---- the addresses of the facts of a cell

elsewhere-info : (a : Address) (key : Key) → (info_address key ≡ a → ⊥) → (c : Cell Information)
    → Elsewhere a (info_cell_facts key c)
elsewhere-info = search rules

elsewhere-symbol : (a : Address) (key : Key) (id : SymbolId) → (symbol_address key id ≡ a → ⊥)
    → (c : Cell (List ℕ)) → Elsewhere a (symbol_cell_facts key id c)
elsewhere-symbol = search rules

info-join : (key : Key) (c d : Cell Information)
    → fact_at (info_cell_facts key (cell_join same_information c d)) (info_address key)
    ≡ joined (info_address key) (fact_at (info_cell_facts key c) (info_address key))
    (fact_at (info_cell_facts key d) (info_address key))
info-join key = at-cell_join _ _ _ (λ v. refl) refl (λ v w. rw (key_itself key))

symbol-join : (key : Key) (id : SymbolId) (c d : Cell (List ℕ))
    → fact_at (symbol_cell_facts key id (cell_join bytes_eq c d)) (symbol_address key id)
    ≡ joined (symbol_address key id) (fact_at (symbol_cell_facts key id c) (symbol_address key id))
    (fact_at (symbol_cell_facts key id d) (symbol_address key id))
symbol-join key id = at-cell_join _ _ _ (λ v. refl) refl
    (λ v w. rw (key_itself key, symbol_id_itself _))

-- ---- the symbols of an object

not_info : (key l : Key) (id : SymbolId) → symbol_address key id ≡ info_address l → ⊥
not_info = search rules

pub not_symbol : (key l : Key) (id : SymbolId) → info_address key ≡ symbol_address l id → ⊥
not_symbol = search rules

pub same_id : (key l : Key) (i j : SymbolId) → symbol_address key i ≡ symbol_address l j → i ≡ j
same_id = search rules

any_cell : (es : List Entry) → EachValue (λ _. Unit {0}) es
any_cell [] = tt
any_cell (e ∷ es) = (tt, any_cell es)

abbrev pub entry_facts : Key → Entry → List Fact
entry_facts key e = symbol_cell_facts key e.0 e.1

pub symbols_apart : (key : Key) (id : SymbolId) (e : Entry) → (id ≡ e.0 → ⊥)
    → Elsewhere (symbol_address key id) (entry_facts key e)
symbols_apart = search rules

symbols-join : (key : Key) (id : SymbolId) (es fs : List Entry)
    → IsOrdered symbol_id_cmp es → IsOrdered symbol_id_cmp fs
    → fact_at (symbols_facts key (symbols_join es fs)) (symbol_address key id)
    ≡ joined (symbol_address key id) (fact_at (symbols_facts key es) (symbol_address key id))
    (fact_at (symbols_facts key fs) (symbol_address key id))
symbols-join key id es fs s t = at-map_join symbol_keys _ _ _ (symbols_apart _ _) _
    (λ v w x y. symbol-join _ _ v w)
    (record { first = s; second = t; first_each = any_cell _; second_each = any_cell _ })

symbols-info : (key : Key) (es : List Entry)
    → fact_at (symbols_facts key es) (info_address key) ≡ None
symbols-info = search (rules, elsewhere-none, each-flat_map, elsewhere-symbol, not_info)

info-symbol : (key : Key) (id : SymbolId) (c : Cell Information)
    → fact_at (info_cell_facts key c) (symbol_address key id) ≡ None
info-symbol = search (rules, elsewhere-none, elsewhere-info)

pub EachValue-weaker : {K X : Type 0} (P Q : X → Type 0) → ((x : X) → P x → Q x)
    → (es : List (K × X)) → EachValue P es → EachValue Q es
EachValue-weaker P Q h [] a = tt
EachValue-weaker P Q h (e ∷ es) a = (h _ a.0, EachValue-weaker P Q h es a.1)

module _ {n : ℕ} where
  -- the keys ascend at each level
  abbrev pub OrderedObject : Object n → Type 0
  OrderedObject x = IsOrdered symbol_id_cmp x.symbols

  pub record OrderedSession (objects : Objects n) : Type 0 where
    pub ordered : IsOrdered object_cmp objects
    pub each : EachValue OrderedObject objects

  pub record OrderedStore (m : Sessions n) : Type 0 where
    pub ordered : IsOrdered session_cmp m
    pub each : EachValue OrderedSession m

  pub ordered-session : (o : ℕ) (objects : Objects n) → IsSession o objects → OrderedSession objects
  ordered-session = search (rules, EachValue-weaker)

  pub ordered-store : (s o : ℕ) (m : Sessions n) → IsStore s o m → OrderedStore m
  ordered-store = search (rules, EachValue-weaker, ordered-session)

  object_ordered : (v w : Object n) → OrderedObject v → OrderedObject w
      → OrderedObject (object_join v w)
  object_ordered v w p q = ordered-map_join symbol_id_total _ _ _ p q

  session_ordered : (v w : Objects n) → OrderedSession v → OrderedSession w
      → OrderedSession (session_join v w)
  session_ordered v w p q = record {
    ordered = ordered-map_join object_total _ v w p.ordered q.ordered;
    each = EachValue-map_join _ _ _ object_ordered v w p.each q.each;
  }

  pub store_ordered : (v w : Sessions n) → OrderedStore v
      → OrderedStore w → OrderedStore (store_join v w)
  store_ordered v w p q = record {
    ordered = ordered-map_join session_total _ v w p.ordered q.ordered;
    each = EachValue-map_join _ _ _ session_ordered v w p.each q.each;
  }

  abbrev pub in_session : Session → ObjectName × Object n → List Fact
  in_session session e = object_facts (key_in session e.0) e.1

  abbrev pub in_store : Session × Objects n → List Fact
  in_store e = session_facts e.0 e.1

module _ {n : ℕ} where
  -- ---- an object
  pub object-info : (key : Key) (x : Object n) → fact_at (object_facts key x) (info_address key) ≡
      fact_at (info_cell_facts key x.info) (info_address key)
  object-info = search (rules, fact_at-append, symbols-info)

  pub object-symbol : (key : Key) (id : SymbolId) (x : Object n) → fact_at (object_facts key x)
      (symbol_address key id) ≡ fact_at (symbols_facts key x.symbols) (symbol_address key id)
  object-symbol = search (rules, fact_at-append, info-symbol)

  object-join : (key : Key) (part : Part) (v w : Object n) → OrderedObject v → OrderedObject w →
      fact_at (object_facts key (object_join v w)) (record { key = key; part = part }) ≡ joined
      (record { key = key; part = part })
      (fact_at (object_facts key v) (record { key = key; part = part }))
      (fact_at (object_facts key w) (record { key = key; part = part }))
  object-join key InfoPart v w p q = search (rules, object-info, info-join)
  object-join key (SymbolPart id) v w p q = search (rules, object-symbol, symbols-join)

  pub elsewhere-object : (a : Address) (key : Key) → (key ≡ a.key → ⊥) → (x : Object n)
      → Elsewhere a (object_facts key x)
  elsewhere-object a key h x = each-append (Apart a) _ _
      (elsewhere-info a _ (λ p. h (ap (λ b. b.key) p)) _)
      (each-flat_map _ (entry_facts _) (λ e. elsewhere-symbol a _ e.0 (search rules) _) x.symbols)

  -- ---- a session
  pub objects_apart : (a : Address) (e : ObjectName × Object n) → (a.key.object ≡ e.0 → ⊥)
      → Elsewhere a (in_session a.key.session e)
  objects_apart a e h = elsewhere-object a (key_in _ _) (search rules) e.1

  session-join : (a : Address) (v w : Objects n) → OrderedSession v →
      OrderedSession w → fact_at (session_facts a.key.session (session_join v w)) a ≡ joined a
      (fact_at (session_facts a.key.session v) a) (fact_at (session_facts a.key.session w) a)
  session-join a v w p q = at-map_join object_keys _ a a.key.object (objects_apart a) _
      (object-join _ _) (search rules)

  elsewhere-session : (a : Address) (session : Session) → (session ≡ a.key.session → ⊥)
      → (objects : Objects n) → Elsewhere a (session_facts session objects)
  elsewhere-session a session h objects = each-flat_map (Apart a) (in_session _)
      (λ e. elsewhere-object a (key_in session e.0) (search rules) e.1) objects

  -- ---- a store
  pub sessions_apart : (a : Address) (e : Session × Objects n)
      → (a.key.session ≡ e.0 → ⊥) → Elsewhere a (in_store e)
  sessions_apart a e h = elsewhere-session a e.0 (λ p. h (sym p)) e.1

  store-join : (v w : Sessions n) → OrderedStore v → OrderedStore w → (a : Address) → fact_at
      (content (store_join v w)) a ≡ joined a (fact_at (content v) a) (fact_at (content w) a)
  store-join v w p q a = at-map_join session_keys _ a a.key.session (sessions_apart a) _
      (session-join a) (search rules)

  -- the content of a join has the values of both contents together
  pub content-join : (v w : Sessions n) → OrderedStore v
      → OrderedStore w → Same (content (store_join v w)) (content v ++ content w)
  content-join = search (rules, store-join, fact_at-append)

  -- the content of a lower store is below
  pub content-below : (v w : Sessions n) → OrderedStore v
      → OrderedStore w → IsBelow store_join v w → Below (content v) (content w)
  content-below = search (rules, content, Same-sym, content-join)

  pub content-below_join : (u v w : Sessions n) → OrderedStore u → OrderedStore v → OrderedStore w →
      IsBelow store_join u (store_join v w) → Below (content u) (content v ++ content w)
  content-below_join u v w o p q b = Below-trans _ (content (store_join v w))
      _ (content-below u _ o (store_ordered v w p q) b)
      (Below-from_Same (content (store_join v w)) _ (content-join v w p q))

-- ---- the store of one object

abbrev pub one_object : (n : ℕ) → Key → Update → Sessions n
one_object n key update = (key.session, (key.object, update_object update) ∷ []) ∷ []

pub one-ordered : (n : ℕ) (key : Key) (update : Update) → OrderedStore (one_object n key update)
unfolding IsStrictlySortedBy
one-ordered = search rules

pub one-content : (n : ℕ) (key : Key) (update : Update)
    → content (one_object n key update) ≡ update_facts key update
one-content = search rules
