-- Whether an address has a value in a store's content, and what the content says of an object.
use Rattle.std.proofs.Common.{rules}
use Rattle.flute_store.proofs.Maps.{Objects, Sessions}
use Rattle.std.proofs.Common.{◌≡◌, ◌≢◌, ℕ, List, [], ◌∷◌, ◌++◌, Bool, true, false, Option, Some}
use Rattle.std.proofs.Common.{None, refl, ap, ◌∙◌, sym, arith}
use Rattle.flute_store.proofs.FactEntries.{at-one_here}
use Rattle.flute_store.proofs.StoreJoin.{ordered-store, OrderedStore}
use Rattle.flute_store.proofs.Counting.{some-value, at-unheard, at-found, at-info, at-symbol}
use Rattle.flute_store.proofs.Counting.{symbols-held}
use Rattle.flute_store.proofs.Exceeding.{solid-store, object_stands, symbols_named}
use Rattle.flute_store.proofs.Common
use Common.{is_some, option_map_or, IsKnown, value_at, EachValue, each-value_at, Cell, Absent, One}
use Common.{Conflict, Information, Key, SymbolId, SymbolPart, Address, Fact}
use Common.{Info, InfoConflict, Symbol, SymbolConflict, session_cmp, object_cmp, symbol_id_cmp}
use Common.{info_address, symbol_address, fact_at, fact_at-nil, Object, info_cell_facts}
use Common.{symbol_cell_facts, symbols_facts, content, IsObject, IsSession, IsStore, update_symbols}
use Common.{update_facts, IsHeldSession, HoldsObject, HasCell, AllByRecursion, SymbolUpdate}
use Common.{BytesUpdate, ConflictUpdate, MatchOption, Bor, option_copied, IsUnheard}
use Common.{cell_fact, symbol_fact, IsTold}

-- a cell that holds a value or a conflict
abbrev pub is_known : {T : Type 0} → Cell T → Bool
is_known Absent = false
is_known _ = true

info-held : (key : Key) (c : Cell Information)
    → is_some (fact_at (info_cell_facts key c) (info_address key)) ≡ is_known c
info-held key Absent = rw (fact_at-nil (info_address _))
info-held key (One i) = rw (at-one_here (Info _ i))
info-held key Conflict = rw (at-one_here (InfoConflict _))

symbol-held : (key : Key) (id : SymbolId) (c : Cell (List ℕ))
    → is_some (fact_at (symbol_cell_facts key id c) (symbol_address key id)) ≡ is_known c
symbol-held key id Absent = rw (fact_at-nil (symbol_address _ _))
symbol-held key id (One b) = rw (at-one_here (Symbol _ _ b))
symbol-held key id Conflict = rw (at-one_here (SymbolConflict _ _))

pub known-is : {T : Type 0} (c : Cell T) → IsKnown c → is_known c ≡ true
known-is = grind arith

module _ {n s o : ℕ} {m : Sessions n} (p : IsStore s o m) where
  in_order : OrderedStore m
  in_order = ordered-store s o m p

  pub no_session : (a : Address) → value_at session_cmp m a.key.session ≡ None
      → is_some (fact_at (content m) a) ≡ false
  no_session a f = rw (at-unheard in_order a f)

  of_symbol : (key : Key) (id : SymbolId) (x : Object n) (found : Option (Cell (List ℕ)))
      → EachValue IsKnown x.symbols → value_at symbol_id_cmp x.symbols id ≡ found
      → is_some (option_map_or (λ c. fact_at (symbol_cell_facts key id c) (symbol_address key id))
      found None) ≡ is_some found
  of_symbol key id x None a f = refl
  of_symbol key id x (Some c) a f =
      symbol-held _ _ c ∙ known-is c (each-value_at symbol_id_cmp _ _ _ c a f)

  module _ {os : Objects n} where
    pub no_object : (a : Address) → value_at session_cmp m a.key.session ≡ Some os
        → value_at object_cmp os a.key.object ≡ None → is_some (fact_at (content m) a) ≡ false
    no_object a f h = rw (at-found in_order _ f a.part _ h)

    pub of_info : (key : Key) {x : Object n} → value_at session_cmp m key.session ≡ Some os
        → value_at object_cmp os key.object ≡ Some x
        → is_some (fact_at (content m) (info_address key)) ≡ is_known x.info
    of_info key {x} f h = rw (at-info in_order _ f h, info-held _ x.info)

    pub of_symbols : (key : Key) (id : SymbolId) {x : Object n}
        → value_at session_cmp m key.session ≡ Some os → value_at object_cmp os key.object ≡ Some x
        → is_some (fact_at (content m) (symbol_address key id))
        ≡ is_some (value_at symbol_id_cmp x.symbols id)
    of_symbols key id {x} f h =
        let sound = each-value_at object_cmp IsObject os key.object x
        (each-value_at session_cmp (IsSession o) m key.session os p.each f).each h in ap is_some
        (at-symbol in_order key f h id (value_at symbol_id_cmp x.symbols id) refl) ∙ of_symbol key
        _ x _ sound.symbols_are.each refl

  -- if an address has a value, its session and its object are held
  pub object_held : (key : Key) → HoldsObject (content m) key → (os : Objects n) × (x : Object n) ×
      (value_at session_cmp m key.session ≡ Some os) × (value_at object_cmp os key.object ≡ Some x)
  object_held key (part, h) =
      let session = some-value _ (search (rules, at-unheard, in_order)) in
      let object = some-value _ (λ z. h (at-found in_order _ session.1 part _ z)) in
      (session.0, object.0, session.1, object.1)

  held_symbol : (key : Key) (id : SymbolId) (told : SymbolUpdate)
      → fact_at (content m) (symbol_address key id) ≢ None → (info : Cell Information)
      → IsHeldSession m key (record { info = info; symbol = Some (id, told) })
  held_symbol key id told h info =
      let r = object_held key (SymbolPart id, h) in
      let found = some-value (value_at symbol_id_cmp r.1.symbols id)
      (λ z. h (at-symbol in_order key r.2 r.3 id None z)) in
      (r.0, r.2, (r.1, r.3, ap is_some found.1))

  held_info : (key : Key) → HoldsObject (content m) key → (info : Cell Information)
      → IsHeldSession m key (record { info = info; symbol = None })
  held_info key h info = let r = object_held _ h in (r.0, r.2, (r.1, r.3, tt))

  of_told : (key : Key) (id : SymbolId) (told : SymbolUpdate) (F : List Fact) → AllByRecursion
      (HasCell (content m)) (F ++ symbols_facts key (update_symbols (Some (id, told)))) → fact_at
      (content m) (symbol_address key id) ≢ None
  of_told key id (BytesUpdate bytes) [] h = h.0
  of_told key id ConflictUpdate [] h = h.0
  of_told key id told (f ∷ F) h = of_told _ _ told F h.1

  -- if each fact of an update has a cell, its session, its object and its symbol are held
  pub news_held : (key : Key) (info : Cell Information) (symbol : Option (SymbolId × SymbolUpdate))
      → (info ≡ Absent → symbol ≢ None) → AllByRecursion (HasCell (content m))
      (update_facts key (record { info = info; symbol = symbol })) → IsHeldSession m key
      (record { info = info; symbol = symbol })
  news_held key info (Some (id, told)) some h = held_symbol _ _ told (of_told _ _ _ _ h) info
  news_held key Absent None some h = absurd (some refl refl)
  news_held key (One i) None some h = held_info _ h.0 (One i)
  news_held key Conflict None some h = held_info _ h.0 Conflict

-- ---- what the content of a store says of an object

info-cell : (key : Key) (c : Cell Information)
    → fact_at (info_cell_facts key c) (info_address key) ≡ cell_fact (Info key) (InfoConflict key) c
info-cell key Absent = fact_at-nil _
info-cell key (One i) = at-one_here _
info-cell key Conflict = at-one_here _

symbol-cell : (key : Key) (id : SymbolId) (found : Option (Cell (List ℕ)))
    → option_map_or (λ c. fact_at (symbol_cell_facts key id c) (symbol_address key id)) found None
    ≡ symbol_fact key id found
symbol-cell key id None = refl
symbol-cell key id (Some Absent) = fact_at-nil _
symbol-cell key id (Some (One b)) = at-one_here _
symbol-cell key id (Some Conflict) = at-one_here _

pub known-fact : (key : Key) (id : SymbolId) (c : Cell (List ℕ)) → IsKnown c
    → symbol_fact key id (Some c) ≢ None
known-fact = grind arith

module _ {n s o : ℕ} {m : Sessions n} (p : IsStore s o m)
    (key : Key) where
  pub unheard-session : value_at session_cmp m key.session ≡ None → IsUnheard (content m) key
  unheard-session f part = search (rules, at-unheard, ordered-store)

  module _ {os : Objects n}
      (f : value_at session_cmp m key.session ≡ Some os) where
    pub unheard-object : value_at object_cmp os key.object ≡ None → IsUnheard (content m) key
    unheard-object h part = at-found (ordered-store s o m p) _ f _ None h

    pub told-object : {x : Object n} → value_at object_cmp os key.object ≡ Some x
        → IsTold (content m) key x
    told-object {x} h =
        let q = ordered-store s o m p in
        let solid = solid-store s o m p in
        record {
          heard = object_stands solid key.session f key.object h;
          info = at-info q key f h ∙ info-cell key x.info;
          each = λ id. at-symbol q key f h id (value_at symbol_id_cmp x.symbols id) refl ∙
              symbol-cell key id (value_at symbol_id_cmp x.symbols id);
          count = omega
              (arith, symbols-held q key f h, symbols_named solid key.session f key.object h);
          object = each-value_at object_cmp IsObject os key.object x
              (each-value_at session_cmp (IsSession o) m key.session os p.each f).each h;
        }

    -- what a look-up finds
    pub found-object : (r : Option (Bor (Object n))) → option_copied r ≡ value_at object_cmp os
        key.object → MatchOption r (IsUnheard (content m) key) (λ x. IsTold (content m) key x.now)
    found-object None e = unheard-object (sym e)
    found-object (Some x) e = told-object (sym e)
