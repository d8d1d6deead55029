-- If a join may ask for memory, the other store has a fact at a new address (specs/Memory).
use Rattle.std.proofs.Common.{rules}
use Rattle.flute_store.proofs.Maps.{Objects, Sessions}
use Rattle.flute_store.proofs.Exceeding.{SolidSession, SolidStore, SolidObject, ordered_store}
use Rattle.flute_store.proofs.Exceeding.{symbol_stands, object_stands, first_object, info_stands}
use Rattle.std.proofs.Common.{◌≡◌, ◌≢◌, ℕ, List, Option, Some, None, refl, sym, ap, ◌∙◌, inl, inr}
use Rattle.std.proofs.Common.{arith}
use Rattle.flute_store.{specs.Memory.{HasNew}}
use Rattle.flute_store.proofs.Counting.{at-info, at-symbol, a_fact, at-unheard, at-found}
use Rattle.flute_store.proofs.Common
use Common.{IsKnown, value_at, Cell, Session, ObjectName, SymbolId, session_cmp, object_cmp}
use Common.{symbol_id_cmp, info_address, symbol_address, fact_at, each-value_at, Object, key_in}
use Common.{info_cell_facts, symbol_cell_facts, content, IsSome, option_map_or, ForSome}
use Common.{CellNeedsMemory, one_value, MapNeedsMemory, Address, Fact, Contains-from, fact_at-nil}
use Common.{ObjectNeedsMemory}

-- the second list has a fact at an address where the first has none
from_address : (F G : List Fact) (a : Address) → fact_at G a ≢ None → fact_at F a ≡ None
    → HasNew F G
from_address F G a h e = search (rules, a_fact, Contains-from)

has_value : {T : Type 0} (c : Cell T) → IsSome (one_value c) → IsKnown c
has_value = grind arith

module _ {n : ℕ} {m w : Sessions n} (p : SolidStore m)
    (q : SolidStore w) where
  module _ (s : Session) {os ws : Objects n}
      (f : value_at session_cmp m s ≡ Some os) (g : value_at session_cmp w s ≡ Some ws) where
    module _ (o : ObjectName) {x y : Object n} (h : value_at object_cmp os o ≡ Some x)
        (k : value_at object_cmp ws o ≡ Some y) where
      -- new information, a new symbol, object or session: the other store has a fact there
      new_info : CellNeedsMemory x.info y.info → HasNew (content m) (content w)
      new_info (e, v) =
          let key = key_in s o in
          from_address _ _ (info_address _) (λ z. info_stands key y.info
          (has_value _ v) (sym (at-info (ordered_store q) _ g k) ∙ z)) (at-info
          (ordered_store p) _ f h ∙ ap (λ c. fact_at (info_cell_facts key c) (info_address key)) e
          ∙ fact_at-nil (info_address _))

      new_symbol : (id : SymbolId) (d : Cell (List ℕ)) → value_at symbol_id_cmp y.symbols id ≡ Some
          d → (found : Option (Cell (List ℕ))) → value_at symbol_id_cmp x.symbols id ≡ found →
          ForSome found (λ c. CellNeedsMemory c d) → HasNew (content m) (content w)
      new_symbol id d b found a needs =
          let known = each-value_at object_cmp SolidObject ws o y
          (each-value_at session_cmp SolidSession w s ws q.each g).each k in from_address _ _
          (symbol_address _ _) (symbol_stands q s g o k _ b
          (each-value_at symbol_id_cmp IsKnown y.symbols id d known.each b))
          (at-symbol (ordered_store p) _ f h _ _ a ∙ nothing _ needs)
        where
          nothing : (found : Option (Cell (List ℕ))) → ForSome found (λ c. CellNeedsMemory c d)
              → option_map_or (λ c. fact_at (symbol_cell_facts (key_in s o) id c)
              (symbol_address (key_in s o) id)) found None ≡ None
          nothing None needs = refl
          nothing (Some c) needs = ap
              (λ c. fact_at (symbol_cell_facts (key_in s o) id c) (symbol_address (key_in s o) id))
              (needs c refl).0 ∙ fact_at-nil (symbol_address (key_in s o) id)

      new_in_object : ObjectNeedsMemory x y → HasNew (content m) (content w)
      new_in_object (inl needs) = new_info needs
      new_in_object (inr (id, d, b, needs)) = new_symbol _ d b _ refl needs

    new_object : (o : ObjectName) {y : Object n} → value_at object_cmp ws o ≡ Some y →
        (found : Option (Object n)) → value_at object_cmp os o ≡ found → ForSome found
        (λ x. ObjectNeedsMemory x y) → HasNew (content m) (content w)
    new_object o k None h needs =
        let stands = object_stands q s g o k in
        from_address _ _ (search rules) stands.1 (at-found (ordered_store p) _ f _ _ h)
    new_object o k (Some x) h needs = new_in_object o h k (needs x refl)

  new_session : (s : Session) {ws : Objects n} → value_at session_cmp w s ≡ Some ws →
      (found : Option (Objects n)) → value_at session_cmp m s ≡ found → ForSome found
      (λ os. MapNeedsMemory object_cmp ObjectNeedsMemory os ws) → HasNew (content m) (content w)
  new_session s {ws} g None f needs =
      let stands = first_object q s g ws refl
      (each-value_at session_cmp SolidSession w s ws q.each g).some in from_address _ _ _ stands.3
      (at-unheard (ordered_store p) _ (ap (value_at session_cmp m) stands.2 ∙ f))
  new_session s g (Some os) f needs =
      let inner = needs os refl in
      new_object s f g inner.0 inner.2 _ refl inner.3

  -- joining the second store asks for memory only if it holds something new
  pub needs-new : MapNeedsMemory session_cmp (MapNeedsMemory object_cmp ObjectNeedsMemory) m w
      → HasNew (content m) (content w)
  needs-new (s, ws, g, needs) = new_session s g _ refl needs
