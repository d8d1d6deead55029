-- Facts with the same values make the same object; it is whole if it has no gap (specs/Objects).
use Rattle.std.proofs.Common.{rules}
use Rattle.std.proofs.Common.{◌≡◌, ℕ, zero, suc, get_or, ◌<◌, List, [], ◌∷◌, length}
use Rattle.std.proofs.Common.{Option, Some, None, refl, sym, ap, ◌∙◌, arith}
use Rattle.flute_parts.proofs.Public.{fact_at-address}
use Rattle.flute_store.proofs.Runs.{runs-listed}
use Rattle.flute_store.proofs.Common
use Common.{flat_map, filter_map, option_map, Contains, cons_option, Key, SymbolId, Address, Reason}
use Common.{Info, Symbol, Fact, Information, info_address, symbol_address, fact_at, Same}
use Common.{ids, IsHeld, Whole, object, want, wants, runs, gaps}

pub Whole-same : (F G : List Fact) (key : Key) (info : Information) → Same F G → Whole F key info
    → Whole G key info
Whole-same F G key info h w = record {
  information = search rules;
  each = λ id m. let held = w.each _ m in record {
    bytes = held.bytes;
    value = sym (h.each _) ∙ held.value;
    fitting = held.fitting;
  };
}

pub object-same : (F G : List Fact) (key : Key) (info : Information) → Same F G
    → object F key info ≡ object G key info
unfolding object
object-same = search rules

wants-same : (F G : List Fact) (key : Key) (info : Information) → Same F G
    → wants F key info ≡ wants G key info
unfolding wants
wants-same = search rules

pub gaps-same : (F G : List Fact) (key : Key) (info : Information) → Same F G
    → gaps F key info ≡ gaps G key info
gaps-same F G key info h = rw (wants-same F G key _ h)

-- an object is whole where it has no gap

filter_map-none : (f : SymbolId → Option (SymbolId × Reason)) (xs : List SymbolId)
    → ((x : SymbolId) → Contains xs x → f x ≡ None) → filter_map f xs ≡ []
filter_map-none f [] h = refl
filter_map-none f (x ∷ xs) h = rw (
  h x (0, omega arith, refl),
  filter_map-none f xs
      (λ y c. h y (suc c.0, omega (arith, c.1), c.2)),
)

none-filter_map_head : (o : Option (SymbolId × Reason)) (ys : List (SymbolId × Reason))
    → cons_option o ys ≡ [] → (o ≡ None) × (ys ≡ [])
none-filter_map_head = grind arith

none-filter_map : (f : SymbolId → Option (SymbolId × Reason)) (xs : List SymbolId)
    → filter_map f xs ≡ [] → (k : ℕ) (x : SymbolId) → k < length xs → get_or xs k x ≡ x → f x ≡ None
none-filter_map f [] e k x l g = absurd (omega arith)
none-filter_map f (y ∷ ys) e zero x l g = ap f (sym g) ∙ (none-filter_map_head _ _ e).0
none-filter_map f (y ∷ ys) e (suc k) x l g =
    none-filter_map f ys (none-filter_map_head _ _ e).1 k x (omega arith) g

-- a symbol that is not wanted is held
map_none : (f : Reason → SymbolId × Reason) (o : Option Reason) → option_map f o ≡ None → o ≡ None
map_none = grind arith

held-from : (F : List Fact) (key : Key) (info : Information) (id : SymbolId) (o : Option Fact)
    → fact_at F (symbol_address key id) ≡ o → want info id o ≡ None → IsHeld F key info id
held-from F key info id (Some (Symbol k i b)) e w =
    let p = fact_at-address F _ _ e in
    let q = ap (λ (a : Address). a.key) p in
    let r : i ≡ id =
    let s = ap (λ a. a.part) p in
    cc in record { bytes = b; value = search rules; fitting = grind arith }
held-from F key info id o e w = cc

want-held : (F : List Fact) (key : Key) (info : Information) (id : SymbolId) → IsHeld F key info id
    → want info id (fact_at F (symbol_address key id)) ≡ None
want-held = search rules

-- no gaps: whole; and the other way round
pub gapless-whole : (F : List Fact) (key : Key) (info : Information)
    → fact_at F (info_address key) ≡ Some (Info key info) → gaps F key info ≡ [] → Whole F key info
unfolding wants
gapless-whole F key info e g = record {
  information = e;
  each = λ id c. held-from F _ _ _ _ refl (map_none (λ reason. (id, reason)) _ (none-filter_map
      (λ id. option_map (λ reason. (id, reason)) _) (ids _)
      (sym (runs-listed _) ∙ ap (flat_map _) g) c.0 _ c.1 c.2));
}

pub whole-gapless : (F : List Fact) (key : Key) (info : Information) → Whole F key info
    → gaps F key info ≡ []
unfolding wants runs
whole-gapless F key info w = search (rules, filter_map-none, ids, want-held)
