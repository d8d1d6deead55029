-- The symbols that rising facts show of an object (specs/Shown).
use Rattle.flute_store.proofs.Maps.{Entry}
use Rattle.std.proofs.Common.{rules}
use Rattle.std.proofs.Common.{◌≡◌, ℕ, cond, List, [], ◌∷◌, ◌++◌, Some, refl, sym, ap, ◌∙◌}
use Rattle.std.proofs.Common.{inl, inr, append_assoc}
use Rattle.flute_parts.proofs.Public.{fact_at-after}
use Rattle.flute_store.proofs.{FactEntries.{not_same}, StoreJoin.{not_symbol, same_id}}
use Rattle.flute_store.proofs.Lookups.{Above}
use Rattle.flute_store.proofs.Common
use Common.{AllByRecursion, IsStrictlySortedBy, keys_of, Equal, is_eq, Equal-is}
use Common.{cases_Bool, false≢true, IsKnown, value_at, IsOrdered, EachValue, Cell}
use Common.{symbol_address, address, fact_at, IsRising, StandAfter, key_cmp, symbol_id_cmp}
use Common.{same_key, symbol_id_place, Key, SymbolId}
use Common.{Fact, Info, InfoConflict, Symbol, SymbolConflict, fact_at-nil, fact_at-here}
use Common.{fact_at-elsewhere, symbol_id_itself, symbol_fact, shown_by, shown}

pub shown-append : (key : Key) (F G : List Fact) → shown key (F ++ G) ≡ shown key F ++ shown key G
unfolding shown
shown-append key [] G = refl
shown-append key (f ∷ F) G = rw (shown-append key F G, ← append_assoc _ (shown _ F) _)

-- ---- what a fact shows

-- of a symbol of the object it shows one cell, and of another object none
shown-if : (key k : Key) (id : SymbolId) (c : Cell (List ℕ)) (P : List Entry → Type 0)
    → ((k ≡ key → ⊥) → P []) → (k ≡ key → P ((id, c) ∷ []))
    → P (cond (same_key k key) ((id, c) ∷ []) [])
shown-if = search rules

shown-cases : (key : Key) (f : Fact) (P : List Entry → Type 0) →
    (((id : SymbolId) → address f ≡ symbol_address key id → ⊥) → P []) → ((id : SymbolId)
    (c : Cell (List ℕ)) → IsKnown c → address f ≡ symbol_address key id → Some f ≡ symbol_fact key
    id (Some c) → P ((id, c) ∷ [])) → P (shown_by key f)
shown-cases key (Info k i) P n s = n (λ id. not_symbol k _ _)
shown-cases key (InfoConflict k) P n s = n (λ id. not_symbol k _ _)
shown-cases key (Symbol k id b) P n s = shown-if _ k _ _ P (λ d. n (λ j e. d (ap (λ a. a.key) e)))
    (search rules)
shown-cases key (SymbolConflict k id) P n s = shown-if _ k _ _ P
    (λ d. n (λ j e. d (ap (λ a. a.key) e))) (λ e. s id _ (λ z. cc) (search rules) (search rules))

pub shown-none : (key : Key) (F : List Fact) → AllByRecursion (λ f. (address f).key ≡ key → ⊥) F
    → shown key F ≡ []
unfolding shown
shown-none key [] n = refl
shown-none key (f ∷ F) n = ap (λ es. es ++ shown key F) (shown-cases _ f (λ es. es ≡ [])
    (λ _. refl) (search rules)) ∙ shown-none _ F n.1

-- ---- all that is shown is known, and in order

pub shown-known : (key : Key) (F : List Fact) → EachValue IsKnown (shown key F)
unfolding shown
shown-known key [] = tt
shown-known key (f ∷ F) =
    let rest = shown-known _ F in
    shown-cases key f (λ es. EachValue IsKnown (es ++ shown key F)) (λ _. rest)
    (λ id c k e g. (k, rest))

pub equal_keys : (key : Key) → key_cmp key key ≡ Equal
equal_keys = search rules

above-shown : (key : Key) (id : SymbolId) (F : List Fact) → StandAfter (symbol_address key id) F
    → Above id (keys_of (shown key F))
unfolding shown
above-shown key id [] s = tt
above-shown key id (f ∷ F) s =
    let rest = above-shown _ _ F s.1 in
    shown-cases key f (λ es. Above id (keys_of (es ++ shown key F))) (λ _. rest)
    (λ j c k e g. (search (rules, equal_keys), rest))

pub shown-ordered : (key : Key) (F : List Fact) → IsRising F → IsOrdered symbol_id_cmp (shown key F)
unfolding shown IsStrictlySortedBy
shown-ordered key [] r = tt
shown-ordered key (f ∷ F) r =
    let rest = shown-ordered _ F r.1 in
    shown-cases key f (λ es. IsOrdered symbol_id_cmp (es ++ shown key F)) (λ _. rest)
    (λ id c k e g. (search (rules, above-shown), rest))

-- ---- and it is the value at the addresses

pub shown-at : (key : Key) (id : SymbolId) (F : List Fact) → IsRising F → fact_at F
    (symbol_address key id) ≡ symbol_fact key id (value_at symbol_id_cmp (shown key F) id)
unfolding shown
shown-at key id [] r = fact_at-nil _
shown-at key id (f ∷ F) r =
    let a = symbol_address key id in
    let rest = shown-at key id F r.1 in
    shown-cases key f (λ es. fact_at (f ∷ F) a
    ≡ symbol_fact key id (value_at symbol_id_cmp (es ++ shown key F) id))
    (λ n. fact_at-elsewhere f F a (not_same _ a (n _)) ∙ rest)
    (λ j c k e g. elim (cases_Bool (is_eq (symbol_id_cmp id j))) [
      | inl t ↦
          let p = symbol_id_place id j ((Equal-is (symbol_id_cmp id j)).0 t) in
          rw (t, p, ← e, fact_at-here f F (fact_at-after _ F r.0)) g
      | inr t ↦
          rw t (fact_at-elsewhere f F a (not_same _ a (λ q. false≢true (sym t
          ∙ ap (λ x. is_eq (symbol_id_cmp id x)) (same_id key key j id (sym e ∙ q))
          ∙ symbol_id_itself id))) ∙ rest)
    ])
