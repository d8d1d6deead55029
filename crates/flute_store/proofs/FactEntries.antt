-- The value of facts at an address, and the facts of the entries of a map.
use Rattle.std.proofs.Common.{rules}
use Rattle.std.proofs.Common.{◌≡◌, List, [], ◌∷◌, ◌++◌, Bool, true, false, cond, Some, None, refl}
use Rattle.std.proofs.Common.{sym, ap, ◌∙◌, inl, inr}
use Rattle.flute_join.proofs.Public.{reading_at}
use Rattle.flute_store.proofs.Common
use Common.{AllByRecursion, flat_map, Ordering, Equal, IsTotalOrder}
use Common.{cases_Bool, Address, Fact, same_address, address, fact_at}
use Common.{same_fact, conflict_at, joined, joined-none, joined_fact}
use Common.{joined-conflict_left, joined-conflict_right, joined-itself, fact_at-append, fact_at-nil}
use Common.{option_map_or, is_at, sorted_tail, cell_join, map_join, value_at, IsOrdered}
use Common.{EachValue, ordered-map_join, Cell, Absent, One, Conflict, absent_past, cell_facts}
use Common.{object_total, session_cmp, object_cmp, symbol_id_cmp}
use Common.{object_place}

-- ---- facts at other addresses

pub at-one_here : (f : Fact) → fact_at (f ∷ []) (address f) ≡ Some f
unfolding fact_at
at-one_here f = search rules

at-one_elsewhere : (f : Fact) (a : Address) → same_address (address f) a ≡ false
    → fact_at (f ∷ []) a ≡ None
unfolding fact_at
at-one_elsewhere = search rules

abbrev pub Apart : Address → Fact → Type 0
Apart a f = address f ≡ a → ⊥

-- no fact of the list is at the address
abbrev pub Elsewhere : Address → List Fact → Type 0
Elsewhere a F = AllByRecursion (Apart a) F

pub not_same : (a b : Address) → (a ≡ b → ⊥) → same_address a b ≡ false
not_same a b n = search rules

pub elsewhere-none : (a : Address) (F : List Fact) → Elsewhere a F → fact_at F a ≡ None
elsewhere-none a [] h = fact_at-nil a
elsewhere-none a (f ∷ F) h = rw
    (fact_at-append (f ∷ []) F a, at-one_elsewhere f a (not_same _ a h.0)) (elsewhere-none a F h.1)

pub each-append : {X : Type 0} (P : X → Type 0) (xs ys : List X) → AllByRecursion P xs
    → AllByRecursion P ys → AllByRecursion P (xs ++ ys)
each-append P [] ys h k = k
each-append P (x ∷ xs) ys h k = (h.0, each-append P xs _ h.1 k)

pub each-flat_map : {E X : Type 0} (P : X → Type 0) (f : E → List X)
    → ((e : E) → AllByRecursion P (f e)) → (es : List E) → AllByRecursion P (flat_map f es)
each-flat_map P f h [] = tt
each-flat_map P f h (e ∷ es) = each-append P (f e) _ (h e) (each-flat_map P f h es)

-- P holds of the address of each fact of a cell
pub cell-stands : {T : Type 0} (P : Address → Type 0) (told : T → Fact) (clash : Fact)
    → ((v : T) → P (address (told v))) → P (address clash) → (c : Cell T)
    → AllByRecursion (λ f. P (address f)) (cell_facts told clash c)
cell-stands = search rules

pub any_value : {K X : Type 0} (es : List (K × X)) → EachValue (λ _. Unit {0}) es
any_value [] = tt
any_value (e ∷ es) = (tt, any_value es)

-- ---- a cell
module _ {T : Type 0} (told : T → Fact) (here : Address) where
  module _ (eq : T → T → Bool) (stands : (v : T) → address (told v) ≡ here)
      (clash : address (conflict_at here) ≡ here)
      (decides : (v w : T) → same_fact (told v) (told w) ≡ eq v w) where
    abbrev facts : Cell T → List Fact
    facts c = cell_facts told (conflict_at here) c

    value : (v : T) → fact_at (told v ∷ []) here ≡ Some (told v)
    value v = rw (← (stands v)) (at-one_here (told v))

    conflict : fact_at (conflict_at here ∷ []) here ≡ Some (conflict_at here)
    conflict = search (rules, at-one_here)

    two_values : (v w : T) (b : Bool) → eq v w ≡ b
        → fact_at (facts (cond b (One v) Conflict)) here ≡ Some (cond b (told v) (conflict_at here))
    two_values v w true e = value v
    two_values v w false e = conflict

    pub at-cell_join : (c d : Cell T) → fact_at (facts (cell_join eq c d)) here ≡ joined here
        (fact_at (facts c) here) (fact_at (facts d) here)
    unfolding joined_fact
    at-cell_join Absent d = search (rules, fact_at-nil)
    at-cell_join (One v) Absent = sym (ap (joined _ _) (fact_at-nil _) ∙ joined-none _ _)
    at-cell_join (One v) (One w) = search (rules, two_values, value)
    at-cell_join (One v) Conflict = search (rules, conflict, value, joined-conflict_right)
    at-cell_join Conflict Absent = sym (ap (joined _ _) (fact_at-nil _) ∙ joined-none _ _)
    at-cell_join Conflict (One w) = search (rules, conflict, value, joined-conflict_left)
    at-cell_join Conflict Conflict = sym (joined-itself _ _)

-- ---- the entries of a map: the value of their facts at an address

-- keys in an order by which equal ones are one
pub record AreKeys {K : Type 0} (cmp : K → K → Ordering) : Type 0 where
  pub order : IsTotalOrder cmp
  pub same : (x y : K) → cmp x y ≡ Equal → x ≡ y

pub session_keys : AreKeys session_cmp
session_keys = search rules

pub object_keys : AreKeys object_cmp
object_keys = record { order = object_total; same = object_place }

pub symbol_keys : AreKeys symbol_id_cmp
symbol_keys = search rules

-- two maps in the order of their keys, of all whose values this holds
pub record AreMaps {K X : Type 0} (cmp : K → K → Ordering) (P : X → Type 0) (es fs : List (K × X))
    : Type 0 where
  pub first : IsOrdered cmp es
  pub second : IsOrdered cmp fs
  pub first_each : EachValue P es
  pub second_each : EachValue P fs

module _ {K X : Type 0} {cmp : K → K → Ordering} (keys : AreKeys cmp) (f : K × X → List Fact)
    (a : Address) (q : K) (apart : (e : K × X) → (q ≡ e.0 → ⊥) → Elsewhere a (f e)) where
  not_at : (e : K × X) → is_at (cmp q) e.0 ≡ false → q ≡ e.0 → ⊥
  not_at = search rules

  pub at-entries : (es : List (K × X)) → IsOrdered cmp es → fact_at (flat_map f es) a ≡
      option_map_or (λ v. fact_at (f (q, v)) a) (value_at cmp es q) None
  at-entries [] s = fact_at-nil a
  at-entries (e ∷ es) s =
      let more = at-entries es (sorted_tail _ _ _ s) in
      let both = fact_at-append (f e) (flat_map f es) a in
      elim (cases_Bool (is_at (cmp q) e.0)) [
        | inl t ↦ search (rules, absent_past, joined-none)
        | inr t ↦ search (rules, elsewhere-none, not_at)
      ]

  module _ (join : X → X → X) {P : X → Type 0}
      (keeps : (v w : X) → P v → P w
      → fact_at (f (q, join v w)) a ≡ joined a (fact_at (f (q, v)) a) (fact_at (f (q, w)) a)) where
    pub at-map_join : {es fs : List (K × X)} → AreMaps cmp P es fs
        → fact_at (flat_map f (map_join cmp join es fs)) a
        ≡ joined a (fact_at (flat_map f es) a) (fact_at (flat_map f fs) a)
    at-map_join {es} {fs} m = at-entries _ (search (rules, ordered-map_join)) ∙
        reading_at keys.order _ P (λ v. fact_at _ a) _ (joined a) (λ c. refl) (joined-none a) keeps
        _ _ q m.first m.second m.first_each m.second_each ∙ sym
        (λ i. joined a (at-entries _ m.first i) (at-entries fs m.second i))
