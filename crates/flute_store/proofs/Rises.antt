-- The facts of a store rise, and how many they are (specs/Content).
use Rattle.flute_store.proofs.Maps.{Objects, Sessions}
use Rattle.std.proofs.Common.{rules}
use Rattle.std.proofs.Common.{ℕ, ◌+◌, ◌*◌, ◌≤◌, List, [], ◌∷◌, length, arith, length-append, ◌≡◌}
use Rattle.std.proofs.Common.{◌++◌, refl}
use Rattle.flute_store.proofs.FactEntries.{any_value, cell-stands, each-append, each-flat_map}
use Rattle.flute_store.proofs.StoreJoin.{OrderedObject, OrderedSession, OrderedStore}
use Rattle.std.proofs.Math.Nat.{mul-le-mul_right}
use Rattle.flute_store.proofs.Shown.{equal_keys}
use Rattle.flute_store.proofs.Common
use Common.{flat_map, EachValue, Cell, Session, Key, Fact, Info}
use Common.{InfoConflict, Symbol, Object, key_in, cell_facts, symbol_cell_facts}
use Common.{object_facts, session_facts, content, IsObject, IsSession, IsStore, Ordering, Less}
use Common.{session_total, SymbolId, Address, session_cmp, object_cmp}
use Common.{symbol_id_cmp, address_cmp, info_address, symbol_address, address, StandAfter}
use Common.{IsRising, tied_itself, keys_of, AllByRecursion, IsStrictlySortedBy, IsOrdered}
use Common.{symbols_facts}

cell_length : {T : Type 0} (told : T → Fact) (clash : Fact) (c : Cell T)
    → length (cell_facts told clash c) ≤ 1
cell_length = grind arith

-- as many as the entries, times the most that one of them has
module _ {K X : Type 0} (f : K × X → List Fact) (P : X → Type 0) (most : ℕ)
    (each : (e : K × X) → P e.1 → length (f e) ≤ most) where
  entries_length : (es : List (K × X)) → EachValue P es → length (flat_map f es) ≤ length es * most
  entries_length [] p = omega arith
  entries_length (e ∷ es) p =
      omega (arith, length-append (f e) (flat_map f es), each e p.0, entries_length es p.1)

  within_limit : (limit : ℕ) (es : List (K × X)) → EachValue P es → length es ≤ limit
      → length (flat_map f es) ≤ limit * most
  within_limit limit es p l = omega (arith, entries_length es p, mul-le-mul_right most l)

module _ {n : ℕ} where
  object_length : (key : Key) (x : Object n) → IsObject x → length (object_facts key x) ≤ n + 1
  object_length key x p =
      let c = within_limit (λ e. symbol_cell_facts key e.0 _) (λ _. Unit {0}) 1
      (λ e _. cell_length (Symbol _ _) _ e.1) n x.symbols (any_value _) p.symbols_are.within in
      omega (arith, length-append {A = Fact}, cell_length (Info key) (InfoConflict key) x.info, c)

  session_length : (o : ℕ) (session : Session) (os : Objects n) → IsSession o os
      → length (session_facts session os) ≤ o * (n + 1)
  session_length = search (rules, within_limit, object_length)

  -- each object has its information and no more symbols than the limit
  pub content_length : (s o : ℕ) (m : Sessions n) → IsStore s o m
      → length (content m) ≤ s * (o * (n + 1))
  content_length = search (rules, within_limit, session_length)

-- ---- the content of a store rises

abbrev pub Of : (Address → Type 0) → Fact → Type 0
Of P f = P (address f)

-- P holds of each address
abbrev pub Stand : (Address → Type 0) → List Fact → Type 0
Stand P F = AllByRecursion (Of P) F

after-append : (a : Address) (F G : List Fact) → StandAfter a F → StandAfter a G
    → StandAfter a (F ++ G)
after-append a [] G h k = k
after-append a (f ∷ F) G h k = (h.0, after-append a F G h.1 k)

rising-append : (F G : List Fact) → IsRising F → IsRising G → Stand (λ a. StandAfter a G) F
    → IsRising (F ++ G)
rising-append [] G h k b = k
rising-append (f ∷ F) G h k b = (after-append _ F G h.0 b.0, rising-append F G h.1 k b.1)

stand-weaker : (P Q : Address → Type 0) → ((a : Address) → P a → Q a) → (F : List Fact) → Stand P F
    → Stand Q F
stand-weaker P Q h [] s = tt
stand-weaker P Q h (f ∷ F) s = (h _ s.0, stand-weaker P Q h F s.1)

-- groups of facts by key: each rises, is where its key says, and is before those of later keys
record AreGroups {K X : Type 0} (cmp : K → K → Ordering) (f : K × X → List Fact)
    (In : K → Address → Type 0) (P : X → Type 0) : Type 0 where
  rises : (e : K × X) → P e.1 → IsRising (f e)
  within : (e : K × X) → Stand (In e.0) (f e)
  order : (j k : K) (a b : Address) → In j a → In k b → cmp j k ≡ Less → address_cmp a b ≡ Less

module _ {K X : Type 0} {cmp : K → K → Ordering} {f : K × X → List Fact} {In : K → Address → Type 0}
    {P : X → Type 0} (groups : AreGroups cmp f In P) where
  after_group : (a : Address) (j k : K) (F : List Fact) → In j a → cmp j k ≡ Less → Stand (In k) F
      → StandAfter a F
  after_group a j k [] i l s = tt
  after_group a j k (g ∷ F) i l s = search (rules, after_group a j k F i l s.1)

  after_groups : (a : Address) (j : K) → In j a → (es : List (K × X))
      → AllByRecursion (λ y. cmp j y ≡ Less) (keys_of es) → StandAfter a (flat_map f es)
  after_groups a j i [] s = tt
  after_groups a j i (e ∷ es) s = search
      (rules, after-append, after_group, after_groups a j i es s.1)

  groups-rise : (es : List (K × X)) → IsOrdered cmp es → EachValue P es → IsRising (flat_map f es)
  unfolding IsStrictlySortedBy
  groups-rise [] s p = tt
  groups-rise (e ∷ es) s p = search
      (rules, rising-append, stand-weaker, after_groups, groups-rise es s.1 p.1)

-- the facts of one cell, of an object, and of a session rise
cell-rises : {T : Type 0} (told : T → Fact) (clash : Fact) (c : Cell T)
    → IsRising (cell_facts told clash c)
cell-rises = search rules

after_info : (key : Key) (F : List Fact)
    → Stand (λ b. (id : SymbolId) × (b ≡ symbol_address key id)) F → StandAfter (info_address key) F
after_info key [] s = tt
after_info key (f ∷ F) s = search (rules, after_info key F s.1)

module _ {n : ℕ} where
  object-rises : (key : Key) (x : Object n) → OrderedObject x → IsRising (object_facts key x)
  object-rises key x p = rising-append _ _ (cell-rises _ _ x.info)
      (groups-rise symbols x.symbols p (any_value x.symbols))
      (cell-stands (λ a. StandAfter a (symbols_facts key x.symbols)) _ _ (λ v. later) later x.info)
    where
      symbols : AreGroups symbol_id_cmp (λ e. symbol_cell_facts key e.0 e.1)
          (λ id a. a ≡ symbol_address key id) (λ _. Unit {0})
      symbols = record {
        rises = λ e _. cell-rises _ _ e.1;
        within = λ e. cell-stands (λ a. a ≡ symbol_address key e.0) _ _ (λ v. refl) refl _;
        order = λ j k a b q r l. rw (q, r, equal_keys key, l) refl;
      }

      later : StandAfter (info_address key) (symbols_facts key x.symbols)
      later = after_info key _ (each-flat_map _ (λ e. symbol_cell_facts key e.0 e.1)
          (λ e. cell-stands (λ b. (id : SymbolId) × (b ≡ symbol_address key id)) _ _
          (λ v. (e.0, refl)) (e.0, refl) e.1) x.symbols)

  object-stands : (P : Address → Type 0) (key : Key) → ((a : Address) → a.key ≡ key → P a)
      → (x : Object n) → Stand P (object_facts key x)
  object-stands P key h x =
      each-append (Of P) _ _ (cell-stands P _ _ (λ v. h _ refl) (h _ refl) _)
      (each-flat_map _ (λ e. symbol_cell_facts _ e.0 _)
      (λ e. cell-stands P _ _ (λ v. h _ refl) (h _ refl) _) x.symbols)

  -- the facts of an object, then of a session, rise
  session-rises : (session : Session) (os : Objects n) → OrderedSession os
      → IsRising (session_facts session os)
  session-rises session os p = groups-rise objects os p.ordered p.each
    where
      objects : AreGroups object_cmp (λ e. object_facts {n = n} (key_in session e.0) e.1)
          (λ o a. a.key ≡ key_in session o) OrderedObject
      objects = record {
        rises = λ e q. object-rises _ e.1 q;
        within = λ e. object-stands _ _ (λ a q. q) e.1;
        order = λ j k a b q r l. rw (q, r, tied_itself session_total session, l) refl;
      }

  session-stands : (P : Address → Type 0) (session : Session)
      → ((a : Address) → a.key.session ≡ session → P a) → (os : Objects n)
      → Stand P (session_facts session os)
  session-stands P session h os = each-flat_map (Of P) (λ e. object_facts (key_in session _) e.1)
      (λ e. object-stands P (key_in _ _) (search rules) e.1) os

  -- the facts of a store are in the order of their addresses
  pub content-rises : (m : Sessions n) → OrderedStore m → IsRising (content m)
  content-rises m p = groups-rise sessions m p.ordered p.each
    where
      sessions : AreGroups session_cmp (λ e. session_facts {n = n} e.0 e.1)
          (λ s a. a.key.session ≡ s) OrderedSession
      sessions = record {
        rises = λ e q. session-rises e.0 e.1 q;
        within = λ e. session-stands _ e.0 (λ a q. q) e.1;
        order = λ j k a b q r l. rw (q, r, l) refl;
      }
