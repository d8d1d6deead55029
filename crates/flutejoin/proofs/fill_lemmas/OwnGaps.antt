-- What is asked for by lines of the asker's own gaps (specs/OwnGaps).
use Rattle.std.proofs.Common.{◌≡◌, ℕ, zero, suc, ◌+◌, ◌-◌, ◌≤◌, ◌⊎◌, Bool, true, false, cond, List, []}
use Rattle.std.proofs.Common.{◌∷◌, ◌++◌, map, Option, Some, None, refl, sym, ap, ◌∙◌}
use Rattle.std.proofs.Common.{subst, inl, inr, arith}
use Rattle.std.specs.Prelude.{Contains, ◌||◌, nat_eq, nat_le, not, option_map}
use Rattle.std.specs.List.{cons_option, flat_map, list_any, range_with_len}
use Rattle.std.proofs.lemmas.Bool.{cases_Bool, false≢true}
use Rattle.std.proofs.lemmas.Bool.Decides.{nat_tests}
use Rattle.std.proofs.lemmas.List.Folds.{list_any-append}
use Rattle.flute_parts.specs.Addresses.{address, info_address, symbol_address}
use Rattle.flute_parts.specs.Equality.{both_true, key_itself, key_same}
use Rattle.flute_parts.specs.Facts.{fact_at}
use Rattle.flute_parts.specs.Information.{Information}
use Rattle.flute_parts.specs.Order.{same_key}
use Rattle.flute_parts.specs.Partition.{ids, symbol_id}
use Rattle.flute_parts.specs.declared.address.Address.{Address}
use Rattle.flute_parts.specs.declared.address.Part.{Part}
use Rattle.flute_parts.specs.declared.address.Part.TheVariants.{Info as InfoPart}
use Rattle.flute_parts.specs.declared.address.Part.TheVariants.{Symbol as SymbolPart}
use Rattle.flute_parts.specs.declared.fact.Fact.{Fact}
use Rattle.flute_parts.specs.declared.fact.Fact.TheVariants.{Info, InfoConflict, Symbol}
use Rattle.flute_parts.specs.declared.fact.Fact.TheVariants.{SymbolConflict}
use Rattle.flute_parts.specs.declared.key.Key.{Key}
use Rattle.flute_parts.specs.declared.symbol_id.SymbolId.{SymbolId}
use Rattle.flute_store.specs.Objects.{listed, runs, same_reason, want, wants}
use Rattle.flute_store.specs.declared.gap.Gap.{Gap}
use Rattle.flute_store.specs.declared.gap.Reason.{Reason}
use Rattle.flute_store.specs.declared.gap.Reason.TheVariants.{Missing}
use Rattle.flute_store.specs.declared.status.Status.{Status}
use Rattle.flute_store.proofs.Public.{runs-listed}
use Rattle.flute_streams.specs.Scopes.{chosen}
use Rattle.flutejoin.specs.FillLists.{asks, is_missing_by, is_missing_in}
use Rattle.flutejoin.specs.FillLists.{status_in}
use Rattle.flutejoin.specs.FillLists.{wants as asks_for}
use Rattle.flutejoin.specs.Objects.{gaps_at, status_at, status_wanting}
use Rattle.flutejoin.specs.OwnGaps.{AsksFor, IsAsked}
use Rattle.flutejoin.specs.Told.{told_of}
use Rattle.flutejoin.specs.declared.fill.asking.Asking.TheVariants.{All as AskAll}
use Rattle.flutejoin.specs.declared.fill.listed_line.ListedLine.{ListedLine}
use Rattle.flutejoin.specs.declared.fill.listed_line.ListedLine.TheVariants.{Gap as GapLine}
use Rattle.flutejoin.proofs.fill_lemmas.GapsRise.{wanted}
use Rattle.flutejoin.proofs.fill_lemmas.PrintedLines.{lines_in, lines_of}
use Rattle.flutejoin.proofs.join_lemmas.JoinTrees.{passed_at, taken_at}

-- ---- lists

unfoldable pub Has : {X : Type 0} → X → List X → Type 0
Has x [] = ⊥
Has x (y ∷ ys) = (x ≡ y) ⊎ Has x ys

pub has : {X : Type 0} (x : X) (xs : List X) → Contains xs x → Has x xs
unfolding Has
has x [] (k, l, e) = absurd (omega (arith, l))
has x (y ∷ ys) (zero, l, e) = inl (sym e)
has x (y ∷ ys) (suc k, l, e) = inr (has x ys (k, omega (arith, l), e))

has_append : {X : Type 0} (x : X) (xs ys : List X) → Has x (xs ++ ys) → Has x xs ⊎ Has x ys
unfolding Has
has_append x [] ys h = inr h
has_append x (y ∷ xs) ys (inl e) = inl (inl e)
has_append x (y ∷ xs) ys (inr h) = elim (has_append x xs _ h) [
  | inl k ↦ inl (inr k)
  | inr k ↦ inr k
]

or_left : (a b : Bool) → a ≡ true → (a || b) ≡ true
or_left true b e = refl
or_left false b e = absurd (false≢true e)

pub or_right : (a b : Bool) → b ≡ true → (a || b) ≡ true
or_right true b e = refl
or_right false b e = e

-- ---- the gaps that a wanted symbol is in

-- a wanted symbol is one of the gap
record IsIn (id : SymbolId) (r : Reason) (g : Gap) : Type 0 where
  pub block : id.sbn ≡ g.sbn
  pub first : g.first ≤ id.esi
  pub last : id.esi ≤ g.last
  pub reason : r ≡ g.reason

in_run : (id : SymbolId) (r : Reason) (n : ℕ) (s : Reason) (a k : ℕ)
    → Has {X = SymbolId × Reason} (id, r) (map (λ i. (symbol_id n i, s)) (range_with_len a k))
    → IsIn id r (record { sbn = n; first = a; last = a + k - 1; reason = s })
unfolding Has
in_run id r n s a zero h = absurd h
in_run id r n s a (suc k) (inl e) = record {
  block = ap (λ w. w.0.sbn) e;
  first = omega (arith, ap (λ w. w.0.esi) e);
  last = omega (arith, ap (λ w. w.0.esi) e);
  reason = ap (λ w. w.1) e;
}
in_run id r n s a (suc k) (inr h) =
    let later = in_run id r n s (a + 1) k h in
    record {
      block = later.block;
      first = omega (arith, later.first);
      last = omega (arith, later.last);
      reason = later.reason;
    }

in_gap : (id : SymbolId) (r : Reason) (g : Gap) → Has {X = SymbolId × Reason} (id, r) (listed g) → IsIn id r g
in_gap id r g h =
    let is = in_run _ r _ _ _ _ h in
    record {
      block = is.block;
      first = is.first;
      last = omega (arith, is.first, is.last);
      reason = is.reason;
    }

yes : (m n : ℕ) → m ≡ n → nat_eq m n ≡ true
yes m n e = grind (arith, nat_tests, e)

most : (m n : ℕ) → m ≤ n → nat_le m n ≡ true
most m n h = grind (arith, nat_tests, h)

module _ (key : Key) (id : SymbolId) where
  missing_there : (g : Gap) → IsIn id Missing g
      → is_missing_by (symbol_address key id) (GapLine key g) ≡ true
  missing_there g is = both_true (same_key key key) _ (key_itself key) (both_true
      (same_reason g.reason Missing) _ (cc is.reason) (both_true (nat_eq id.sbn g.sbn) _
      (yes _ _ is.block)
      (both_true (nat_le g.first id.esi) _ (most _ _ is.first) (most _ _ is.last))))

  missing_in : (gaps : List Gap) → Has {X = SymbolId × Reason} (id, Missing) (flat_map listed gaps)
      → list_any (is_missing_by (symbol_address key id)) (map (GapLine key) gaps) ≡ true
  unfolding Has
  missing_in [] h = absurd h
  missing_in (g ∷ gaps) h =
      let at = is_missing_by (symbol_address key id) (GapLine key g) in
      let rest = list_any (is_missing_by (symbol_address key id)) (map (GapLine key) gaps) in
      elim (has_append {X = SymbolId × Reason} _ _ _ h) [
        | inl k ↦ or_left at rest (missing_there g (in_gap _ _ g k))
        | inr k ↦ or_right at rest (missing_in gaps k)
      ]

module _ (w : SymbolId → Option Reason) (id : SymbolId) (r : Reason) (is : w id ≡ Some r) where
  has_wanted : (xs : List SymbolId) → Has id xs → Has {X = SymbolId × Reason} (id, r) (wanted w xs)
  unfolding Has
  has_wanted [] h = absurd h
  has_wanted (x ∷ xs) (inl e) = subst (λ y. Has {X = SymbolId × Reason} (id, r) (wanted w (y ∷ xs)))
      e (subst (λ o. Has {X = SymbolId × Reason} (id, r)
      (cons_option (option_map (λ reason. (id, reason)) o) (wanted w xs))) (sym is) (inl refl))
  has_wanted (x ∷ xs) (inr h) = go _ (has_wanted xs h)
    where
      go : (o : Option Reason) → Has {X = SymbolId × Reason} (id, r) (wanted w xs)
          → Has {X = SymbolId × Reason} (id, r)
          (cons_option (option_map (λ reason. (x, reason)) o) (wanted w xs))
      go None k = k
      go (Some s) k = inr k

-- ---- what lines tell of an object

module _ (F : List Fact) where
  -- the lines tell how much is held of the object, and its gaps
  record Tell (key : Key) (lines : List ListedLine) : Type 0 where
    pub status : status_in lines key ≡ Some (told_of F key).status
    pub gaps : (at : Address)
        → list_any (is_missing_by at) (map (GapLine key) (told_of F key).gaps) ≡ true
        → is_missing_in lines at ≡ true

  status_later : (k key : Key) (gaps : List Gap) (rest : List ListedLine)
      → status_in (map (GapLine k) gaps ++ rest) key ≡ status_in rest key
  unfolding status_in
  status_later k _ [] _ = refl
  status_later k key (g ∷ gaps) rest = status_later k _ gaps _

  tells_own : (key : Key) (rest : List ListedLine) → Tell key (lines_in (told_of F key) ++ rest)
  unfolding status_in
  tells_own key rest =
      let t = told_of F key in
      record {
        status = ap (λ b. cond b (Some t.status) (status_in (map (GapLine key) t.gaps ++ rest) key))
            (key_itself key);
        gaps = λ at h. list_any-append (is_missing_by at) (map (GapLine key) t.gaps) rest
            ∙ or_left _ (list_any (is_missing_by at) rest) h;
      }

  abbrev told_lines : List Key → List ListedLine
  told_lines keys = lines_of (map (told_of F) keys)

  told_or_not : (keys : List Key) (key : Key)
      → (status_in (told_lines keys) key ≡ None) ⊎ Tell key (told_lines keys)
  unfolding status_in
  told_or_not [] _ = inl refl
  told_or_not (k ∷ keys) key = elim (cases_Bool _) [
    | inl e ↦ subst (λ z. (status_in (lines_in (told_of F z) ++ told_lines keys) key ≡ None) ⊎
        Tell key (lines_in (told_of F z) ++ told_lines keys)) (sym (key_same k key e))
        (inr (tells_own _ _))
    | inr e ↦ let t = told_of F k in
        let next = ap (λ b. cond b (Some t.status)
        (status_in (map (GapLine k) t.gaps ++ told_lines keys) key)) e ∙ status_later k key
        t.gaps (told_lines keys) in elim (told_or_not keys key) [
          | inl n ↦ inl (next ∙ n)
          | inr h ↦ inr (record {
            status = next ∙ h.status;
            gaps = λ at m. list_any-append (is_missing_by at) (map (GapLine k) t.gaps) _ ∙
                or_right _ _ (h.gaps at m);
          })
        ]
  ]

  -- ---- what is asked for

  -- a symbol of the partition at whose address nothing is held is in a gap
  in_a_gap : (key : Key) (info : Information) (id : SymbolId) → Contains (ids info) id → fact_at F
      (symbol_address key id) ≡ None → Has {X = SymbolId × Reason} (id, Missing) (wants F key info)
  unfolding wants
  in_a_gap key info id c none = has_wanted _ _ _ (ap (want info id) none) _ (has _ _ c)

  asked_in : (key : Key) (info : Information) (id : SymbolId) (ws : List (SymbolId × Reason))
      (lines : List ListedLine) → Has {X = SymbolId × Reason} (id, Missing) ws → ((at : Address) →
      list_any (is_missing_by at) (map (GapLine key) (runs ws)) ≡ true → is_missing_in lines at ≡
      true) → asks_for AskAll (Some (status_wanting info ws))
      (is_missing_in lines (symbol_address key id)) (SymbolPart id) ≡ true
  unfolding Has
  asked_in _ _ id [] _ h _ = absurd h
  asked_in key _ id (w ∷ ws) _ h tell = tell (symbol_address key id) (missing_in key id
      (runs (w ∷ ws)) (subst (Has {X = SymbolId × Reason} (id, Missing)) (sym (runs-listed _)) h))

  abbrev Asked : Key → Part → List ListedLine → Option Status → Type 0
  Asked key part lines status =
      asks_for AskAll status (is_missing_in lines (record { key = key; part = part })) part ≡ true

  -- by the value at the address of its information
  asked_by : (key : Key) (part : Part) (lines : List ListedLine) (o : Option Fact)
      → IsAsked o (fact_at F (record { key = key; part = part })) part
      → ((at : Address) → list_any (is_missing_by at) (map (GapLine key) (gaps_at F key o)) ≡ true
      → is_missing_in lines at ≡ true) → Asked key part lines (Some (status_at F key o))
  asked_by _ _ _ None is _ = refl
  asked_by _ InfoPart _ (Some (Info k info)) is _ = absurd is
  asked_by key (SymbolPart id) lines (Some (Info k info)) is tell =
      asked_in _ info _ _ lines (in_a_gap _ _ _ is.1 is.0) tell
  asked_by _ _ _ (Some (InfoConflict k)) is _ = ap not is
  asked_by _ _ _ (Some (Symbol k i b)) is _ = ap not is
  asked_by _ _ _ (Some (SymbolConflict k i)) is _ = ap not is

  pub asked_at : (keys : List Key) (key : Key) (part : Part)
      → IsAsked (fact_at F (info_address key)) (fact_at F (record { key = key; part = part })) part
      → Asked key part (told_lines keys) (status_in (told_lines keys) key)
  asked_at keys key part is = elim (told_or_not _ _) [
    | inl n ↦ subst (Asked key part (told_lines keys)) (sym n) refl
    | inr h ↦ rw (← h.status) at (asked_by _ _ (told_lines keys) _ is h.gaps)
  ]

-- so it is by the lines of the objects that are taken of facts, and of all others
pub asked_of : (takes : Key → Bool) (F : List Fact) (keys : List Key) (f : Fact) → AsksFor F f
    → asks AskAll (lines_of (map (told_of (chosen takes F)) keys)) f ≡ true
asked_of takes F keys f is = go (cases_Bool _)
  where
    key : Key
    key = (address f).key

    G : List Fact
    G = chosen takes F

    go : ((takes key ≡ true) ⊎ (takes key ≡ false)) → asks AskAll (lines_of (map (told_of G) keys)) f ≡ true
    go (inl t) =
        asked_at G _ _ _
        (subst (λ o. IsAsked o (fact_at G (address f)) (address f).part)
        (sym (taken_at takes _ F t))
        (subst (λ v. IsAsked (fact_at F (info_address key)) v (address f).part)
        (sym (taken_at takes _ F t)) is))
    go (inr t) =
        asked_at G _ _ _
        (subst (λ o. IsAsked o (fact_at G (address f)) (address f).part)
        (sym (passed_at takes _ F t)) tt)
