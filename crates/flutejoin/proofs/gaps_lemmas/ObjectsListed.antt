-- gaps: what is reported of objects whose facts come in rising order (specs/Told).
use Rattle.std.proofs.Common.{◌≡◌, List, [], ◌∷◌, ◌++◌, Option, Some, None, refl, sym, ap, ◌∙◌}
use Rattle.std.proofs.Common.{subst, inl, inr, arith, Bool, true, false, ℕ, if◌then◌else◌}
use Rattle.std.proofs.lemmas.List.Sums.{sum_by-append, sum_by-cons}
use Rattle.std.specs.Prelude.{Contains, filter_map, flat_map, map, option_map, take}
use Rattle.std.specs.List.{AllByRecursion}
use Rattle.std.specs.List.Sorted.{IsStrictlySortedBy}
use Rattle.std.specs.Ordering.{is_eq, ordering_then}
use Rattle.std.specs.declared.cmp.Ordering.{Ordering}
use Rattle.std.specs.declared.cmp.Ordering.TheVariants.{Less, Equal, Greater}
use Rattle.std.proofs.lemmas.Cmp.{tied_itself}
use Rattle.std.proofs.lemmas.List.{map-append}
use Rattle.std.proofs.lemmas.List.Elements.{Contains-append_left, Contains-append_right}
use Rattle.std.proofs.lemmas.List.Elements.{Contains-append_cases, Contains-push}
use Rattle.std.proofs.lemmas.List.Elements.{Contains-push_cases}
use Rattle.flute_parts.specs.Information.{Information}
use Rattle.flute_parts.specs.Addresses.{address}
use Rattle.flute_parts.specs.Facts.{fact_at, IsRising}
use Rattle.flute_parts.specs.Order.{key_cmp, part_cmp, address_cmp, same_key}
use Rattle.flute_parts.specs.Partition.{ids}
use Rattle.flute_parts.specs.Equality.{key_same}
use Rattle.flute_parts.specs.Totality.{key_total}
use Rattle.flute_parts.specs.declared.address.Part.{Part}
use Rattle.flute_parts.specs.declared.address.Part.TheVariants.{Info as InfoPart}
use Rattle.flute_parts.specs.declared.address.Part.TheVariants.{Symbol as SymbolPart}
use Rattle.flute_parts.specs.declared.address.Address.{Address}
use Rattle.flute_parts.specs.declared.key.Key.{Key}
use Rattle.flute_parts.specs.declared.symbol_id.SymbolId.{SymbolId}
use Rattle.flute_parts.specs.declared.fact.Fact.{Fact}
use Rattle.flute_parts.specs.declared.fact.Fact.TheVariants.{Info, InfoConflict, Symbol}
use Rattle.flute_parts.specs.declared.fact.Fact.TheVariants.{SymbolConflict}
use Rattle.flute_parts.proofs.Public.{Contains-from, fact_at-append, fact_at-none}
use Rattle.flute_parts.proofs.Public.{fact_at-some_named, joined-none, key-before, Member}
use Rattle.flute_parts.proofs.Public.{member-after, Member-from, none-at, tied}
use Rattle.flute_store.specs.declared.gap.Reason.{Reason}
use Rattle.flute_store.specs.Objects.{want, wants, runs, value_bytes, object as object_of}
use Rattle.flute_store.specs.Held.{HoldsObject}
use Rattle.flutejoin.specs.Objects.{bytes_at, bytes_wanting, gaps_at, info_at}
use Rattle.flutejoin.specs.Objects.{status_at, status_wanting}
use Rattle.flutejoin.specs.Told.{AreTold, Told, conflict_in, conflicts_of, told_of}
use Rattle.flutejoin.specs.Listing.{IsFirstOf}

pub in_nothing : {X : Type 0} (x : X) → Contains [] x → ⊥
in_nothing x c = omega arith

-- ---- the report of an object depends only on the values at its addresses

-- what a test adds to a count
abbrev pub one_if : Bool → ℕ
one_if b = if b then 1 else 0

no_conflict_in : (key : Key) (f : Fact) → ((address f).key ≡ key → ⊥) → conflict_in key f ≡ 0
no_conflict_in _ (Info k info) h = refl
no_conflict_in _ (InfoConflict k) h = refl
no_conflict_in _ (Symbol k id b) h = refl
no_conflict_in key (SymbolConflict k id) h =
    let P : Bool → Type 0 = λ b. same_key k key ≡ b → one_if b ≡ 0 in
    let cases : (b : Bool) → P b = λ b. elim b as P [
      | true ↦ λ is. absurd (h (key_same k key is))
      | false ↦ λ is. refl
    ] in cases (same_key k key) refl

-- facts of other objects have no conflict of this one
pub none_counted : (G : List Fact) (key : Key)
    → ((g : Fact) → Contains G g → (address g).key ≡ key → ⊥) → conflicts_of G key ≡ 0
none_counted [] _ h = refl
none_counted (g ∷ G) key h =
    let one = no_conflict_in _ g (h g (Contains-append_left (g ∷ []) G g (Contains-push [] g))) in
    let others = none_counted G _ (λ x c. h x (Contains-append_right (g ∷ []) G x c)) in
    omega (arith, sum_by-cons (conflict_in key) g G)

module _ (F G : List Fact) (key : Key) (same : (part : Part) → fact_at F
    (record { key = key; part = part }) ≡ fact_at G (record { key = key; part = part })) where
  pub wants_same : (info : Information) → wants F key info ≡ wants G key info
  unfolding wants
  wants_same info = λ i. filter_map (λ id. option_map (λ reason. (id, reason))
      (want info id (same (SymbolPart id) i))) (ids info)

  pub status_same : (o : Option Fact) → status_at F key o ≡ status_at G key o
  status_same None = refl
  status_same (Some (Info k info)) = ap (status_wanting info) (wants_same _)
  status_same (Some (InfoConflict k)) = refl
  status_same (Some (Symbol k id b)) = refl
  status_same (Some (SymbolConflict k id)) = refl

  gaps_same : (o : Option Fact) → gaps_at F key o ≡ gaps_at G key o
  gaps_same None = refl
  gaps_same (Some (Info k info)) = ap runs (wants_same _)
  gaps_same (Some (InfoConflict k)) = refl
  gaps_same (Some (Symbol k id b)) = refl
  gaps_same (Some (SymbolConflict k id)) = refl

  object_same : (info : Information) → object_of F key info ≡ object_of G key info
  unfolding object_of
  object_same info = λ i. take info.transfer_length
      (flat_map (λ id. value_bytes (same (SymbolPart id) i)) (ids info))

  wanting_same : (info : Information) (ws : List (SymbolId × Reason))
      → bytes_wanting F key info ws ≡ bytes_wanting G key info ws
  wanting_same info [] = ap Some (object_same _)
  wanting_same _ (w ∷ ws) = refl

  bytes_same : (o : Option Fact) → bytes_at F key o ≡ bytes_at G key o
  bytes_same None = refl
  bytes_same (Some (Info k info)) = wanting_same _ _ ∙ ap (bytes_wanting G key info) (wants_same _)
  bytes_same (Some (InfoConflict k)) = refl
  bytes_same (Some (Symbol k id b)) = refl
  bytes_same (Some (SymbolConflict k id)) = refl

  told_same : conflicts_of F key ≡ conflicts_of G key → told_of F key ≡ told_of G key
  told_same counts =
      let status = status_same _ ∙ ap (status_at G key) (same InfoPart) in
      let info = ap info_at (same InfoPart) in
      let gaps = gaps_same _ ∙ ap (gaps_at G key) (same InfoPart) in
      let bytes = bytes_same _ ∙ ap (bytes_at G key) (same InfoPart) in
      λ i. record {
        key = key;
        status = status i;
        info = info i;
        gaps = gaps i;
        bytes = bytes i;
        conflicts = counts i;
      }

-- ---- which objects facts are of

pub holds-from : (F : List Fact) (f : Fact) (key : Key) → Contains F f → (address f).key ≡ key →
    HoldsObject F key
holds-from F f _ c e = rw (← e) ((address f).part, λ none. none-at F _ none f c refl)

pub named-from : (F : List Fact) (key : Key) → HoldsObject F key → (f : Fact) × (Contains F f) ×
    ((address f).key ≡ key)
named-from F key h = elim (fact_at-some_named F _) [
  | inl n ↦ (n.0, Contains-from F _ n.1, ap (λ a. a.key) n.2)
  | inr e ↦ absurd (h.1 e)
]

-- facts of other objects do not change the report of this object
other_objects : (F G : List Fact) (key : Key) → ((g : Fact) → Contains G g → (address g).key ≡ key
    → ⊥) → told_of F key ≡ told_of (F ++ G) key
other_objects F G key h =
    told_same F _ _
    (λ part.
    let a : Address = record { key = key; part = part } in
    sym (cc (fact_at-append F G a, fact_at-none G a (λ g c e. h g c (ap (λ (x : Address). x.key) e)), joined-none a (fact_at F a))))
    (omega (arith, sum_by-append (conflict_in key) F G, none_counted G key h))

-- ---- objects follow one another

pub rising-back : (F G : List Fact) → IsRising (F ++ G) → IsRising G
rising-back [] G r = r
rising-back (f ∷ F) G r = rising-back F G r.1

rising_apart : (F G : List Fact) (f g : Fact) → IsRising (F ++ G) → Member f F → Contains G g →
    address_cmp (address f) (address g) ≡ Less
unfolding Member
rising_apart [] G f g r m c = absurd m
rising_apart (x ∷ F) G f g r (inl e) c = ap (λ y. address_cmp (address y) (address g)) e ∙
    member-after _ g _ r.0 (Member-from _ g (Contains-append_right F G g c))
rising_apart (x ∷ F) G f g r (inr m) c = rising_apart F G f g r.1 m c

pub stands_before : (F G : List Fact) (f g : Fact) → IsRising (F ++ G) → Contains F f → Contains G
    g → address_cmp (address f) (address g) ≡ Less
stands_before F G f g r c d = rising_apart F G f g r (Member-from F f c) d

pub lesser_key : (a b : Address) → address_cmp a b ≡ Less → (a.key ≡ b.key → ⊥) → key_cmp a.key
    b.key ≡ Less
lesser_key a b l apart =
    let cases : (o : Ordering) → key_cmp a.key b.key ≡ o → key_cmp a.key b.key ≡ Less = λ o e. elim
    o as (λ x. key_cmp a.key b.key ≡ x → key_cmp a.key b.key ≡ Less) [
      | Less ↦ λ e. e
      | Equal ↦ λ e. absurd (apart (key_same a.key b.key (ap is_eq e)))
      | Greater ↦ λ e. absurd (key-before a b l e)
    ] e in cases (key_cmp a.key b.key) refl

-- between two facts of an object there are no facts of others
pub same_object_between : (a b c : Address) → address_cmp a b ≡ Less → address_cmp b c ≡ Less →
    a.key ≡ c.key → b.key ≡ c.key
same_object_between a b c p q e =
    let after : key_cmp c.key b.key ≡ Greater → ⊥ = λ g. key-before a b p (cc) in
    key_same b.key c.key (cc (tied _ _ (key_total.antisymm b.key c.key) (key-before b c q) after))

no_part : (p : Part) → part_cmp p InfoPart ≡ Less → ⊥
no_part InfoPart e = absurd cc
no_part (SymbolPart n) e = absurd cc

-- information comes before all other facts of its object
pub information_first : (a b : Address) → address_cmp a b ≡ Less → b.part ≡ InfoPart → a.key ≡
    b.key → ⊥
information_first a b l i e =
    let tie = ap (λ k. key_cmp k b.key) e ∙ tied_itself key_total b.key in
    let rest = sym (ap (λ o. ordering_then o (part_cmp a.part InfoPart)) tie) ∙ sym (cc) ∙ l in
    no_part _ rest

all_more : (P : Key → Type 0) (ks : List Key) (k : Key) → AllByRecursion P ks → P k →
    AllByRecursion P (ks ++ k ∷ [])
all_more P [] k a p = (p, tt)
all_more P (x ∷ ks) k a p = (a.0, all_more P ks k a.1 p)

pub sorted_more : (ks : List Key) (k : Key) → IsStrictlySortedBy key_cmp ks →
    ((x : Key) → Contains ks x → key_cmp x k ≡ Less) → IsStrictlySortedBy key_cmp (ks ++ k ∷ [])
unfolding IsStrictlySortedBy
sorted_more [] k s h = (tt, tt)
sorted_more (x ∷ ks) k s h = (
  all_more _ _ k s.0
      (h x (Contains-append_left (x ∷ []) ks x (Contains-push [] x))),
  sorted_more ks k s.1
      (λ y c. h y (Contains-append_right (x ∷ []) _ y c)),
)

told_kept : (F G : List Fact) (ks : List Key) → ((k : Key) → Contains ks k → told_of F k ≡
    told_of G k) → map (told_of F) ks ≡ map (told_of G) ks
told_kept F G [] h = refl
told_kept F G (k ∷ ks) h =
    let one = h k (Contains-append_left (k ∷ []) ks k (Contains-push [] k)) in
    let others = told_kept F G ks (λ x c. h x (Contains-append_right (k ∷ []) _ x c)) in
    λ i. one i ∷ others i

-- the facts rise, and these are the last of them
pub record EndsIn (F before mine : List Fact) : Type 0 where
  pub all : F ≡ before ++ mine
  pub rising : IsRising F

-- the report of the objects before, and of one more, of which all other facts are
pub one_more_told : {before : List Fact} (mine : List Fact) (key : Key) {objects : List Told} →
    IsRising (before ++ mine) → AreTold before objects → IsFirstOf before key →
    ((f : Fact) → Contains mine f → (address f).key ≡ key) → (f : Fact) × Contains mine f → AreTold
    (before ++ mine) (objects ++ told_of (before ++ mine) key ∷ [])
one_more_told {before} mine key r l first own some =
    let all = before ++ mine in
    let earlier : (k : Key) → Contains l.keys k → (f : Fact) × (Contains before f) ×
    ((address f).key ≡ k) = λ k c. named-from _ k ((l.held k).0 c) in
    let apart : (k : Key) → Contains l.keys k → k ≡ key → ⊥ = λ k c e. let f = earlier k c in first
    f.0 f.1 (f.2 ∙ e) in
    let below : (k : Key) → Contains l.keys k → key_cmp k key ≡ Less = λ k c.
    let f = earlier k c in
    let e = own some.0 some.1 in
    subst (λ x. key_cmp x key ≡ Less) f.2
    (subst (λ x. key_cmp (address f.0).key x ≡ Less) e
    (lesser_key (address f.0) (address some.0) (stands_before _ _ _ _ r f.1 some.1)
    (λ same. first f.0 f.1 (same ∙ e)))) in
    let kept = told_kept _ _ _ (λ k c. other_objects _ _ k
    (λ g d e. apart k c (sym e ∙ own g d))) in
    record {
      keys = l.keys ++ key ∷ [];
      rising = sorted_more _ _ l.rising below;
      held = λ k. (
        λ c. elim (Contains-push_cases _ _ k c) [
          | inl d ↦ let f = earlier k d in holds-from _ _ k
              (Contains-append_left _ _ _ f.1) f.2
          | inr e ↦ holds-from _ _ k (Contains-append_right _ _ _ some.1)
              (own some.0 some.1 ∙ e)
        ],
        λ h.
            let f = named-from _ k h in
            elim (Contains-append_cases _ _ _ f.1) [
              | inl d ↦ Contains-append_left _ _ k
                  ((l.held k).1 (holds-from _ _ k d f.2))
              | inr d ↦ subst (Contains (l.keys ++ key ∷ [])) (sym (own f.0 d) ∙ f.2)
                  (Contains-push _ _)
            ],
      );
      told = ap (λ x. x ++ told_of all key ∷ []) (l.told ∙ kept)
          ∙ sym (map-append (told_of all) l.keys (key ∷ []));
    }

-- no facts: no object is reported
pub none_told : AreTold [] []
unfolding IsStrictlySortedBy
none_told = record {
  keys = [];
  rising = tt;
  held = λ k. (
    λ c. absurd (in_nothing k c),
    λ h. let f = named-from [] k h in absurd
        (in_nothing _ f.1),
  );
  told = refl;
}
