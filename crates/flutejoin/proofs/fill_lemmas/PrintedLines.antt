-- What `gaps` prints, with all gaps and in words, are lines that `fill` reads (specs/FillLists).
use Rattle.std.proofs.Common.{rules}
use Rattle.std.proofs.Common.{◌≡◌, ℕ, ◌+◌, ◌<◌, ◌^◌, ◌⊎◌, Bool, true, false, cond, List, [], ◌∷◌, ◌++◌}
use Rattle.std.proofs.Common.{map, Option, Some, None, refl, sym, ap, ◌∙◌, subst, inl, inr, arith}
use Rattle.std.proofs.Common.{zero, suc}
use Rattle.std.specs.Prelude.{Contains, filter, ⊤}
use Rattle.std.specs.Cmp.{nat_cmp_is}
use Rattle.std.specs.List.{flat_map, AllByRecursion}
use Rattle.std.specs.List.Sorted.{IsStrictlySortedBy}
use Rattle.std.specs.Ordering.{nat_cmp, ordering_then}
use Rattle.std.specs.declared.cmp.Ordering.TheVariants.{Less, Equal}
use Rattle.std.proofs.lemmas.Cmp.{tied_itself}
use Rattle.std.proofs.lemmas.Grind.{flat_map-append}
use Rattle.std.proofs.lemmas.List.Sums.{count_by-le-length, length-filter}
use Rattle.flute_parts.specs.Addresses.{address, info_address, symbol_address}
use Rattle.flute_parts.specs.Facts.{IsRising, fact_at}
use Rattle.flute_parts.specs.Information.{Information, IsValid, info_fault}
use Rattle.flute_parts.specs.Order.{address_cmp, key_cmp}
use Rattle.flute_parts.specs.Partition.{ids}
use Rattle.flute_parts.specs.Ranges.{IsFact, IsKey}
use Rattle.flute_parts.specs.Totality.{key_total}
use Rattle.flute_parts.specs.declared.address.Address.{Address}
use Rattle.flute_parts.specs.declared.fact.Fact.{Fact}
use Rattle.flute_parts.specs.declared.fact.Fact.TheVariants.{Info, InfoConflict, Symbol}
use Rattle.flute_parts.specs.declared.fact.Fact.TheVariants.{SymbolConflict}
use Rattle.flute_parts.specs.declared.key.Key.{Key}
use Rattle.flute_parts.specs.declared.symbol_id.SymbolId.{SymbolId}
use Rattle.flute_parts.proofs.Public.{Contains-from, fact_at-some_named, Member, rising_tells}
use Rattle.flute_store.specs.Held.{HoldsObject}
use Rattle.flute_store.specs.Objects.{runs, same_reason, want, wants}
use Rattle.flute_store.specs.Status.{how_many}
use Rattle.flute_store.specs.declared.gap.Gap.{Gap}
use Rattle.flute_store.specs.declared.gap.Reason.{Reason}
use Rattle.flute_store.specs.declared.status.Status.{Status}
use Rattle.flute_journal.proofs.Public.{all_append}
use Rattle.flutejoin.specs.FillLists.{AreInOrder, HasCounts, IsListed, IsListing, MayCome, begins}
use Rattle.flutejoin.specs.FillLists.{ends, has_gaps, object_of, text_of}
use Rattle.flutejoin.specs.Lines.{gap_line, status_line}
use Rattle.flutejoin.specs.Objects.{gaps_at, status_at, status_wanting}
use Rattle.flutejoin.specs.OwnGaps.{IsPlain}
use Rattle.flutejoin.specs.Styles.{object_line_in, printed, told_lines}
use Rattle.flutejoin.specs.Told.{AreTold, Told, told_of}
use Rattle.flutejoin.specs.declared.fill.listed_line.ListedLine.{ListedLine}
use Rattle.flutejoin.specs.declared.fill.listed_line.ListedLine.TheVariants.{Object as ObjectLine}
use Rattle.flutejoin.specs.declared.fill.listed_line.ListedLine.TheVariants.{Gap as GapLine}
use Rattle.flutejoin.specs.declared.lines.form.Form.TheVariants.{Plain}
use Rattle.flutejoin.specs.declared.lines.style.Style.{Style}
use Rattle.flutejoin.proofs.fill_lemmas.GapsRise.{From, GapsFrom, WantsFrom, gaps_rise, ids_rise}
use Rattle.flutejoin.proofs.fill_lemmas.GapsRise.{wants_few, wants_rise}

-- ---- the text

-- the lines of an object, and those of all
abbrev pub lines_in : Told → List ListedLine
lines_in t = ObjectLine t.key t.status ∷ map (GapLine t.key) t.gaps

abbrev pub lines_of : List Told → List ListedLine
lines_of objects = flat_map lines_in objects

pub filter_all : {X : Type 0} (p : X → Bool) → ((x : X) → p x ≡ true) → (xs : List X)
    → filter p xs ≡ xs
filter_all p h [] = refl
filter_all p h (x ∷ xs) =
    ap (λ b. cond b (x ∷ filter p xs) (filter p xs)) (h x) ∙ ap (λ l. x ∷ l) (filter_all p h xs)

gaps_text : (key : Key) (gaps : List Gap)
    → flat_map gap_line gaps ≡ flat_map text_of (map (GapLine key) gaps)
gaps_text key [] = refl
gaps_text key (g ∷ gaps) = ap (λ l. gap_line g ++ l) (gaps_text key gaps)

module _ (check : Bool) where
  abbrev plain : Style
  plain = record { check = check; summary = false; conflicts = false; ranges = false; form = Plain }

  told_text : (t : Told) → told_lines plain t ≡ flat_map text_of (lines_in t)
  unfolding told_lines object_line_in
  told_text t = ap (λ l. status_line t.key t.status ++ flat_map gap_line l)
      (filter_all (λ (gap : Gap). true) (λ gap. refl) t.gaps) ∙ ap
      (λ l. status_line t.key t.status ++ l) (gaps_text t.key t.gaps)

  objects_text : (objects : List Told)
      → flat_map (told_lines plain) objects ≡ flat_map text_of (lines_of objects)
  objects_text [] = refl
  objects_text (t ∷ objects) = ap (λ l. l ++ flat_map (told_lines plain) objects) (told_text t) ∙ ap
      (λ l. flat_map text_of (lines_in t) ++ l) (objects_text objects) ∙ sym
      (flat_map-append text_of (lines_in t) (lines_of objects))

  plain_text : (objects : List Told) → printed plain objects ≡ flat_map text_of (lines_of objects)
  unfolding printed
  plain_text objects = ap (λ l. flat_map (told_lines plain) l)
      (filter_all (λ (t : Told). true) (λ t. refl) objects) ∙ objects_text objects

pub printed_text : (style : Style) (objects : List Told) → IsPlain style
    → printed style objects ≡ flat_map text_of (lines_of objects)
printed_text style objects is =
    let same : style ≡ plain style.check = λ i. record {
      check = style.check;
      summary = is.summary i;
      conflicts = is.conflicts i;
      ranges = is.ranges i;
      form = is.form i;
    } in ap (λ s. printed s objects) same ∙ plain_text style.check objects

-- ---- facts

-- facts that rise, within their ranges
pub record IsSound (F : List Fact) : Type 0 where
  pub rising : IsRising F
  pub valid : AllByRecursion IsFact F

member_valid : (f : Fact) (F : List Fact) → Member f F → AllByRecursion IsFact F → IsFact f
unfolding Member
member_valid f [] m h = absurd m
member_valid f (g ∷ F) (inl e) h = rw e h.0
member_valid f (g ∷ F) (inr m) h = member_valid f F m h.1

key_valid : (f : Fact) → IsFact f → IsKey (address f).key
key_valid (Info key info) is = is.0
key_valid (InfoConflict key) is = is
key_valid (Symbol key id bytes) is = is.0
key_valid (SymbolConflict key id) is = is.0

no_fault : (info : Information) → info_fault info ≡ None → IsValid info
no_fault info e = search rules

module _ (F : List Fact) (sound : IsSound F) where
  fact_valid : (a : Address) (f : Fact) → fact_at F a ≡ Some f → IsFact f × (address f ≡ a)
  fact_valid a f e = elim (fact_at-some_named F a) [
    | inr none ↦ absurd cc
    | inl named ↦
        let g = named.0 in
        let m = Contains-from F g named.1 in
        let at : fact_at F a ≡ Some g =
        subst (λ x. fact_at F x ≡ Some g) named.2 (rising_tells F g sound.rising m) in
        let same : g ≡ f = given (sym at ∙ e) in
        (subst IsFact same (member_valid g F named.1 sound.valid), subst (λ x. address x ≡ a) same named.2)
  ] where
    given : {g h : Fact} → Some g ≡ Some h → g ≡ h
    given e = cc

  key_held : (key : Key) → HoldsObject F key → IsKey key
  key_held key (part, some) = go (fact_at F (record { key = key; part = part })) refl
    where
      go : (o : Option Fact) → fact_at F (record { key = key; part = part }) ≡ o → IsKey key
      go None e = absurd (some e)
      go (Some f) e =
          let v = fact_valid (record { key = key; part = part }) f e in
          rw v.1 at (key_valid f v.0)

  -- what is told of an object
  record IsTold (key : Key) (status : Status) (gaps : List Gap) : Type 0 where
    pub rise : GapsFrom 0 0 gaps
    pub counts : HasCounts status
    pub partial : (gaps ≡ []) ⊎ (has_gaps (ObjectLine key status) ≡ true)

  none_rise : GapsFrom 0 0 []
  unfolding GapsFrom
  none_rise = tt

  all_wanted : (key : Key) (info : Information) → IsValid info → WantsFrom 0 0 (wants F key info)
  unfolding wants
  all_wanted key info valid = wants_rise (λ id. want info id (fact_at F (symbol_address key id))) 0
      0 (ids info) (ids_rise info valid)

  few : (r : Reason) (ws : List (SymbolId × Reason)) → WantsFrom 0 0 ws → how_many r ws < 2 ^ 64
  unfolding how_many
  few r ws h = omega (
    arith,
    wants_few 0 0 ws (omega arith) (omega arith) h,
    length-filter
        (λ w. same_reason r w.1) ws,
    count_by-le-length (λ w. same_reason r w.1) ws,
  )

  of_wanted : (key : Key) (info : Information) (ws : List (SymbolId × Reason)) → IsValid info → WantsFrom 0 0 ws
      → IsTold key (status_wanting info ws) (runs ws)
  unfolding runs
  of_wanted key info [] valid h = record {
    rise = none_rise;
    counts = omega arith;
    partial = inl refl;
  }
  of_wanted key info (w ∷ ws) valid h = record {
    rise = gaps_rise 0 0 (w ∷ ws) h;
    counts = (few _ (w ∷ ws) h, few _ (w ∷ ws) h, few _ (w ∷ ws) h);
    partial = inr refl;
  }

  of_object : (key : Key) (o : Option Fact) → fact_at F (info_address key) ≡ o
      → IsTold key (status_at F key o) (gaps_at F key o)
  of_object key None e = record { rise = none_rise; counts = tt; partial = inl refl }
  of_object key (Some (Info k info)) e =
      let is = (fact_valid (info_address key) (Info k info) e).0.1 in
      let valid = no_fault info is.1 in
      of_wanted key info (wants F key info) valid (all_wanted key info valid)
  of_object key (Some (InfoConflict k)) e =
      record { rise = none_rise; counts = tt; partial = inl refl }
  of_object key (Some (Symbol k id bytes)) e =
      record { rise = none_rise; counts = tt; partial = inl refl }
  of_object key (Some (SymbolConflict k id)) e =
      record { rise = none_rise; counts = tt; partial = inl refl }

  -- ---- the lines

  less : (m n : ℕ) → m < n → nat_cmp m n ≡ Less
  less m n l = sym (nat_cmp_is m n Less l)

  equal : (m n : ℕ) → m ≡ n → nat_cmp m n ≡ Equal
  equal m n e = sym (nat_cmp_is m n Equal e)

  -- a gap that does not begin before these numbers is behind a line
  abbrev Precedes : Key → ListedLine → ℕ → ℕ → Type 0
  Precedes key b n i =
      (g : Gap) → From n i g.sbn g.first → address_cmp (ends b) (begins (GapLine key g)) ≡ Less

  object_precedes : (key : Key) (status : Status) → Precedes key (ObjectLine key status) 0 0
  object_precedes key status g f = ap (λ o. ordering_then o Less) (tied_itself key_total key)

  gap_precedes : (key : Key) (g : Gap) → Precedes key (GapLine key g) g.sbn (g.last + 1)
  gap_precedes key g h f =
      ap (λ o. ordering_then o (ordering_then (nat_cmp g.sbn h.sbn) (nat_cmp g.last h.first)))
      (tied_itself key_total key) ∙ ids f
    where
      ids : From g.sbn (g.last + 1) h.sbn h.first
          → ordering_then (nat_cmp g.sbn h.sbn) (nat_cmp g.last h.first) ≡ Less
      ids (inl l) = ap (λ o. ordering_then o (nat_cmp g.last h.first)) (less g.sbn h.sbn l)
      ids (inr p) =
          ap (λ o. ordering_then o (nat_cmp g.last h.first)) (equal g.sbn h.sbn (sym p.0))
          ∙ less g.last h.first (omega arith)

  -- the gaps of an object, and then other lines
  module _ (key : Key) (rest : List ListedLine)
      (then : (l : ListedLine) → object_of l ≡ key → AreInOrder (Some l) rest) where
    gaps_in_order : (b : ListedLine) (n i : ℕ) (gaps : List Gap) → object_of b ≡ key
        → (gaps ≡ []) ⊎ (has_gaps b ≡ true) → Precedes key b n i → GapsFrom n i gaps
        → AreInOrder (Some b) (map (GapLine key) gaps ++ rest)
    unfolding AreInOrder GapsFrom
    gaps_in_order b n i [] c some p h = then b c
    gaps_in_order b n i (g ∷ gaps) c some p h = (
      (has some, c, h.1, p g h.0),
      gaps_in_order (GapLine key g) g.sbn (g.last + 1) gaps refl (inr refl) (gap_precedes key g) h.3,
    )
      where
        has : (((g ∷ gaps) ≡ []) ⊎ (has_gaps b ≡ true)) → has_gaps b ≡ true
        has (inl e) = cc
        has (inr e) = e

  abbrev IsBefore : Option ListedLine → List Key → Type 0
  IsBefore None keys = ⊤
  IsBefore (Some b) keys = AllByRecursion (λ k. key_cmp (object_of b) k ≡ Less) keys

  first_may_come : (b : Option ListedLine) (key : Key) (keys : List Key) (status : Status)
      → IsBefore b (key ∷ keys) → MayCome b (ObjectLine key status)
  first_may_come None key keys status h = tt
  first_may_come (Some b) key keys status h = h.0

  abbrev pub told_lines_of : List Key → List ListedLine
  told_lines_of keys = lines_of (map (told_of F) keys)

  objects_in_order : (b : Option ListedLine) (keys : List Key) → IsStrictlySortedBy key_cmp keys
      → IsBefore b keys → AreInOrder b (told_lines_of keys)
  unfolding AreInOrder IsStrictlySortedBy
  objects_in_order b [] rises h = tt
  objects_in_order b (key ∷ keys) rises h =
      let t = of_object key (fact_at F (info_address key)) refl in (
        first_may_come b key keys (told_of F key).status h,
        gaps_in_order key (told_lines_of keys)
            (λ l e. objects_in_order (Some l) keys rises.1 (rw e rises.0))
            (ObjectLine key (told_of F key).status) 0 0 (told_of F key).gaps refl t.partial
            (object_precedes key (told_of F key).status) t.rise,
      )

  gaps_listed : (key : Key) (n i : ℕ) (gaps : List Gap) → GapsFrom n i gaps
      → AllByRecursion IsListed (map (GapLine key) gaps)
  unfolding GapsFrom
  gaps_listed key n i [] h = tt
  gaps_listed key n i (g ∷ gaps) h = (h.2, gaps_listed key g.sbn (g.last + 1) gaps h.3)

  objects_listed : (keys : List Key) → ((key : Key) → Contains keys key → IsKey key)
      → AllByRecursion IsListed (told_lines_of keys)
  objects_listed [] h = tt
  objects_listed (key ∷ keys) h =
      let t = of_object key (fact_at F (info_address key)) refl in (
        (h key (zero, omega arith, refl), t.counts),
        all_append IsListed
            (map (GapLine key) (told_of F key).gaps) (told_lines_of keys)
            (gaps_listed key 0 0 (told_of F key).gaps t.rise)
            (objects_listed keys (λ k c. h k (suc c.0, omega arith, c.2))),
      )

  pub told_listing : (bytes : List ℕ) (objects : List Told) → AreTold F objects
      → bytes ≡ flat_map text_of (lines_of objects) → IsListing bytes (lines_of objects)
  told_listing bytes objects told text = record {
    text = text;
    in_order = rw told.told (objects_in_order None told.keys told.rising tt);
    listed = rw told.told (objects_listed told.keys (λ key c. key_held key ((told.held key).0 c)));
  }
