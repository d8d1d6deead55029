-- Lines that are behind an address (specs/FillStreams).
use Rattle.std.proofs.Common.{◌≡◌, ℕ, ◌≤◌, true, false, [], Some}
use Rattle.std.proofs.Common.{refl, sym, ap, ◌∙◌, inl, inr, arith, is_eq}
use Rattle.std.specs.Prelude.{◌&&◌, nat_eq, nat_le}
use Rattle.std.proofs.lemmas.Bool.{cases_Bool, false≢true}
use Rattle.std.proofs.lemmas.Bool.Decides.{nat_tests}
use Rattle.std.proofs.lemmas.Cmp.{ranked, tied_itself, nat_cmp_total}
use Rattle.std.specs.Ordering.{is_le, is_lt, nat_cmp, ordering_then}
use Rattle.std.specs.declared.cmp.Ordering.{Ordering}
use Rattle.std.specs.declared.cmp.Ordering.TheVariants.{Less, Equal, Greater}
use Rattle.flute_parts.specs.Addresses.{symbol_address}
use Rattle.flute_parts.specs.Equality.{address_same, both, key_same}
use Rattle.flute_parts.specs.Order.{address_cmp, key_cmp, part_cmp, same_key}
use Rattle.flute_parts.specs.Totality.{address_total, key_total}
use Rattle.flute_parts.specs.declared.address.Address.{Address}
use Rattle.flute_parts.specs.declared.address.Part.{Part}
use Rattle.flute_parts.specs.declared.address.Part.TheVariants.{Info as InfoPart}
use Rattle.flute_parts.specs.declared.address.Part.TheVariants.{Symbol as SymbolPart}
use Rattle.flute_parts.specs.declared.key.Key.{Key}
use Rattle.flute_parts.specs.declared.symbol_id.SymbolId.{SymbolId}
use Rattle.flute_store.specs.Objects.{same_reason}
use Rattle.flute_store.specs.declared.gap.Gap.{Gap}
use Rattle.flute_store.specs.declared.gap.Reason.TheVariants.{Missing}
use Rattle.flutejoin.specs.FillLists.{MayCome, begins, ends, is_missing_by, is_part_of}
use Rattle.flutejoin.specs.FillStreams.{is_behind_line}
use Rattle.flutejoin.specs.declared.fill.listed_line.ListedLine.{ListedLine}
use Rattle.flutejoin.specs.declared.fill.listed_line.ListedLine.TheVariants.{Object as ObjectLine}
use Rattle.flutejoin.specs.declared.fill.listed_line.ListedLine.TheVariants.{Gap as GapLine}

-- orders

less_is : (o : Ordering) → is_lt o ≡ true → o ≡ Less
less_is Less h = refl
less_is Equal h = absurd (false≢true h)
less_is Greater h = absurd (false≢true h)

less_then : (x y z : Key) → key_cmp x y ≡ Less → is_le (key_cmp y z) ≡ true → key_cmp x z ≡ Less
less_then x y z l h = go _ refl h
  where
    go : (o : Ordering) → key_cmp y z ≡ o → is_le o ≡ true → key_cmp x z ≡ Less
    go Less e h = key_total.trans x y z l e
    go Equal e h = rw (← key_same y z (ap is_eq e)) l
    go Greater e h = absurd (false≢true h)

most_then : (x y z : Key) → is_le (key_cmp x y) ≡ true → is_le (key_cmp y z) ≡ true
    → is_le (key_cmp x z) ≡ true
most_then x y z h k = go _ refl h
  where
    go : (o : Ordering) → key_cmp x y ≡ o → is_le o ≡ true → is_le (key_cmp x z) ≡ true
    go Less e h = ap is_le (less_then x y z e k)
    go Equal e h = rw (key_same x y (ap is_eq e)) k
    go Greater e h = absurd (false≢true h)

before_then : (x y z : Address) → address_cmp x y ≡ Less → is_le (address_cmp y z) ≡ true
    → address_cmp x z ≡ Less
before_then x y z l h = go _ refl h
  where
    go : (o : Ordering) → address_cmp y z ≡ o → is_le o ≡ true → address_cmp x z ≡ Less
    go Less e h = address_total.trans x y z l e
    go Equal e h = rw (← address_same y z (ap is_eq e)) l
    go Greater e h = absurd (false≢true h)

then_before : (x y z : Address) → is_le (address_cmp x y) ≡ true → address_cmp y z ≡ Less
    → address_cmp x z ≡ Less
then_before x y z h l = go _ refl h
  where
    go : (o : Ordering) → address_cmp x y ≡ o → is_le o ≡ true → address_cmp x z ≡ Less
    go Less e h = address_total.trans x y z e l
    go Equal e h = rw (address_same x y (ap is_eq e)) l
    go Greater e h = absurd (false≢true h)

-- the objects of addresses are in their order
pub object_order : (x y : Address) → address_cmp x y ≡ Less → is_le (key_cmp x.key y.key) ≡ true
object_order x y l = go _ l
  where
    go : (o : Ordering) → ordering_then o (part_cmp x.part y.part) ≡ Less → is_le o ≡ true
    go Less e = refl
    go Equal e = refl
    go Greater e = absurd (apart e)
      where
        apart : Greater ≡ Less → ⊥
        apart e = cc

by_object : (x y : Address) → key_cmp x.key y.key ≡ Less → address_cmp x y ≡ Less
by_object x y l = ap (λ o. ordering_then o (part_cmp x.part y.part)) l

most : (m n : ℕ) → m ≤ n → is_le (nat_cmp m n) ≡ true
most m n h = go _ refl
  where
    go : (o : Ordering) → nat_cmp m n ≡ o → is_le o ≡ true
    go Less e = refl
    go Equal e = refl
    go Greater e = absurd (omega (arith, ranked m n _ (sym e)))

in_block : (k : Key) (s m n : ℕ) → address_cmp (symbol_address k (record { sbn = s; esi = m }))
    (symbol_address k (record { sbn = s; esi = n })) ≡ nat_cmp m n
in_block k s m n =
    ap (λ o. ordering_then o (ordering_then (nat_cmp s s) (nat_cmp m n))) (tied_itself key_total k)
    ∙ ap (λ o. ordering_then o (nat_cmp m n)) (tied_itself nat_cmp_total s)

-- what a line tells of

pub record Covers (k : Key) (gap : Gap) (at : Address) : Type 0 where
  pub id : SymbolId
  pub is : at ≡ symbol_address k id
  pub block : id.sbn ≡ gap.sbn
  pub first : gap.first ≤ id.esi
  pub last : id.esi ≤ gap.last

equal_is : (m n : ℕ) → nat_eq m n ≡ true → m ≡ n
equal_is m n h = grind (arith, nat_tests, h)

most_is : (m n : ℕ) → nat_le m n ≡ true → m ≤ n
most_is m n h = grind (arith, nat_tests, h)

covers : (k key : Key) (gap : Gap) (part : Part) → is_missing_by (record { key = key; part = part })
    (GapLine k gap) ≡ true → Covers k gap (record { key = key; part = part })
covers k key gap InfoPart h = absurd (false≢true (both (same_reason gap.reason Missing) false
    (both (same_key k key) (same_reason gap.reason Missing && false) h).1).1)
covers k key gap (SymbolPart id) h =
    let p = both (same_key k key) (same_reason gap.reason Missing && is_part_of gap (SymbolPart id)) h in
    let q = both (same_reason gap.reason Missing) (is_part_of gap (SymbolPart id)) p.1 in
    let r = both (nat_eq id.sbn gap.sbn) (nat_le gap.first id.esi && nat_le id.esi gap.last) q.1 in
    let s = both (nat_le gap.first id.esi) (nat_le id.esi gap.last) r.1 in
    record {
      id = id;
      is = cc (key_same k key p.0);
      block = equal_is _ _ r.0;
      first = most_is _ _ s.0;
      last = most_is _ _ s.1;
    }

-- an address that a gap covers is not before it begins, nor after it ends
begun : (k : Key) (gap : Gap) (at : Address) → Covers k gap at
    → is_le (address_cmp (begins (GapLine k gap)) at) ≡ true
begun k gap at c =
    let e = ap (λ x. address_cmp (begins (GapLine k gap)) x)
    (c.is ∙ ap (λ s. symbol_address k (record { sbn = s; esi = c.id.esi })) c.block) ∙ in_block k
    gap.sbn gap.first c.id.esi in ap is_le e ∙ most _ _ c.first

not_ended : (k : Key) (gap : Gap) (at : Address) → Covers k gap at
    → address_cmp (ends (GapLine k gap)) at ≡ Less → ⊥
not_ended k gap at c l =
    let e = ap (λ x. address_cmp (ends (GapLine k gap)) x)
    (c.is ∙ ap (λ s. symbol_address k (record { sbn = s; esi = c.id.esi })) c.block) ∙ in_block k
    gap.sbn gap.last c.id.esi in omega (arith, ranked gap.last c.id.esi Less (sym (sym e ∙ l)))

-- what is behind an address

pub behind_later : (l : ListedLine) (a b : Address) → address_cmp a b ≡ Less
    → is_behind_line l a ≡ true → is_behind_line l b ≡ true
behind_later (ObjectLine k status) a b o h = most_then k _ _ h (object_order a b o)
behind_later (GapLine k gap) a b o h = ap is_lt
    (address_total.trans (ends (GapLine k gap)) a b (less_is _ h) o)

-- a line that comes before one that is behind an address is behind it
pub behind_before : (p l : ListedLine) (a : Address) → MayCome (Some p) l
    → is_behind_line l a ≡ true → is_behind_line p a ≡ true
behind_before (ObjectLine k status) (ObjectLine key s) a o h = ap is_le (less_then k _ _ o h)
behind_before (GapLine k gap) (ObjectLine key s) a o h =
    ap is_lt (by_object (ends (GapLine k gap)) a (less_then k _ _ o h))
behind_before (ObjectLine k status) (GapLine key gap) a o h =
    rw o.1 (object_order (ends (GapLine key gap)) a (less_is _ h))
behind_before (GapLine k g) (GapLine key gap) a o h = ap is_lt (address_total.trans
    (ends (GapLine k g)) (begins (GapLine key gap)) a o.3 (then_before (begins (GapLine key gap))
    (ends (GapLine key gap)) a (cc (in_block key gap.sbn gap.first gap.last, most _ _ o.2))
    (less_is _ h)))

-- a gap that is behind an address doesn't tell of it
pub behind_tells : (l : ListedLine) (a : Address) → is_behind_line l a ≡ true
    → is_missing_by a l ≡ false
behind_tells (ObjectLine k status) a h = refl
behind_tells (GapLine k gap) a h = elim (cases_Bool _) [
  | inl e ↦ absurd (not_ended k gap a (covers k _ _ _ e) (less_is _ h))
  | inr e ↦ e
]

-- nor does one that comes after a line that is not behind it
pub ahead_tells : (l m : ListedLine) (a : Address) → MayCome (Some l) m
    → is_behind_line l a ≡ false → is_missing_by a m ≡ false
ahead_tells l (ObjectLine k status) a o h = refl
ahead_tells (ObjectLine k status) (GapLine key gap) a o h =
    elim (cases_Bool _) [
      | inl e ↦
          let c = covers _ _ gap a.part e in
          absurd (false≢true (sym h ∙ ap is_le (ap (λ x. key_cmp k x.key) c.is
          ∙ ap (λ x. key_cmp x key) o.1 ∙ tied_itself key_total key)))
      | inr e ↦ e
    ]
ahead_tells (GapLine k g) (GapLine key gap) a o h = elim (cases_Bool _) [
  | inl e ↦ absurd (false≢true (sym h ∙ ap is_lt (before_then (ends (GapLine k g))
      (begins (GapLine key gap)) a o.3 (begun key gap a (covers _ _ _ _ e)))))
  | inr e ↦ e
]

-- an object that is not behind an address is another
pub ahead_object : (k : Key) (a : Address) → is_le (key_cmp k a.key) ≡ false
    → same_key k a.key ≡ false
ahead_object k a h = go _ h
  where
    go : (o : Ordering) → is_le o ≡ false → is_eq o ≡ false
    go Less h = refl
    go Equal h = absurd (false≢true (sym h))
    go Greater h = refl

-- and so is one before an object that is behind it
pub behind_object : (x k : Key) (a : Address) → key_cmp x k ≡ Less
    → is_le (key_cmp k a.key) ≡ true → same_key x a.key ≡ false
behind_object x k a l h = ap is_eq (less_then x k _ l h)
