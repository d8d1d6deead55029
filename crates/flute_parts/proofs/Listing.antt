-- Ids listed block after block: the place of an id, and the id at a place (specs/Partition).
use Rattle.std.proofs.lemmas.Grind.{common_steps}
use Rattle.std.proofs.Common.{rules}
use Rattle.std.proofs.Common.{◌≡◌, ℕ, zero, suc, ◌+◌, ◌-◌, ◌*◌, ◌<◌}
use Rattle.std.proofs.Common.{◌≤◌, true, cond, List, [], ◌∷◌, ◌++◌, length, get_or}
use Rattle.std.proofs.Common.{take, map, replicate, Some, None, refl, sym, ap, ◌∙◌, subst}
use Rattle.std.proofs.Common.{inl, inr, ◌⊎◌, arith, length-append}
use Rattle.std.specs.Prelude.{flat_map, slice_get}
use Rattle.std.specs.List.{position_from, range_with_len, enumerate_from}
use Rattle.std.proofs.lemmas.Bool.{false≢true, cases_lt, cases_Bool}
use Rattle.std.proofs.lemmas.Bool.Decides.{nat_tests}
use Rattle.std.specs.Ordering.{nat_cmp, ordering_then}
use Rattle.std.specs.declared.cmp.Ordering.TheVariants.{Less, Equal}
use Rattle.std.proofs.lemmas.List.FromFn.{length-map-range_with_len}
use Rattle.std.proofs.lemmas.Option.{slice_get_within}
use Rattle.flute_parts.specs.declared.symbol_id.SymbolId.{SymbolId}
use Rattle.flute_parts.specs.Order.{symbol_id_cmp, same_symbol_id}
use Rattle.flute_parts.specs.Partition.{symbol_id, block_ids}
use Rattle.flute_parts.specs.Split.{total}
use Rattle.flute_parts.specs.Equality.{symbol_id_same, symbol_id_itself}

-- the ids of blocks of these sizes, numbered from n on
abbrev pub listing : ℕ → List ℕ → List SymbolId
listing n sizes = flat_map block_ids (enumerate_from n sizes)

abbrev block : ℕ → ℕ → ℕ → List SymbolId
block n a s = map (symbol_id n) (range_with_len a s)

-- one block, followed by others

block-hit : (n a s k j : ℕ) {e : ℕ} (rest : List SymbolId) → j < s → a + j ≡ e
    → position_from (same_symbol_id (symbol_id n e)) k (block n a s ++ rest) ≡ Some (k + j)
block-hit n a zero k j rest h f = absurd (omega arith)
block-hit n a (suc s) k j {e = e} rest h f =
    elim (cases_Bool (same_symbol_id (symbol_id n e) (symbol_id n a))) [
      | inl t ↦
          let q : e ≡ a =
          ap (λ (x : SymbolId). x.esi) (symbol_id_same (symbol_id n e) (symbol_id n a) t) in
          ap (λ b. cond b (Some k) (position_from (same_symbol_id (symbol_id n e)) (k + 1)
          (block n (a + 1) s ++ rest))) t
          ∙ ap Some (omega arith)
      | inr t ↦
          let q : 0 < j = elim (cases_zero j) [
            | inl z ↦ absurd
                (false≢true
                (sym t ∙ subst (λ x. same_symbol_id (symbol_id n e) (symbol_id n x) ≡ true)
                (omega arith) (symbol_id_itself (symbol_id n e))))
            | inr z ↦ z
          ] in
          ap (λ b. cond b (Some k) (position_from (same_symbol_id (symbol_id n e)) (k + 1)
          (block n (a + 1) s ++ rest))) t
          ∙ block-hit n (a + 1) s (k + 1) (j - 1) rest (omega arith) (omega arith)
          ∙ ap Some (omega arith)
    ]
  where
    cases_zero : (j : ℕ) → (j ≡ 0) ⊎ (0 < j)
    cases_zero zero = inl refl
    cases_zero (suc j) = inr (omega arith)

block-miss : (id : SymbolId) (n a s k : ℕ) {p : ℕ} (rest : List SymbolId) →
    ((e : ℕ) → a ≤ e → e < a + s → id ≡ symbol_id n e → ⊥) → k + s ≡ p → position_from
    (same_symbol_id id) k (block n a s ++ rest) ≡ position_from (same_symbol_id id) p rest
block-miss id n a zero k rest h g = ap (λ x. position_from (same_symbol_id id) x rest) (omega arith)
block-miss id n a (suc s) k {p = p} rest h g =
    elim (cases_Bool (same_symbol_id id (symbol_id n a))) [
      | inl t ↦ absurd (h a (omega arith) (omega arith) (symbol_id_same id _ t))
      | inr t ↦ ap (λ b. cond b (Some k)
          (position_from (same_symbol_id id) (k + 1) (block n (a + 1) s ++ rest))) t ∙ block-miss id
          n (a + 1) s _ _ (λ e l u q. h e (omega (arith, l)) (omega (arith, u)) q) (omega arith)
    ]

-- the place of an id is after all ids of the blocks before its own
pub place-hit : (sizes : List ℕ) (n m j k : ℕ) {q : ℕ} → m < length sizes → j < get_or sizes m 0 → n
    + m ≡ q → position_from (same_symbol_id (symbol_id q j)) k (listing n sizes) ≡ Some
    (k + (total (take m sizes) + j))
place-hit [] n m j k h l f = absurd (omega arith)
place-hit (s ∷ sizes) n zero j k {q = q} h l f =
    let e : q ≡ n = omega arith in
    ap (λ x. position_from (same_symbol_id (symbol_id x j)) k (listing n (s ∷ sizes))) e ∙ block-hit
    n 0 s k j _ l (omega arith) ∙ ap Some (omega arith)
place-hit (s ∷ sizes) n (suc m) j k {q = q} h l f = block-miss _ n 0 s k _
    (λ e _ _ x. let y = ap (λ i. i.sbn) x in omega arith) refl ∙ place-hit sizes _ m j _
    (omega arith) l (omega arith) ∙ ap Some (omega arith)

-- an id beyond its block, or of no block, has no place
pub place-miss : (sizes : List ℕ) (id : SymbolId) (n k : ℕ)
    → ((m : ℕ) → m < length sizes → n + m ≡ id.sbn → get_or sizes m 0 ≤ id.esi)
    → position_from (same_symbol_id id) k (listing n sizes) ≡ None
place-miss [] id n k h = refl
place-miss (s ∷ sizes) id n k h = block-miss id n 0 s k _ (λ e _ u x. let y = ap (λ i. i.sbn) x in
    let z = ap (λ i. i.esi) x in
    let w = h 0 (omega arith) (omega arith) in
    omega (arith, u)) refl ∙ place-miss sizes id _ _
    (λ m l e. h (suc m) (omega (arith, l)) (omega (arith, e)))

-- the id at a place

slice_get-left : (xs ys : List SymbolId) (k : ℕ) → k < length xs
    → slice_get (xs ++ ys) k ≡ slice_get xs k
slice_get-left [] ys k h = absurd (omega arith)
slice_get-left (x ∷ xs) ys zero h = refl
slice_get-left (x ∷ xs) ys (suc k) h = slice_get-left xs ys k (omega arith)

slice_get-right : (xs ys : List SymbolId) (k p : ℕ) → length xs + k ≡ p
    → slice_get (xs ++ ys) p ≡ slice_get ys k
slice_get-right [] ys k p h = ap (slice_get ys) (omega arith)
slice_get-right (x ∷ xs) ys k zero h = absurd (omega arith)
slice_get-right (x ∷ xs) ys k (suc p) h = slice_get-right xs ys k p (omega arith)

block-at : (n a s j e : ℕ) → j < s → a + j ≡ e → slice_get (block n a s) j ≡ Some (symbol_id n e)
block-at n a zero j e h f = absurd (omega arith)
block-at n a (suc s) zero e h f = ap (λ x. Some (symbol_id n x)) (omega arith)
block-at n a (suc s) (suc j) e h f = block-at n (a + 1) s j e (omega arith) (omega arith)

pub listing-at : (sizes : List ℕ) (n m j : ℕ) {q p : ℕ} → m < length sizes → j < get_or sizes m 0 →
    n + m ≡ q → total (take m sizes) + j ≡ p → slice_get (listing n sizes) p ≡ Some (symbol_id q j)
listing-at [] n m j h l f g = absurd (omega arith)
listing-at (s ∷ sizes) n zero j {p = p} h l f g =
    let len = length-map-range_with_len (symbol_id n) 0 s in
    let e : p ≡ j = omega arith in
    ap (slice_get (listing n (s ∷ sizes))) e ∙ slice_get-left (block n 0 s) _ j (omega arith) ∙
    block-at n 0 s j j l (omega arith) ∙ ap (λ x. Some (symbol_id x j)) (omega arith)
listing-at (s ∷ sizes) n (suc m) j {q = q} {p = p} h l f g =
    let len = length-map-range_with_len (symbol_id n) 0 s in
    slice_get-right (block n 0 s) _ _ p (omega arith)
    ∙ listing-at sizes (n + 1) m j (omega arith) l (omega arith) refl

pub length-listing : (n : ℕ) (sizes : List ℕ) → length (listing n sizes) ≡ total sizes
length-listing n [] = refl
length-listing n (s ∷ sizes) = omega (
  arith,
  length-append (block n 0 s) (listing (n + 1) sizes),
  length-map-range_with_len (symbol_id n) 0 s,
  length-listing (n + 1) sizes,
)

-- larger blocks and then smaller ones

abbrev pub split : ℕ → ℕ → ℕ → ℕ → List ℕ
split large x small y = replicate large x ++ replicate small y

pub length-split : (large x small y : ℕ) → length (split large x small y) ≡ large + small
length-split large x small y = grind (arith, common_steps)

pub size-large : (large x small y m : ℕ) → m < large → get_or (split large x small y) m 0 ≡ x
size-large x0 x1 x2 x3 x4 x5 = grind (arith, common_steps)

size-alone : (small y m : ℕ) → m < small → get_or (replicate small y) m 0 ≡ y
size-alone x0 x1 x2 x3 = grind (arith, common_steps)

pub size-small : (large x small y m : ℕ) → large ≤ m → m < large + small
    → get_or (split large x small y) m 0 ≡ y
size-small zero x small y m h l = size-alone _ y m (omega arith)
size-small (suc large) x small y zero h l = absurd (omega arith)
size-small (suc large) x small y (suc m) h l = size-small large x _ y m (omega arith) (omega arith)

size-alone_none : (small y m : ℕ) → small ≤ m → get_or (replicate small y) m 0 ≡ 0
size-alone_none x0 x1 x2 x3 = grind (arith, common_steps)

pub size-none : (large x small y m : ℕ) → large + small ≤ m → get_or (split large x small y) m 0 ≡ 0
size-none zero x small y m h = size-alone_none _ y m (omega arith)
size-none (suc large) x small y zero h = absurd (omega arith)
size-none (suc large) x small y (suc m) h = size-none large x _ y m (omega arith)

pub before-large : (large x small y m : ℕ) → m ≤ large
    → total (take m (split large x small y)) ≡ m * x
before-large large x small y zero h = omega arith
before-large zero x small y (suc m) h = absurd (omega arith)
before-large (suc large) x small y (suc m) h =
    omega (arith, before-large large x small y m (omega arith))

before-alone : (small y m : ℕ) → m ≤ small → total (take m (replicate small y)) ≡ m * y
before-alone small y zero h = omega arith
before-alone zero y (suc m) h = absurd (omega arith)
before-alone (suc small) y (suc m) h = omega (arith, before-alone small y m (omega arith))

pub before-small : (large x small y m q : ℕ) → m ≤ small → large + m ≡ q
    → total (take q (split large x small y)) ≡ large * x + m * y
before-small zero x small y m q h e = search (rules, before-alone)
before-small (suc large) x small y m zero h e = absurd (omega arith)
before-small (suc large) x small y m (suc q) h e =
    omega (arith, before-small large x small y m q h (omega arith))

total-alone : (small y : ℕ) → total (replicate small y) ≡ small * y
total-alone zero y = omega arith
total-alone (suc small) y = omega (arith, total-alone small y)

pub total-split : (large x small y : ℕ) → total (split large x small y) ≡ large * x + small * y
total-split zero x small y = omega (arith, total-alone small y)
total-split (suc large) x small y = omega (arith, total-split large x small y)

-- each place is that of one symbol of one block

pub cover : (sizes : List ℕ) (k : ℕ) → k < total sizes → (m : ℕ) × (j : ℕ) × (m < length sizes) ×
    (j < get_or sizes m 0) × (total (take m sizes) + j ≡ k)
cover [] k h = absurd (omega arith)
cover (s ∷ sizes) k h = elim (cases_lt k s) [
  | inl l ↦ (0, k, omega arith, l, omega arith)
  | inr l ↦ let c = cover sizes (k - s) (omega arith) in
      (suc c.0, c.1, omega (arith, c.2), c.3, omega arith)
]

listed-within : (sizes : List ℕ) (n k : ℕ) (id : SymbolId)
    → slice_get (listing n sizes) k ≡ Some id → k < total sizes
listed-within sizes n k id e = search (rules, slice_get_within, length-listing)

-- the id at a place, as its block and its number there
pub listed-as : (sizes : List ℕ) (k : ℕ) (id : SymbolId) → slice_get (listing 0 sizes) k ≡ Some id →
    (id.sbn < length sizes) × (id.esi < get_or sizes id.sbn 0) ×
    (total (take id.sbn sizes) + id.esi ≡ k)
listed-as sizes k id e =
    let c = cover _ k (listed-within _ 0 k id e) in
    let f = listing-at _ 0 c.0 c.1 c.2 c.3 (omega arith) c.4 in
    let g : Some (symbol_id c.0 c.1) ≡ Some id = sym f ∙ e in
    let h : symbol_id c.0 c.1 ≡ id = cc in
    rw (← h) (c.2, c.3, c.4)

pub place-of_listed : (sizes : List ℕ) (k : ℕ) (id : SymbolId) → slice_get (listing 0 sizes) k ≡
    Some id → position_from (same_symbol_id id) 0 (listing 0 sizes) ≡ Some k
place-of_listed sizes k id e =
    let a = listed-as sizes k id e in
    place-hit sizes 0 _ _ 0 a.0 a.1 (omega arith) ∙ ap Some (omega arith)

pub listed-of_place : (id : SymbolId) (xs : List SymbolId) (k r : ℕ) → position_from
    (same_symbol_id id) k xs ≡ Some r → (k ≤ r) × (slice_get xs (r - k) ≡ Some id)
listed-of_place id [] k r e = cc
listed-of_place id (x ∷ xs) k r e = elim (cases_Bool (same_symbol_id id x)) [
  | inl t ↦ search rules
  | inr t ↦ let f : position_from (same_symbol_id id) (k + 1) xs ≡ Some r = search rules in
      let h = listed-of_place id xs _ r f in
      let z : r - k ≡ suc (r - (k + 1)) = omega arith in
      (omega arith, ap (slice_get (x ∷ xs)) z ∙ h.1)
]

-- within a block the next place is the next symbol's
pub next-in_block : (sizes : List ℕ) (k : ℕ) (id : SymbolId)
    → slice_get (listing 0 sizes) k ≡ Some id → id.esi + 1 < get_or sizes id.sbn 0
    → slice_get (listing 0 sizes) (k + 1) ≡ Some (symbol_id id.sbn (id.esi + 1))
next-in_block sizes k id e h =
    let a = listed-as _ k id e in
    listing-at _ 0 _ _ a.0 h (omega arith) (omega arith)

total-take_less : (sizes : List ℕ) (m n : ℕ) → m < n → m < length sizes
    → total (take m sizes) + get_or sizes m 0 ≤ total (take n sizes)
total-take_less [] m n h l = absurd (omega arith)
total-take_less (s ∷ sizes) zero zero h l = absurd (omega arith)
total-take_less (s ∷ sizes) zero (suc n) h l = omega arith
total-take_less (s ∷ sizes) (suc m) zero h l = absurd (omega arith)
total-take_less (s ∷ sizes) (suc m) (suc n) h l =
    omega (arith, total-take_less sizes m n (omega arith) (omega arith))

-- later places have later ids
pub ids-rise : (sizes : List ℕ) (j k : ℕ) (a b : SymbolId) → j < k → slice_get (listing 0 sizes) j ≡
    Some a → slice_get (listing 0 sizes) k ≡ Some b → symbol_id_cmp a b ≡ Less
ids-rise sizes j k a b h e f =
    let x = listed-as sizes j a e in
    let y = listed-as _ k b f in
    elim (cases_lt a.sbn b.sbn) [
      | inl l ↦ ap (λ o. ordering_then o (nat_cmp a.esi b.esi)) (below_is a.sbn b.sbn l)
      | inr l ↦ elim (cases_lt b.sbn a.sbn) [
        | inl m ↦ absurd (omega (arith, total-take_less sizes b.sbn a.sbn m y.0))
        | inr m ↦
            let same : a.sbn ≡ b.sbn = omega arith in
            let t =
            ap (λ n. total (take n sizes)) same in
            let less : a.esi < b.esi = omega arith in
            ap (λ n. ordering_then (nat_cmp n b.sbn) (nat_cmp a.esi b.esi)) same
            ∙ ap (λ o. ordering_then o (nat_cmp a.esi b.esi)) (equal_is b.sbn)
            ∙ below_is a.esi b.esi less
      ]
    ]
  where
    below_is : (m n : ℕ) → m < n → nat_cmp m n ≡ Less
    below_is m n l = grind (arith, nat_tests)

    equal_is : (n : ℕ) → nat_cmp n n ≡ Equal
    equal_is n = grind (arith, nat_tests)
